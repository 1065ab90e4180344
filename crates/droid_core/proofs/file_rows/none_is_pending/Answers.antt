use Rattle.std.proofs.Common.{◌≡◌, false, Option, None, Some, is_some, refl, sym, ◌∙◌}
use Rattle.droid_core.proofs.file_rows.none_is_pending.Goals as goal

none_there : {X : Type 0} (found : Option X) → is_some found ≡ false → found ≡ None
none_there None is = refl
none_there (Some x) is = absurd cc

pub returns-then-has_pending-clause-pending : goal.returns-then-has_pending-clause-pending
returns-then-has_pending-clause-pending c = λ file here. sym (c.has_pending.ensures file here) ∙ c.if-has_pending.true

pub returns-clause-none_pending : goal.returns-clause-none_pending
returns-clause-none_pending c = λ file here. none_there file.assembly.pending (sym (c.has_pending.ensures file here) ∙ c.if-has_pending.false)
