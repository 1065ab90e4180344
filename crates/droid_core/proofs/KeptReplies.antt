-- What the look-up of a kept reply says of the history that the replies stand for.
use Rattle.std.proofs.Common.{◌≡◌, ℕ, Bool, true, false, cond, [], ◌∷◌, find, Option, Some, None, option_map, refl, sym, subst, ◌∙◌}
use Rattle.std.specs.List.{AllByRecursion}
use Rattle.droid_core_spec.specs.Histories.{Entry, History, is_under, kept}
use Rattle.droid_core.specs.Replies.{entry_row, IsSpelled, KeepsReplies}
use Rattle.droid_core.proofs.LookUps.{reply_found}
use Rattle.droid_store.specs.declared.rows.Entry as rows
use Rattle.droid_store.specs.Rows.{Rows, reply_for}

entry_of_row : (o : Option Entry) (row : rows.Entry) → option_map entry_row o ≡ Some row → (entry : Entry) × (o ≡ Some entry) × (entry_row entry ≡ row)
entry_of_row None row e = absurd cc
entry_of_row (Some entry) row e = (entry, refl, cc)

no_entry : (o : Option Entry) → option_map entry_row o ≡ None → o ≡ None
no_entry None e = refl
no_entry (Some entry) e = absurd cc

-- the entry of a kept row
pub entry_kept : (history : History) (store : Rows) (client number : ℕ) (row : rows.Entry) → KeepsReplies history store → reply_for client number store ≡ Some row
    → (entry : Entry) × (kept history client number ≡ Some entry) × (entry_row entry ≡ row)
entry_kept history store client number row keeps found = entry_of_row (kept history client number) row (sym (reply_found history store client number keeps) ∙ found)

-- where no row is kept there is no entry
pub none_kept : (history : History) (store : Rows) (client number : ℕ) → KeepsReplies history store → reply_for client number store ≡ None → kept history client number ≡ None
none_kept history store client number keeps absent = no_entry (kept history client number) (sym (reply_found history store client number keeps) ∙ absent)

-- ---- a kept reply has a spelling in its request's version

found_or : (b : Bool) (first : Entry) (rest : Option Entry) (entry : Entry) → IsSpelled first → (rest ≡ Some entry → IsSpelled entry) → cond b (Some first) rest ≡ Some entry → IsSpelled entry
found_or true first rest entry spelled others e = let same : first ≡ entry = cc in subst IsSpelled same spelled
found_or false first rest entry spelled others e = others e

found_spelled : (p : Entry → Bool) (history : History) (entry : Entry) → AllByRecursion IsSpelled history → find p history ≡ Some entry → IsSpelled entry
found_spelled p [] entry spelled e = absurd cc
found_spelled p (first ∷ history) entry spelled e =
    found_or (p first) first (find p history) entry spelled.0 (found_spelled p history entry spelled.1) e

pub reply_spelled : (history : History) (client number : ℕ) (entry : Entry) → AllByRecursion IsSpelled history → kept history client number ≡ Some entry → IsSpelled entry
reply_spelled history client number entry spelled found = found_spelled (is_under client number) history entry spelled found
