use Rattle.std.proofs.Common.{◌≡◌, ◌++◌, ◌∷◌, [], List, ℕ, nat_eq, length, inr, refl, sym, ap, ◌∙◌, arith}
use Rattle.std.proofs.lemmas.Bool.{false≢true}
use Rattle.droid_frame.specs.declared.frame.Frame.{Frame}
use Rattle.droid_remote.specs.Events.{Cut, Sent}
use Rattle.droid_remote.specs.declared.transfer.connection_steps.Stage.TheVariants.{Nowhere, First, Answered, All}
use Rattle.droid_remote.proofs.Counting.{counts_answered, counts_behind, counts_nowhere, counts_sent}
use Rattle.droid_remote.proofs.Going.{moves_none, moves_one}
use Rattle.droid_remote.proofs.transfer.connection_steps.write_behind.Goals as goal

pub returns-then-write : goal.returns-then-write
returns-then-write g c =
    rw c.in-All.is
    (λ known facts counts. moves_one g.C.Connection.does known (λ other. other ≡ c.args.frame.now) facts All (c.args.waiting.now.items ++ c.args.frame.now ∷ []) _ _ (Sent c.args.frame.now) c.if-write.ensures
    (inr (refl, counts.vouched tt)) (counts_sent known c.args.waiting.now.items c.args.frame.now facts counts))

pub returns-else-write : goal.returns-else-write
returns-else-write g c =
    rw c.in-All.is
    (λ known facts counts. moves_one g.C.Connection.does known (λ other. other ≡ c.args.frame.now) facts Nowhere (c.args.waiting.now.items ++ c.args.frame.now ∷ []) _ _ (Cut c.args.frame.now) c.if-write.ensures
    (inr (refl, counts.vouched tt)) (counts_nowhere known (c.args.waiting.now.items ++ c.args.frame.now ∷ []) []))

pub returns-else-is_empty : goal.returns-else-is_empty
returns-else-is_empty g c =
    let waiting = c.args.waiting.now in
    rw c.in-First.is
    (λ known facts counts. moves_none g.C.Connection.does known (λ other. other ≡ c.args.frame.now) facts First (waiting.items ++ c.args.frame.now ∷ []) _
    (counts_behind known waiting.items (c.args.frame.now ∷ []) facts
    (λ none. let empty : waiting.len ≡ 0 = omega (arith, waiting.ok.0, ap (λ (l : List Frame). length l) none) in
    false≢true (sym c.if-is_empty.false ∙ (c.is_empty.ensures ∙ ap (λ (n : ℕ). nat_eq n 0) empty)))
    counts))

pub returns-in-Answered : goal.returns-in-Answered
returns-in-Answered g c =
    rw c.in-Answered.is
    (λ known facts counts. moves_none g.C.Connection.does known (λ other. other ≡ c.args.frame.now) facts Answered (c.args.waiting.now.items ++ c.args.frame.now ∷ []) _
    (counts_answered known (c.args.waiting.now.items ++ c.args.frame.now ∷ []) facts (counts.vouched tt)))
