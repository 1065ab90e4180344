use Rattle.std.proofs.Common.{◌≡◌, ◌∙◌, ◌++◌, ℕ, List, ap, subst}
use Rattle.std.specs.Prelude.{OnErr, OnOk}
use Rattle.droid_journal.specs.Fronts.{IsFront}
use Rattle.droid_journal.proofs.Standing.{left_out}
use Rattle.droid_journal.proofs.journal.append_lacking.Goals as goal

pub returns-clause-appended : goal.returns-clause-appended
returns-clause-appended g c = λ s here.
    let rest : c.lacking-rest.result.now ≡ left_out c.args.ahead c.args.bytes.now.items = c.lacking-rest.ensures ∙ ap (left_out c.args.ahead) c.as_slice.ensures.value in
    subst (λ (t : List ℕ). OnOk c.append.result (g.F.LogFile.has c.append.new.self (s ++ t))) rest (c.append.ensures.appended s here)

pub returns-clause-part : goal.returns-clause-part
returns-clause-part g c = λ s here.
    let rest : c.lacking-rest.result.now ≡ left_out c.args.ahead c.args.bytes.now.items = c.lacking-rest.ensures ∙ ap (left_out c.args.ahead) c.as_slice.ensures.value in
    subst (λ (t : List ℕ). OnErr c.append.result ((part : List ℕ) × g.F.LogFile.has c.append.new.self (s ++ part) × IsFront part t)) rest (c.append.ensures.part s here)
