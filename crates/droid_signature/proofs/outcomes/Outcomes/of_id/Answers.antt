-- The only signature with the ID.
use Rattle.std.proofs.Common.{◌≡◌, ◌∙◌, List, sym, subst}
use Rattle.std.proofs.lemmas.Result.{IfErr-weaker, IfOk-weaker}
use Rattle.droid_signature.specs.Holders.{holder}
use Rattle.droid_signature.specs.declared.ids.Holder.TheVariants.{Only}
use Rattle.droid_signature.specs.Outcomes.{AreOutcomes}
use Rattle.droid_signature.specs.Signatures.{ids_of}
use Rattle.droid_signature.specs.declared.outcomes.Outcome.{Outcome}
use Rattle.droid_signature.proofs.OutcomeLists.{here_reason, only_there}
use Rattle.droid_signature.proofs.outcomes.Outcomes.of_id.Goals as goal

pub returns-in-Only-clause-ok : goal.returns-in-Only-clause-ok
returns-in-Only-clause-ok c = IfOk-weaker c.taken_at.result _ _ (λ all h signatures are.
    let held : holder c.args.id (ids_of signatures) ≡ Only c.in-Only.place = sym (c.holder.ensures (ids_of signatures) are.ids) ∙ c.in-Only.is in
    let (signature, there) = only_there signatures c.args.id c.in-Only.place held in
    (c.in-Only.place, signature, record { held = held; there = there }, h signatures signature (subst (λ (l : List Outcome). AreOutcomes signatures l) (sym c.as_slice.ensures.value) are.each) there)) c.taken_at.ensures.ok

pub returns-in-Only-clause-err : goal.returns-in-Only-clause-err
returns-in-Only-clause-err c = IfErr-weaker c.taken_at.result _ _ (λ reason h signatures are.
    let held : holder c.args.id (ids_of signatures) ≡ Only c.in-Only.place = sym (c.holder.ensures (ids_of signatures) are.ids) ∙ c.in-Only.is in
    let (signature, there) = only_there signatures c.args.id c.in-Only.place held in
    here_reason signatures c.args.id c.in-Only.place signature reason (record { held = held; there = there }) (h signatures signature (subst (λ (l : List Outcome). AreOutcomes signatures l) (sym c.as_slice.ensures.value) are.each) there)) c.taken_at.ensures.err
