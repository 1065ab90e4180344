-- One more alternative, none, and the closing parenthesis.
use Rattle.std.proofs.Common.{◌∷◌, [], ℕ, map, ap, ◌∙◌}
use Rattle.std.proofs.lemmas.List.{map-append}
use Rattle.droid_signature_pattern.specs.TermValues.{atom_of}
use Rattle.droid_signature_pattern.proofs.BoundLemmas.{no_length}
use Rattle.droid_signature_pattern.proofs.FaultLemmas.{passed_on}
use Rattle.droid_signature_pattern.proofs.TermFronts.{alternatives_bad, alternatives_end, alternatives_next, alternatives_only, alternatives_open, is_bar}
use Rattle.droid_signature_pattern.proofs.parser.alternatives_of.Goals as goal

pub returns-in_err-items-clause-bad : goal.returns-in_err-items-clause-bad
returns-in_err-items-clause-bad c = λ was all end h.
    alternatives_bad c.args.text.now (map (λ items. map atom_of items.items) c.loop-alternatives.alternatives.items) c.loop-alternatives.rest.now
    (c.in_err-items.ensures.bad (passed_on c.from_residual.result _ c.from_residual.ensures.1 was)) c.loop-alternatives.invariant all end h

pub returns-in_err-stop-clause-bad : goal.returns-in_err-stop-clause-bad
returns-in_err-stop-clause-bad c = λ _ all end h.
    let none = rw c.in_err-stop.ensures.ok_part at c.split_first.ensures.cases in
    alternatives_open c.args.text.now (map (λ items. map atom_of items.items) c.loop-alternatives.alternatives.items) c.loop-alternatives.rest.now c.in_ok-items.after.now (map atom_of c.in_ok-items.items.items)
    (record { spelled = c.in_ok-items.ensures.spelled; some = c.in_ok-items.ensures.some; only = c.in_ok-items.ensures.only }) (no_length c.in_ok-items.after.now none) c.loop-alternatives.invariant all end h

pub returns-then-stop-eq41-clause-spelled : goal.returns-then-stop-eq41-clause-spelled
returns-then-stop-eq41-clause-spelled c =
    let whole = (rw c.in_ok-stop.ensures.ok_part at c.split_first.ensures.cases).0 in
    let grown = ap (map (λ items. map atom_of items.items)) c.in_ok-push.ensures.items ∙ map-append (λ items. map atom_of items.items) c.loop-alternatives.alternatives.items (c.in_ok-items.items ∷ []) in
    alternatives_end c.args.text.now (map (λ items. map atom_of items.items) c.loop-alternatives.alternatives.items) _ c.loop-alternatives.rest.now c.in_ok-items.after.now c.in_ok-stop.more.now (map atom_of c.in_ok-items.items.items)
    (record { spelled = c.in_ok-items.ensures.spelled; some = c.in_ok-items.ensures.some; only = c.in_ok-items.ensures.only })
    (whole ∙ ap (λ (x : ℕ). x ∷ c.in_ok-stop.more.now) c.if-stop-eq41.true) grown c.loop-alternatives.invariant

pub returns-then-stop-eq41-clause-only : goal.returns-then-stop-eq41-clause-only
returns-then-stop-eq41-clause-only c =
    let whole = (rw c.in_ok-stop.ensures.ok_part at c.split_first.ensures.cases).0 in
    let grown = ap (map (λ items. map atom_of items.items)) c.in_ok-push.ensures.items ∙ map-append (λ items. map atom_of items.items) c.loop-alternatives.alternatives.items (c.in_ok-items.items ∷ []) in
    alternatives_only c.args.text.now (map (λ items. map atom_of items.items) c.loop-alternatives.alternatives.items) _ c.loop-alternatives.rest.now c.in_ok-items.after.now c.in_ok-stop.more.now (map atom_of c.in_ok-items.items.items)
    (record { spelled = c.in_ok-items.ensures.spelled; some = c.in_ok-items.ensures.some; only = c.in_ok-items.ensures.only })
    (whole ∙ ap (λ (x : ℕ). x ∷ c.in_ok-stop.more.now) c.if-stop-eq41.true) grown c.loop-alternatives.invariant

pub loop-alternatives-preserved : goal.loop-alternatives-preserved
loop-alternatives-preserved c =
    let whole = (rw c.in_ok-stop.ensures.ok_part at c.split_first.ensures.cases).0 in
    let grown = ap (map (λ items. map atom_of items.items)) c.in_ok-push.ensures.items ∙ map-append (λ items. map atom_of items.items) c.loop-alternatives.alternatives.items (c.in_ok-items.items ∷ []) in
    let (front, cut, spelled, stop) = c.in_ok-items.ensures.spelled in
    let bar = is_bar c.in_ok-items.after.now c.in_ok-stop.more.now c.in_ok-stop.stop.now stop whole c.if-stop-eq41.false in
    alternatives_next c.args.text.now (map (λ items. map atom_of items.items) c.loop-alternatives.alternatives.items) _ c.loop-alternatives.rest.now c.in_ok-items.after.now c.in_ok-stop.more.now (map atom_of c.in_ok-items.items.items)
    (record { spelled = c.in_ok-items.ensures.spelled; some = c.in_ok-items.ensures.some; only = c.in_ok-items.ensures.only })
    (whole ∙ ap (λ (x : ℕ). x ∷ c.in_ok-stop.more.now) bar) grown c.loop-alternatives.invariant
