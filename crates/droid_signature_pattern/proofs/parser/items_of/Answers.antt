-- One more item, none, and where the items stop.
use Rattle.std.proofs.Common.{◌≡◌, ◌∷◌, [], length, map, sym, ap, ◌∙◌, arith, vec_len}
use Rattle.std.proofs.lemmas.Bool.{eqb-true}
use Rattle.std.proofs.lemmas.List.{map-append, length-map}
use Rattle.droid_signature_pattern.specs.TermValues.{atom_of}
use Rattle.droid_signature_pattern.proofs.FaultLemmas.{passed_on}
use Rattle.droid_signature_pattern.proofs.TermFronts.{items_bad, items_end, items_next, items_only}
use Rattle.droid_signature_pattern.proofs.parser.items_of.Goals as goal

pub returns-in_err-item-clause-bad : goal.returns-in_err-item-clause-bad
returns-in_err-item-clause-bad c = λ was all end h some.
    items_bad c.args.text.now (map atom_of c.loop-alloc.items.items) c.loop-alloc.rest.now (sym c.loop-alloc-test.ensures)
    (c.in_err-item.ensures.bad (passed_on c.from_residual-in_err-item.result _ c.from_residual-in_err-item.ensures.1 was)) c.loop-alloc.invariant all end h

pub loop-alloc-preserved : goal.loop-alloc-preserved
loop-alloc-preserved c =
    let grown = ap (map atom_of) c.in_ok-push.ensures.items ∙ map-append atom_of c.loop-alloc.items.items (c.in_ok-item.item ∷ []) in
    items_next c.args.text.now (map atom_of c.loop-alloc.items.items) _ c.loop-alloc.rest.now c.in_ok-item.after.now (atom_of c.in_ok-item.item)
    (sym c.loop-alloc-test.ensures) c.in_ok-item.ensures.front grown c.loop-alloc.invariant

pub returns-then-is_empty-clause-bad : goal.returns-then-is_empty-clause-bad
returns-then-is_empty-clause-bad c = λ _ all end h some.
    let both = items_only c.args.text.now (map atom_of c.loop-alloc.items.items) c.loop-alloc.rest.now (sym c.loop-alloc-test.ensures) c.loop-alloc.invariant all end h in
    let zero : vec_len c.loop-alloc.items ≡ 0 = eqb-true (vec_len c.loop-alloc.items) 0 (sym c.if-is_empty.ensures) in
    omega (arith, ap length both.0, length-map c.loop-alloc.items.items atom_of, c.loop-alloc.items.ok)

pub returns-clause-spelled : goal.returns-clause-spelled
returns-clause-spelled c = items_end c.args.text.now (map atom_of c.loop-alloc.items.items) c.loop-alloc.rest.now (sym c.loop-alloc-test.ensures) c.loop-alloc.invariant

pub returns-clause-only : goal.returns-clause-only
returns-clause-only c = items_only c.args.text.now (map atom_of c.loop-alloc.items.items) c.loop-alloc.rest.now (sym c.loop-alloc-test.ensures) c.loop-alloc.invariant
