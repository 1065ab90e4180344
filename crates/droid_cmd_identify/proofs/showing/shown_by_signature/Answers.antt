use Rattle.std.proofs.Common.{[]}
use Rattle.std.proofs.lemmas.List.{append-nil, drop_all}
use Rattle.droid_pronom.proofs.Flags.{rest_of_item}
use Rattle.droid_identity.specs.Identities.{IsBasisIn}
use Rattle.droid_cmd_identify.proofs.ShownLemmas.{basis_at, shown_more}
use Rattle.droid_cmd_identify.proofs.showing.shown_by_signature.Goals as goal
use Rattle.droid_cmd_identify.proofs.showing.shown_by_signature.Goals.{in-Some+in_ok-push, in_default}

pub loop-place-preserved : goal.loop-place-preserved
loop-place-preserved c = λ file limit all.
    let inv = c.loop-place.invariant file limit all in
    let B = IsBasisIn c.args.registry.now file limit in
    let formats = c.args.registry.now.formats in
    let e = rest_of_item c.args.puids.now c.loop-place.place c.index-puids-place.result c.loop-place-test.true c.index-puids-place.is in
    let (basis, at, known, bases_e, others) = basis_at B formats c.args.mismatch c.index-puids-place.result _ _ c.args.bases.now c.loop-place.place e inv.0 in
    let there = (rw c.as_str.ensures.value at c.shown_at.ensures) basis at known in
    elim c.match-shown_at.branch [
      | in-Some+in_ok-push w ↦
          rw (w.shown-is, w.in_ok-push.ensures.items)
          (others, shown_more B formats c.args.mismatch c.args.puids.now _ _ c.args.bases.now _ _ c.index-puids-place.result basis c.loop-place.shown.items w.in-Some.its e bases_e (rw w.in-Some.is at there) inv.1)
      | in_default w ↦ let none = rw w.in_default.is at there in absurd none
    ]

pub returns : goal.returns
returns c = λ file limit all.
    let inv = c.loop-place.invariant file limit all in
    rw append-nil at (inv.1 [] (rw (drop_all c.loop-place.place c.args.puids.now c.loop-place-test.false) tt))
