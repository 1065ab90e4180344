use Rattle.std.proofs.Common.{[]}
use Rattle.std.proofs.lemmas.List.{append-nil, drop_all}
use Rattle.droid_pronom.proofs.Flags.{rest_of_item}
use Rattle.droid_identity.specs.Identities.{IsBasisIn}
use Rattle.droid_identity.proofs.BasisLemmas.{based_more}
use Rattle.droid_identity.proofs.bases.bases_of.Goals as goal
use Rattle.droid_identity.proofs.bases.bases_of.Goals.{in-Some+in_ok-push, in_default}

pub loop-puid-preserved : goal.loop-puid-preserved
loop-puid-preserved c = λ file limit ends all.
    let inv = c.loop-puid.invariant file limit ends all in
    let e = rest_of_item c.args.puids.now c.loop-puid.puid-index c.puid-item.result c.loop-puid-test.true c.puid-item.is in
    let both = rw e at inv.0 in
    let there = rw c.as_str.ensures.value at (c.in_ok-found.ensures file limit ends (rw c.as_str.ensures.value both.0)) in
    elim c.match-found.branch [
      | in-Some+in_ok-push w ↦
          let has = rw w.in-Some.is at there in
          rw (w.bases-is, w.in_ok-push.ensures.items)
          (both.1, based_more (IsBasisIn c.args.registry.now file limit) c.args.registry.now.formats c.args.puids.now _ _ c.puid-item.result c.loop-puid.bases.items w.in-Some.basis e has inv.1)
      | in_default w ↦ let none = rw w.in_default.is at there in absurd none
    ]

pub returns : goal.returns
returns c = λ file limit ends all.
    rw append-nil at ((c.loop-puid.invariant file limit ends all).1 [] (rw (drop_all c.loop-puid.puid-index c.args.puids.now c.loop-puid-test.false) tt))
