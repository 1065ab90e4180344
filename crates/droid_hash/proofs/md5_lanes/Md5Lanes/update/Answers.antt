use Rattle.std.proofs.Common.{◌++◌, ℕ, List, ◌<◌, length, sym, ap, subst, arith}
use Rattle.std.proofs.Math.ListN.{get_or-map}
use Rattle.droid_hash.specs.Lanes.{piece}
use Rattle.droid_hash.specs.Md5.{Holds}
use Rattle.droid_hash.proofs.Alone.{at_each, nothing_more}
use Rattle.droid_hash.proofs.md5_lanes.Md5Lanes.update.Goals as goal

pub update_one-requires : goal.update_one-requires
update_one-requires c = omega (arith, c.in-Some.ensures.inside, c.lens-lens.ensures.count)

pub returns-in-Some : goal.returns-in-Some
returns-in-Some c =
    let given = c.args.pieces in
    let new = c.update_one.new.self in
    at_each (λ j. (m : List ℕ) → Holds c.args.self.now j m → Holds new j (m ++ piece j given)) c.in-Some.index 8
    (λ m held. subst (λ (x : List ℕ). Holds new c.in-Some.index (m ++ x)) (sym (get_or-map (λ x. x.now) given c.in-Some.index _)) (c.update_one.ensures.taken m held))
    (λ j low other m held.
    let there : j < length c.lens-lens.result = omega (arith, c.lens-lens.ensures.count) in
    nothing_more (Holds new j) m (piece j given) _ (c.in-Some.ensures.alone j there other) (c.lens-lens.ensures.value j low) (c.update_one.ensures.others j low other m held))
