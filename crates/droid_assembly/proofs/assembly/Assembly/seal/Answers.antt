use Rattle.std.proofs.Common.{arith, sym, subst}
use Rattle.droid_assembly.specs.Fields.{state_of}
use Rattle.droid_assembly.specs.State.{StandsFor, IsComplete}
use Rattle.droid_frame.specs.Hashes.{IsHashValue}
use Rattle.droid_assembly.proofs.Digests.{is_hash_value}
use Rattle.droid_assembly.proofs.Whole.{length-complete}
use Rattle.droid_assembly.proofs.assembly.Assembly.seal.Goals as goal

pub returns-clause-size : goal.returns-clause-size
returns-clause-size c pieces stands =
    let a = state_of c.self.inside in
    let sound = c.self.invariant in
    let before : StandsFor a pieces = rw c.self.view_is stands in
    let whole = rw (← c.self.view_is) at c.count.ensures in
    let least = c.missing.ensures.least pieces stands in
    let first = rw (← c.self.view_is) at least in
    let complete : IsComplete a = omega (arith, c.if-missing-count.false, whole, first, before.least, sound.within) in
    rw (← c.self.view_is) (sym (length-complete a c.self.inside.front pieces sound complete before))

pub returns-clause-length : goal.returns-clause-length
returns-clause-length c = subst IsHashValue (sym (c.hash_of.ensures.value _ c.self.invariant.stands.is_hash)) (is_hash_value _ _)
