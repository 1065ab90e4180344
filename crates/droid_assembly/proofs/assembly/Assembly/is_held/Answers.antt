use Rattle.std.proofs.Common.{arith}
use Rattle.droid_assembly.specs.Fields.{state_of}
use Rattle.droid_assembly.specs.State.{StandsFor, count_of}
use Rattle.droid_assembly.proofs.Indexes.{missing_before}
use Rattle.droid_assembly.proofs.assembly.Assembly.is_held.Goals as goal

pub returns-then-index-self-clause-held : goal.returns-then-index-self-clause-held
returns-then-index-self-clause-held c pieces stands =
    let a = state_of c.self.inside in
    let before : StandsFor a pieces = rw c.self.view_is stands in
    missing_before (count_of a) pieces c.args.index (omega (arith, c.if-index-self.true, before.least))
