use Rattle.droid_assembly.proofs.places.pass.Goals as goal

pub returns-clause-along : goal.returns-clause-along
returns-clause-along c pieces total count begun = rw c.len.ensures (c.pass_several.ensures.along pieces total count begun)

pub returns-clause-passed : goal.returns-clause-passed
returns-clause-passed c pieces total count begun = rw c.several.ensures (c.pass_several.ensures.passed pieces total count begun)
