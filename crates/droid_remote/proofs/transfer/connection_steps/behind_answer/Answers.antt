use Rattle.droid_remote.proofs.transfer.connection_steps.behind_answer.Goals as goal

pub returns-in-All : goal.returns-in-All
returns-in-All c = λ waiting rest are. rw c.in-All.is are
