use Rattle.droid_frame.proofs.ReplyAnswers.{found, accepted, malformed, memory}
use Rattle.droid_frame.proofs.reading.replies.reply_of.Goals as goal

pub returns-clause-found : goal.returns-clause-found
returns-clause-found c = found c.args.frame.version c.args.frame.kind c.args.frame.body c.value_of.result c.value_of.ensures.bytes c.value_of.ensures.answer

pub returns-clause-accepted : goal.returns-clause-accepted
returns-clause-accepted c = accepted c.args.frame.version c.args.frame.kind c.args.frame.body c.value_of.result c.value_of.ensures.answer

pub returns-clause-malformed : goal.returns-clause-malformed
returns-clause-malformed c = malformed c.args.frame.version c.args.frame.kind c.args.frame.body c.value_of.result c.value_of.ensures.bytes c.value_of.ensures.answer

pub returns-clause-memory : goal.returns-clause-memory
returns-clause-memory c = memory c.args.frame.version c.args.frame.kind c.args.frame.body c.value_of.result c.value_of.ensures.bytes c.value_of.ensures.answer
