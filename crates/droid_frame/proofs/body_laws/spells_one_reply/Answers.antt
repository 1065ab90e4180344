use Rattle.droid_frame.proofs.ReplyLaws as laws
use Rattle.droid_frame.proofs.body_laws.spells_one_reply.Goals as goal

pub returns : goal.returns
returns c = laws.spells_one_reply
