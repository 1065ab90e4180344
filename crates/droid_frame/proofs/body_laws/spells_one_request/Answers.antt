use Rattle.droid_frame.proofs.RequestLaws.{spelled_once}
use Rattle.droid_frame.proofs.body_laws.spells_one_request.Goals as goal

pub returns : goal.returns
returns c = spelled_once
