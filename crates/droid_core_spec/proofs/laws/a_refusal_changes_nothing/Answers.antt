use Rattle.std.proofs.Common.{ap}
use Rattle.droid_frame.specs.Replies.{is_refused}
use Rattle.droid_core_spec.proofs.Replied.{refused_stays}
use Rattle.droid_core_spec.proofs.laws.a_refusal_changes_nothing.Goals as goal

pub returns : goal.returns
returns c setting history frame refusal is = refused_stays setting history frame (ap is_refused is)
