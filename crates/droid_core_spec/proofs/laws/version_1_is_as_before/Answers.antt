use Rattle.std.proofs.Common.{[]}
use Rattle.droid_core_spec.proofs.BeforeVersion2.{asks_as_before, asked_as_before, answers_as_before, history_as_before, world_after_as_before, answer_after_as_before, frame_as_before, written_as_before}
use Rattle.droid_core_spec.proofs.laws.version_1_is_as_before.Goals as goal

pub returns-clause-requests : goal.returns-clause-requests
returns-clause-requests c frame request is = (asks_as_before frame request is, asked_as_before frame request is)

pub returns-clause-replies : goal.returns-clause-replies
returns-clause-replies c setting frames all = answers_as_before setting [] frames tt all

pub returns-clause-history : goal.returns-clause-history
returns-clause-history c setting frames all = history_as_before setting [] frames tt all

pub returns-clause-world : goal.returns-clause-world
returns-clause-world c setting frames all = world_after_as_before setting frames all

pub returns-clause-reply : goal.returns-clause-reply
returns-clause-reply c setting frames frame all is = answer_after_as_before setting frames frame all is

pub returns-clause-bytes : goal.returns-clause-bytes
returns-clause-bytes c client number reply = frame_as_before client number reply

pub returns-clause-written : goal.returns-clause-written
returns-clause-written c setting frames all = written_as_before setting frames all
