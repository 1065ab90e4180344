use Rattle.droid_core_spec.proofs.Asked.{asked_in_no_version}
use Rattle.droid_core_spec.proofs.Meetings.{answer_malformed}
use Rattle.droid_core_spec.proofs.laws.other_versions_ask_nothing.Goals as goal

pub returns-clause-asks : goal.returns-clause-asks
returns-clause-asks c frame isnt = asked_in_no_version frame isnt

pub returns-clause-answer : goal.returns-clause-answer
returns-clause-answer c setting history frame isnt = answer_malformed setting history frame (asked_in_no_version frame isnt)
