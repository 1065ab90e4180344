use Rattle.droid_core_spec.proofs.Meetings.{answer_malformed}
use Rattle.droid_core_spec.proofs.Replied.{accepted_is_kept, answer_had, accepted_for_ever, answer_again, answer_reused}
use Rattle.droid_core_spec.proofs.laws.an_accepted_reply_stays.Goals as goal

pub returns-clause-kept : goal.returns-clause-kept
returns-clause-kept c setting history frame request asked commands unrefused = accepted_is_kept setting history frame request asked commands unrefused

pub returns-clause-same : goal.returns-clause-same
returns-clause-same c setting history frame reply frames has some = answer_had setting history frames frame reply has some

pub returns-clause-accepted : goal.returns-clause-accepted
returns-clause-accepted c setting history frame request frames asked commands unrefused = accepted_for_ever setting history frame request asked commands frames unrefused

pub returns-clause-again : goal.returns-clause-again
returns-clause-again c setting history frame entry frames legal there kind body = answer_again setting history frames frame entry legal there kind body

pub returns-clause-other : goal.returns-clause-other
returns-clause-other c setting history frame entry frames there some other = answer_reused setting history frames frame entry there some other

pub returns-clause-malformed : goal.returns-clause-malformed
returns-clause-malformed c setting history frame asked = answer_malformed setting history frame asked
