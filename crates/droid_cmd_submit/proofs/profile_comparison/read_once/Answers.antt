use Rattle.droid_cmd_submit.proofs.profile_comparison.read_once.Goals as goal

pub returns-in-Ok-false-clause-disturbed : goal.returns-in-Ok-false-clause-disturbed
returns-in-Ok-false-clause-disturbed g c = c.in-Ok-false.ensures.disturbed c.in-Ok-false.field-0-test

pub returns-in-Err-Sending-clause-ended : goal.returns-in-Err-Sending-clause-ended
returns-in-Err-Sending-clause-ended g c = rw c.in-Err-Sending.field-0-is at c.in-Err-Sending.ensures.ended

pub returns-in-Err-Long-clause-ended : goal.returns-in-Err-Long-clause-ended
returns-in-Err-Long-clause-ended g c = rw c.in-Err-Long.field-0-is at c.in-Err-Long.ensures.ended
