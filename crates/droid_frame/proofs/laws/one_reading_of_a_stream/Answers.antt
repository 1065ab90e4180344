use Rattle.droid_frame.proofs.StreamReadings.{one_way, one_way_there}
use Rattle.droid_frame.proofs.laws.one_reading_of_a_stream.Goals as goal

pub returns-clause-there : goal.returns-clause-there
returns-clause-there c = one_way_there

pub returns-clause-only : goal.returns-clause-only
returns-clause-only c = one_way
