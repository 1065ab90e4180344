use Rattle.droid_core_spec.proofs.Asked.{asks, asked_by, asks_none, none_asked_by}
use Rattle.droid_core_spec.proofs.laws.a_frame_asks_what_it_spells.Goals as goal

pub returns-clause-something : goal.returns-clause-something
returns-clause-something c frame request are = (asks frame request are, asked_by frame request)

pub returns-clause-nothing : goal.returns-clause-nothing
returns-clause-nothing c frame are = (asks_none frame, none_asked_by frame are)
