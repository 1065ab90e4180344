use Rattle.droid_lists.proofs.TextUnique.{nowhere, one_place}
use Rattle.droid_lists.proofs.spelling.text_law.a_text_is_wrong_in_one_place.Goals as goal

pub returns-clause-one : goal.returns-clause-one
returns-clause-one c = one_place

pub returns-clause-nowhere : goal.returns-clause-nowhere
returns-clause-nowhere c = nowhere
