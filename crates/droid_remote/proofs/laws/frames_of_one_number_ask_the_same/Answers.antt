use Rattle.droid_upload.specs.Calls.{attempt_of, request_of}
use Rattle.droid_remote.proofs.laws.frames_of_one_number_ask_the_same.Goals as goal

pub returns : goal.returns
returns c = λ client name one other asked other_asked same. c.equal_numbers_ask_the_same.ensures name (attempt_of one) (attempt_of other) (request_of one) (request_of other) asked other_asked same
