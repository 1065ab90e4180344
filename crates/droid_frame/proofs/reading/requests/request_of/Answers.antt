use Rattle.droid_frame.proofs.Answering.{found_is_spelled, malformed_is_unspelled, spelled_is_found, wanted_is_spelled}
use Rattle.droid_frame.proofs.reading.requests.request_of.Goals as goal

pub returns-clause-found : goal.returns-clause-found
returns-clause-found c = found_is_spelled c.value_of.result c.args.frame.version c.args.frame.kind c.args.frame.body c.if-frame-ge-NUMBER_LIMIT.false c.value_of.ensures.bytes c.value_of.ensures.answer

pub returns-clause-accepted : goal.returns-clause-accepted
returns-clause-accepted c = λ request small spelled enough.
    spelled_is_found c.value_of.result c.args.frame.version c.args.frame.kind c.args.frame.body request c.value_of.ensures.answer spelled enough

pub returns-clause-malformed : goal.returns-clause-malformed
returns-clause-malformed c = malformed_is_unspelled c.value_of.result c.args.frame.version c.args.frame.kind c.args.frame.body c.if-frame-ge-NUMBER_LIMIT.false c.value_of.ensures.bytes c.value_of.ensures.answer

pub returns-clause-memory : goal.returns-clause-memory
returns-clause-memory c = λ out_of_memory.
    wanted_is_spelled c.value_of.result c.args.frame.version c.args.frame.kind c.args.frame.body (c.value_of.ensures.out_of_memory out_of_memory) c.if-frame-ge-NUMBER_LIMIT.false c.value_of.ensures.bytes c.value_of.ensures.answer out_of_memory
