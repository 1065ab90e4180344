use Rattle.droid_cmd_serve.proofs.stream.answer_stream.Goals as goal

pub returns-clause-ends : goal.returns-clause-ends
returns-clause-ends g c = record {
  served = c.answer_service-served.result;
  ends = c.stream_end_of.ensures;
  settled = c.answer_service-served.ensures.settled;
  stream = c.answer_service-served.ensures.stream;
  answers = c.answer_service-served.ensures.answers;
}
