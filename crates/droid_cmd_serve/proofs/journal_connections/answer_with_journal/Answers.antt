use Rattle.droid_cmd_serve.proofs.journal_connections.answer_with_journal.Goals as goal

pub returns : goal.returns
returns g c = record {
  served = c.answer_journal-served.result;
  ends = c.stream_end_of.ensures;
  noted = c.answer_journal-served.ensures.noted;
  answers = c.answer_journal-served.ensures.journal;
}
