use Rattle.droid_cmd_serve.proofs.journal_connections.serve_with_journal.Goals as goal

pub returns : goal.returns
returns g c = record {
  served = c.serve_journal-served.result;
  ends = c.end_of.ensures;
  noted = c.serve_journal-served.ensures.noted;
  serves = c.serve_journal-served.ensures.journal;
  whole = (c.serve_journal-served.ensures.serves.steps, c.serve_journal-served.ensures.serves.holds);
}
