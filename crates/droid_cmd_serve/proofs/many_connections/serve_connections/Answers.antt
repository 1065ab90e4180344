use Rattle.droid_cmd_serve.proofs.many_connections.serve_connections.Goals as goal

pub returns-clause-ends : goal.returns-clause-ends
returns-clause-ends g c = record {
  served = c.serve_many-served.result;
  ends = c.end_of.ensures;
  settled = c.serve_many-served.ensures.settled;
  serves = c.serve_many-served.ensures.many;
}
