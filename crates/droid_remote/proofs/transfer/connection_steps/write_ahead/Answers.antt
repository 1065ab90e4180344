use Rattle.std.proofs.Common.{Contains}
use Rattle.droid_remote.specs.declared.transfer.connection_steps.Stage.TheVariants.{First, All}
use Rattle.droid_remote.proofs.Counting.{first_all, first_first}
use Rattle.droid_remote.proofs.Going.{moves_none}
use Rattle.droid_remote.proofs.transfer.connection_steps.write_ahead.Goals as goal

pub returns-in-Answered-clause-moves : goal.returns-in-Answered-clause-moves
returns-in-Answered-clause-moves g c = rw c.in-Answered.is (λ facts counts. c.write_waiting.ensures.moves c.args.known.now facts (counts.vouched tt))

pub returns-in-First-clause-moves : goal.returns-in-First-clause-moves
returns-in-First-clause-moves g c = rw c.in-First.is (λ facts counts. moves_none g.C.Connection.does c.args.known.now (Contains c.args.waiting.now.items) facts First c.args.waiting.now.items _ counts)

pub returns-in-First-clause-first : goal.returns-in-First-clause-first
returns-in-First-clause-first g c = first_first c.args.waiting.now.items

pub returns-in-All-clause-moves : goal.returns-in-All-clause-moves
returns-in-All-clause-moves g c = rw c.in-All.is (λ facts counts. moves_none g.C.Connection.does c.args.known.now (Contains c.args.waiting.now.items) facts All c.args.waiting.now.items _ counts)

pub returns-in-All-clause-first : goal.returns-in-All-clause-first
returns-in-All-clause-first g c = first_all c.args.waiting.now.items
