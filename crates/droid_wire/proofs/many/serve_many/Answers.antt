use Rattle.droid_wire.proofs.ServiceSteps.{always_settled, same_limits, same_registry, serves_many}
use Rattle.droid_wire.proofs.many.serve_many.Goals as goal

pub returns-clause-many : goal.returns-clause-many
returns-clause-many g c = λ setting history stands.
    serves_many g.C.Connections.does c.args.rules setting history c.args.connections.now c.serve_in_turns.new.connections c.args.handler.now c.serve_in_turns.new.handler c.serve_in_turns.result stands c.serve_in_turns.ensures

pub returns-clause-settled : goal.returns-clause-settled
returns-clause-settled g c = always_settled g.C.Connections.does c.args.rules c.args.connections.now c.serve_in_turns.new.connections c.args.handler.now c.serve_in_turns.new.handler c.serve_in_turns.result c.serve_in_turns.ensures

pub returns-clause-limits : goal.returns-clause-limits
returns-clause-limits g c = same_limits g.C.Connections.does c.args.rules c.args.connections.now c.serve_in_turns.new.connections c.args.handler.now c.serve_in_turns.new.handler c.serve_in_turns.result c.serve_in_turns.ensures

pub returns-clause-registry : goal.returns-clause-registry
returns-clause-registry g c = same_registry g.C.Connections.does c.args.rules c.args.connections.now c.serve_in_turns.new.connections c.args.handler.now c.serve_in_turns.new.handler c.serve_in_turns.result c.serve_in_turns.ensures
