use Rattle.droid_cmd_serve.proofs.ManyEndings.{ends_serving, ends_unprinted, ends_unused}
use Rattle.droid_cmd_serve.proofs.many_connections.serve_port.Goals as goal

pub returns-in-Err : goal.returns-in-Err
returns-in-Err g c = λ made. ends_unused c.args.rules c.unconnected.result.ending c.unconnected.result.cause _ c.unconnected.ensures.ending c.unconnected.ensures.cause

pub returns-then-is_err : goal.returns-then-is_err
returns-then-is_err g c = λ made. ends_unprinted c.args.rules c.at.result.ending c.at.result.cause c.at.ensures.ending

pub returns : goal.returns
returns g c = λ made.
    ends_serving _ c.args.rules c.in-Ok.sockets c.serve_connections-ending.new.connections c.args.service c.serve_connections-ending.new.handler.service c.serve_connections-ending.result c.at-2.result.ending c.at-2.result.cause
    made c.serve_connections-ending.ensures.ends c.serve_connections-ending.ensures.limits c.serve_connections-ending.ensures.registry c.at-2.ensures.ending c.at-2.ensures.cause
