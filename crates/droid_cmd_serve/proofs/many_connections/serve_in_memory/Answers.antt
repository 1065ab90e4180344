use Rattle.std.proofs.Common.{subst}
use Rattle.droid_turns.specs.declared.rules.Rules.{Rules}
use Rattle.droid_cmd_serve.specs.Many.{ManyEndsAs, rules_named}
use Rattle.droid_cmd_serve.proofs.ManyEndings.{ends_unmade}
use Rattle.droid_cmd_serve.proofs.many_connections.serve_in_memory.Goals as goal

pub returns-in-Ok : goal.returns-in-Ok
returns-in-Ok g c = subst (λ (rules : Rules). ManyEndsAs rules c.serve_port.result.ending c.serve_port.result.cause) c.rules_of.ensures (c.serve_port.ensures c.in-Ok.ensures.made)

pub returns-in-Err : goal.returns-in-Err
returns-in-Err g c = ends_unmade (rules_named c.args.options) c.in-Err.ended.ending c.in-Err.ended.cause c.in-Err.ensures.unmade
