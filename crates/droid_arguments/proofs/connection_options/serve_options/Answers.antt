use Rattle.std.proofs.Common.{codes}
use Rattle.std.specs.Str.Parse.{ExplainsUnsignedError, HasUnsignedDigitsIfOk, ParsesUnsigned}
use Rattle.clap.specs.Words.{found_of}
use Rattle.droid_arguments.proofs.Options.{number_or}
use Rattle.droid_arguments.proofs.connection_options.serve_options.Goals as goal

pub returns : goal.returns
returns c =
    let found = found_of c.args.serve.now in
    let seats = number_or (λ bs r. ParsesUnsigned 32 10 bs r × ExplainsUnsignedError 10 bs r × HasUnsignedDigitsIfOk bs r) 32 (λ text r gives. gives.0) 1
    found (codes "at-once") c.get_one.result c.unwrap_or-seats.result c.get_one.ensures.none c.get_one.ensures.value c.unwrap_or-seats.ensures in
    record {
      seats = seats;
      connections = c.in_ok-connections.ensures;
      idle = c.idle_of-idle.ensures;
      verbose = c.flag_of-verbose.ensures;
    }

pub returns-in_err-connections : goal.returns-in_err-connections
returns-in_err-connections c = rw c.from_residual.ensures (λ options is. c.in_err-connections.ensures options.connections is.connections)
