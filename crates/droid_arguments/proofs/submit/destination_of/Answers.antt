use Rattle.std.proofs.Common.{codes, Some, None}
use Rattle.std.specs.Str.Parse.{ExplainsUnsignedError, HasUnsignedDigitsIfOk, ParsesUnsigned}
use Rattle.clap.specs.Words.{found_of}
use Rattle.droid_arguments.proofs.Options.{number_read, number_or}
use Rattle.droid_arguments.proofs.submit.destination_of.Goals as goal

pub returns : goal.returns
returns c =
    let found = found_of c.args.submit.now in
    let wait = number_or (λ bs r. ParsesUnsigned 32 10 bs r × ExplainsUnsignedError 10 bs r × HasUnsignedDigitsIfOk bs r) 32 (λ text r gives. gives.0) 60
    found (codes "wait") c.get_one-3.result c.unwrap_or-wait.result c.get_one-3.ensures.none c.get_one-3.ensures.value c.unwrap_or-wait.ensures in
    let timeout = number_or (λ bs r. ParsesUnsigned 32 10 bs r × ExplainsUnsignedError 10 bs r × HasUnsignedDigitsIfOk bs r) 32 (λ text r gives. gives.0) 60
    found (codes "timeout") c.get_one-4.result c.unwrap_or-timeout.result c.get_one-4.ensures.none c.get_one-4.ensures.value c.unwrap_or-timeout.ensures in
    record {
      port = number_read (λ bs r. ParsesUnsigned 16 10 bs r × ExplainsUnsignedError 10 bs r × HasUnsignedDigitsIfOk bs r) 16 (λ text r gives. gives.0)
          found (codes "port") (Some c.in_ok-port.port) c.in_ok-port.ensures.none c.in_ok-port.ensures.value;
      client = number_read (λ bs r. ParsesUnsigned 32 10 bs r × ExplainsUnsignedError 10 bs r × HasUnsignedDigitsIfOk bs r) 32 (λ text r gives. gives.0)
          found (codes "client") (Some c.in_ok-client.client) c.in_ok-client.ensures.none c.in_ok-client.ensures.value;
      wait = wait;
      timeout = timeout;
    }

pub returns-in_err-port : goal.returns-in_err-port
returns-in_err-port c = rw c.from_residual.ensures (λ to is.
    number_read (λ bs r. ParsesUnsigned 16 10 bs r × ExplainsUnsignedError 10 bs r × HasUnsignedDigitsIfOk bs r) 16 (λ text r gives. gives.0)
    (found_of c.args.submit.now) (codes "port") None c.in_err-port.ensures.none c.in_err-port.ensures.value to.port is.port)

pub returns-in_err-client : goal.returns-in_err-client
returns-in_err-client c = rw c.from_residual-in_err-client.ensures (λ to is.
    number_read (λ bs r. ParsesUnsigned 32 10 bs r × ExplainsUnsignedError 10 bs r × HasUnsignedDigitsIfOk bs r) 32 (λ text r gives. gives.0)
    (found_of c.args.submit.now) (codes "client") None c.in_err-client.ensures.none c.in_err-client.ensures.value to.client is.client)
