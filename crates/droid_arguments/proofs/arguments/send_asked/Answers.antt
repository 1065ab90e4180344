use Rattle.std.proofs.Common.{refl, codes, Some, None}
use Rattle.std.specs.Str.Parse.{ExplainsUnsignedError, HasUnsignedDigitsIfOk, ParsesUnsigned}
use Rattle.clap.specs.Words.{found_of, rows_of}
use Rattle.droid_arguments.proofs.Options.{number_read, number_or}
use Rattle.droid_arguments.proofs.Refusals.{asks_by}
use Rattle.droid_arguments.proofs.arguments.send_asked.Goals as goal

pub returns : goal.returns
returns c =
    let found = found_of c.args.send.now in
    let port = number_read (λ bs r. ParsesUnsigned 16 10 bs r × ExplainsUnsignedError 10 bs r × HasUnsignedDigitsIfOk bs r) 16 (λ text r gives. gives.0)
    found (codes "port") (Some c.in_ok-port.port) c.in_ok-port.ensures.none c.in_ok-port.ensures.value in
    let client = number_read (λ bs r. ParsesUnsigned 32 10 bs r × ExplainsUnsignedError 10 bs r × HasUnsignedDigitsIfOk bs r) 32 (λ text r gives. gives.0)
    found (codes "client") (Some c.in_ok-client.client) c.in_ok-client.ensures.none c.in_ok-client.ensures.value in
    let first = number_or (λ bs r. ParsesUnsigned 64 10 bs r × ExplainsUnsignedError 10 bs r × HasUnsignedDigitsIfOk bs r) 64 (λ text r gives. gives.0) 1
    found (codes "first") c.get_one-3.result c.unwrap_or-first.result c.get_one-3.ensures.none c.get_one-3.ensures.value c.unwrap_or-first.ensures in
    (refl, port, client, first)

pub returns-in_err-port : goal.returns-in_err-port
returns-in_err-port c = rw c.from_residual.ensures (λ asked is.
    let given = (asks_by (codes "send") (rows_of (found_of c.args.send.now)) asked is).0 in
    number_read (λ bs r. ParsesUnsigned 16 10 bs r × ExplainsUnsignedError 10 bs r × HasUnsignedDigitsIfOk bs r) 16 (λ text r gives. gives.0)
    (found_of c.args.send.now) (codes "port") None c.in_err-port.ensures.none c.in_err-port.ensures.value given.0 given.1)

pub returns-in_err-client : goal.returns-in_err-client
returns-in_err-client c = rw c.from_residual-in_err-client.ensures (λ asked is.
    let given = (asks_by (codes "send") (rows_of (found_of c.args.send.now)) asked is).1 in
    number_read (λ bs r. ParsesUnsigned 32 10 bs r × ExplainsUnsignedError 10 bs r × HasUnsignedDigitsIfOk bs r) 32 (λ text r gives. gives.0)
    (found_of c.args.send.now) (codes "client") None c.in_err-client.ensures.none c.in_err-client.ensures.value given.0 given.1)
