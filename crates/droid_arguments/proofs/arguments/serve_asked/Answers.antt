use Rattle.std.proofs.Common.{◌∙◌, refl, codes, Some, None}
use Rattle.std.specs.Str.Parse.{ExplainsUnsignedError, HasUnsignedDigitsIfOk, ParsesUnsigned}
use Rattle.clap.specs.Words.{found_of, rows_of}
use Rattle.clap.proofs.WalkLemmas.{first_value-rows}
use Rattle.droid_arguments.proofs.Options.{number_read}
use Rattle.droid_arguments.proofs.Refusals.{asks_by}
use Rattle.droid_arguments.proofs.arguments.serve_asked.Goals as goal

pub returns : goal.returns
returns c =
    let found = found_of c.args.serve.now in
    let port = number_read (λ bs r. ParsesUnsigned 16 10 bs r × ExplainsUnsignedError 10 bs r × HasUnsignedDigitsIfOk bs r) 16 (λ text r gives. gives.0)
    found (codes "port") (Some c.in_ok-port.port) c.in_ok-port.ensures.none c.in_ok-port.ensures.value in
    let journal = c.get_str-journal.ensures ∙ first_value-rows found (codes "journal") in
    (refl, c.in_ok-registry.ensures, journal, port, c.in_ok-options.ensures)

pub returns-in_err-registry : goal.returns-in_err-registry
returns-in_err-registry c = rw c.from_residual.ensures (λ asked is.
    let given = (asks_by (codes "serve") (rows_of (found_of c.args.serve.now)) asked is).0 in
    c.in_err-registry.ensures given.0 given.1)

pub returns-in_err-port : goal.returns-in_err-port
returns-in_err-port c = rw c.from_residual-in_err-port.ensures (λ asked is.
    let given = (asks_by (codes "serve") (rows_of (found_of c.args.serve.now)) asked is).1 in
    number_read (λ bs r. ParsesUnsigned 16 10 bs r × ExplainsUnsignedError 10 bs r × HasUnsignedDigitsIfOk bs r) 16 (λ text r gives. gives.0)
    (found_of c.args.serve.now) (codes "port") None c.in_err-port.ensures.none c.in_err-port.ensures.value given.0 given.1)

pub returns-in_err-options : goal.returns-in_err-options
returns-in_err-options c = rw c.from_residual-in_err-options.ensures (λ asked is.
    let given = (asks_by (codes "serve") (rows_of (found_of c.args.serve.now)) asked is).2 in
    c.in_err-options.ensures given.0 given.1)
