use Rattle.std.proofs.Common.{◌∙◌, Bool, codes, subst, sym}
use Rattle.std.specs.Str.Parse.{ExplainsUnsignedError, HasUnsignedDigitsIfOk, ParsesUnsigned}
use Rattle.clap.specs.Words.{found_of, one_of, rows_of}
use Rattle.clap.proofs.WalkLemmas.{first_value-rows}
use Rattle.droid_arguments.specs.Values.{IsFlag}
use Rattle.droid_arguments.proofs.Options.{number_or}
use Rattle.droid_arguments.proofs.Refusals.{no_count}
use Rattle.droid_arguments.proofs.connection_options.count_of.Goals as goal

pub returns-in-None : goal.returns-in-None
returns-in-None c =
    let found = found_of c.args.serve.now in
    (subst (λ (flag : Bool). IsFlag (one_of (codes "forever") (rows_of found)) flag) c.if-forever.true c.flag_of-forever.ensures, sym (c.in-None.ensures ∙ first_value-rows found (codes "connections")))

pub returns : goal.returns
returns c =
    let found = found_of c.args.serve.now in
    let connections = number_or (λ bs r. ParsesUnsigned 32 10 bs r × ExplainsUnsignedError 10 bs r × HasUnsignedDigitsIfOk bs r) 32 (λ text r gives. gives.0) 1
    found (codes "connections") c.get_one.result c.unwrap_or-connections.result c.get_one.ensures.none c.get_one.ensures.value c.unwrap_or-connections.ensures in
    (subst (λ (flag : Bool). IsFlag (one_of (codes "forever") (rows_of found)) flag) c.if-forever.false c.flag_of-forever.ensures, connections)

pub returns-in-Some : goal.returns-in-Some
returns-in-Some c =
    let found = found_of c.args.serve.now in
    no_count (rows_of found) _ (subst (λ (flag : Bool). IsFlag (one_of (codes "forever") (rows_of found)) flag) c.if-forever.true c.flag_of-forever.ensures)
    (c.in-Some.ensures ∙ first_value-rows found (codes "connections"))
