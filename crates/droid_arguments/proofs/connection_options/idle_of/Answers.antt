use Rattle.std.proofs.Common.{◌≡◌, ◌∙◌, codes, sym, true, false}
use Rattle.std.specs.Str.Parse.{ExplainsUnsignedError, HasUnsignedDigitsIfOk, ParsesUnsigned}
use Rattle.clap.specs.Words.{found_of}
use Rattle.clap.proofs.WalkLemmas.{first_value-rows}
use Rattle.droid_arguments.proofs.Options.{number_or}
use Rattle.droid_arguments.proofs.connection_options.idle_of.Goals as goal

pub returns-then-neither : goal.returns-then-neither
returns-then-neither c =
    let found = found_of c.args.serve.now in
    (sym (c.get_str-seats.ensures ∙ first_value-rows found (codes "at-once")) ∙ c.neither.ensures.one c.if-neither.true, sym (c.get_str-asked.ensures ∙ first_value-rows found (codes "idle")) ∙ c.neither.ensures.other c.if-neither.true)

pub returns : goal.returns
returns c =
    let found = found_of c.args.serve.now in
    let idle = number_or (λ bs r. ParsesUnsigned 32 10 bs r × ExplainsUnsignedError 10 bs r × HasUnsignedDigitsIfOk bs r) 32 (λ text r gives. gives.0) 60
    found (codes "idle") c.get_one.result c.unwrap_or-idle.result c.get_one.ensures.none c.get_one.ensures.value c.unwrap_or-idle.ensures in (
      λ none.
          let bad : true ≡ false = sym (c.neither.ensures.none ((c.get_str-seats.ensures ∙ first_value-rows found (codes "at-once")) ∙ none.0) ((c.get_str-asked.ensures ∙ first_value-rows found (codes "idle")) ∙ none.1)) ∙ c.if-neither.false in
          cc,
      idle,
    )
