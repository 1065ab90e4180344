use Rattle.std.proofs.Common.{◌∙◌, codes}
use Rattle.clap.specs.Words.{found_of}
use Rattle.clap.proofs.WalkLemmas.{first_value-rows}
use Rattle.droid_arguments.proofs.Options.{source_given}
use Rattle.droid_arguments.proofs.source.source_of.Goals as goal

pub returns : goal.returns
returns c =
    source_given _ _ _ c.chosen.result c.flag_of-everyday.ensures (c.get_str-path.ensures ∙ first_value-rows (found_of c.args.matches.now) (codes "registry")) c.chosen.ensures
