use Rattle.clap.specs.Words.{found_of}
use Rattle.droid_arguments.proofs.Options.{flag_given}
use Rattle.droid_arguments.proofs.value.flag_of.Goals as goal

pub returns : goal.returns
returns c = flag_given _ (found_of c.args.matches.now) c.args.name.now c.get_one.result c.unwrap_or.result c.get_one.ensures.none c.get_one.ensures.value c.unwrap_or.ensures
