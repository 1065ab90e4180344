use Rattle.droid_recovery.proofs.RegistryWords.{finds_words}
use Rattle.droid_recovery.proofs.words.see_words.Goals as goal

pub returns : goal.returns
returns c = λ setting is. finds_words c.args.registry.now setting c.len-count.ensures.rules is
