use Rattle.std.proofs.Common.{◌∙◌, ap}
use Rattle.clap.specs.declared.error.kind.ErrorKind.{ErrorKind}
use Rattle.droid_arguments.specs.NoCommands.{unused_words}
use Rattle.droid_arguments.proofs.identify.named_files.Goals as goal

pub returns-in-Err-clause-refused : goal.returns-in-Err-clause-refused
returns-in-Err-clause-refused c = λ none. c.unused_words.ensures ∙ ap (λ (kind : ErrorKind). unused_words kind c.in-Err.error) (c.in-Err.ensures.refused none)
