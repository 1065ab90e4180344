-- What the making of a command ends with (this project's own).
use Rattle.std.specs.Prelude.{◌≡◌, false, Result, IfOk}
use Rattle.clap.specs.Words.{App, app_of}
use Rattle.clap.specs.declared.builder.command.Command.{Command}
use Rattle.clap.specs.declared.builder.command.Command.TheViews.{out-Command}

-- the command was made as this one, and none of its options belongs to commands below it; or memory ran out
abbrev pub Makes : {E : Type 0} → App → Result Command E → Type 0
Makes app made = IfOk made (λ command. (app_of command ≡ app) × ((out-Command command).has_globals ≡ false))
