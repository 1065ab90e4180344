-- Which registry is asked for (this project's own).
use Rattle.std.specs.Prelude.{Bool, false, Option, Some, None}
use Rattle.clap.specs.Words.{Text}

-- the registry of everyday formats is asked for beside a file
abbrev pub names_two : Bool → Option Text → Bool
names_two everyday None = false
names_two everyday (Some path) = everyday
