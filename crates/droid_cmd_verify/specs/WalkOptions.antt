-- What the options of `verify` become (this project's own).
use Rattle.std.specs.Prelude.{ℕ, min, Bool, true, false}
use Rattle.droid_frame.specs.declared.hash_kind.HashKind.TheVariants.{Nothing}
use Rattle.droid_profile.specs.declared.options.Options.{Options}

-- If formats are not compared, a file is searched as little as can be. The list says which hash the files get.
abbrev pub walk_options : Bool → ℕ → Bool → Options
walk_options true limit match_all = record { scan_limit = min limit 65536; match_all = match_all; hash = Nothing }
walk_options false limit match_all = record { scan_limit = 1; match_all = false; hash = Nothing }
