-- What the options of `profile` become (this project's own).
use Rattle.std.specs.Prelude.{min}
use Rattle.droid_arguments.specs.declared.profile.ProfileOptions.{ProfileOptions}
use Rattle.droid_profile.specs.declared.options.Options.{Options}

-- how the tree is profiled; no command line asks for more than 65,536 bytes
abbrev pub walk_options : ProfileOptions → Options
walk_options options =
    record { scan_limit = min options.limit 65536; match_all = options.match_all; hash = options.hash }
