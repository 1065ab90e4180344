-- What the options of `submit` become (this project's own).
use Rattle.std.specs.Prelude.{ℕ, List, Option, Some, None}
use Rattle.droid_arguments.specs.declared.submit.Destination.{Destination}
use Rattle.droid_arguments.specs.declared.submit.SubmitOptions.{SubmitOptions}
use Rattle.droid_cmd_submit.specs.declared.loopback.LoopbackSettings.{LoopbackSettings}
use Rattle.droid_terminal.specs.declared.verbosity.Verbosity.{Verbosity}
use Rattle.droid_upload.specs.declared.tree_submission.Options.{Options}

-- how the tree is submitted
abbrev pub walk_options : SubmitOptions → Options
walk_options options = record {
  scan_limit = options.limit;
  match_all = options.match_all;
  hash = options.hash;
  piece_size = options.piece_size;
  check = options.check;
}

-- where to connect to, and how long to wait
abbrev pub connection_of : Destination → Verbosity → LoopbackSettings
connection_of to verbosity = record { port = to.port; wait = to.wait; timeout = to.timeout; verbosity = verbosity }

-- the submission's name: the one that was given, or else the folder's absolute path
abbrev pub name_of : Option (List ℕ) → List ℕ → List ℕ
name_of (Some name) absolute = name
name_of None absolute = absolute
