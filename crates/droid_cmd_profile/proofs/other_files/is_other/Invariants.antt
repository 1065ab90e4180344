use Rattle.std.proofs.Common.{◌≡◌, false, take}
use Rattle.std.specs.List.{list_any}
use Rattle.droid_cmd_profile.specs.OtherFiles.{is_one}
use Rattle.droid_cmd_profile.proofs.other_files.is_other.Given as goal

abbrev pub invariant-loop-file : goal.invariant-loop-file
invariant-loop-file l = list_any (λ file. is_one file l.entry) (take l.file-index l.own) ≡ false
