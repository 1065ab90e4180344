-- None of the files before this place was opened by the path.
use Rattle.std.proofs.Common.{◌≡◌, ◌++◌, false, take}
use Rattle.std.specs.List.{list_any}
use Rattle.droid_disk.proofs.HeldFiles.{is_it}
use Rattle.droid_disk.proofs.open_files.place_in.Given as goal

abbrev pub invariant-loop-place : goal.invariant-loop-place
invariant-loop-place g l = list_any (is_it g.D.Disk.path_of (l.top ++ l.path)) (take l.place l.files) ≡ false
