use Rattle.std.proofs.Common.{◌≡◌, ◌++◌, take}
use Rattle.droid_cmd_verify.specs.NotedFiles.{items_listed}
use Rattle.droid_cmd_verify.proofs.noted_files.note_files.Given as goal

abbrev pub invariant-loop-entry : goal.invariant-loop-entry
invariant-loop-entry l = l.files.items ≡ l.fn.files.items ++ items_listed l.path (take l.entry-index l.entries)
