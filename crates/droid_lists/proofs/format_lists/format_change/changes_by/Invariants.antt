use Rattle.std.proofs.Common.{◌≡◌, take}
use Rattle.droid_lists.specs.ListedFormats.{changes_by}
use Rattle.droid_lists.proofs.format_lists.format_change.changes_by.Given as goal

abbrev pub invariant-loop-file : goal.invariant-loop-file
invariant-loop-file l = l.changes.items ≡ changes_by l.listed (take l.file-index l.files)
