-- What a submission skipped (this project's own).
use Rattle.std.specs.Prelude.{List, []}
use Rattle.droid_upload.specs.Deeds.{Deed, Informed}
use Rattle.droid_terminal.specs.SkippedTexts.{skipped_in}
use Rattle.droid_terminal.specs.declared.skipped.skipped_entry.SkippedEntry.{SkippedEntry}

-- the skipped entry that a deed reported, if it did
abbrev pub skipped_by : Deed → List SkippedEntry
skipped_by (Informed heard) = skipped_in heard
skipped_by _ = []
