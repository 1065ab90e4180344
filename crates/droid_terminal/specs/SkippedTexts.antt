-- The CSV of what was skipped (this project's own): a header, and a record for each entry.
use Rattle.std.specs.Prelude.{ℕ, List, [], ◌∷◌, ◌++◌, codes}
use Rattle.std.specs.List.{flat_map}
use Rattle.droid_terminal.specs.Paths.{cause_text}
use Rattle.droid_export.specs.Csv.{line}
use Rattle.droid_tree.specs.Heard.{Heard, Left}
use Rattle.droid_tree.specs.declared.skip_reason.Skipped.{Skipped}
use Rattle.droid_terminal.specs.declared.skipped.skipped_entry.SkippedEntry.{SkippedEntry}

-- the skipped entry that a watcher learned of, if it did
abbrev pub skipped_in : Heard → List SkippedEntry
skipped_in (Left path why) = record { path = path; why = why } ∷ []
skipped_in _ = []

-- the names of the columns
abbrev pub header : List ℕ
header = line (codes "path" ∷ codes "reason" ∷ [])

-- the line of an entry: its path, byte for byte, and the reason in words
abbrev pub entry_text : List ℕ → Skipped → List ℕ
entry_text path why = line (path ∷ cause_text why ∷ [])

-- the two fields of an entry
abbrev pub entry_record : SkippedEntry → List (List ℕ)
entry_record entry = entry.path ∷ cause_text entry.why ∷ []

-- the lines of these entries
abbrev pub entries_text : List SkippedEntry → List ℕ
entries_text skipped = flat_map (λ entry. line (entry_record entry)) skipped

-- the whole text
abbrev pub skipped_csv : List SkippedEntry → List ℕ
skipped_csv skipped = header ++ entries_text skipped
