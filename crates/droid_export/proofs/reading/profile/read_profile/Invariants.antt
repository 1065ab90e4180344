use Rattle.std.proofs.Common.{◌≡◌, true, ℕ, List, Some}
use Rattle.csv.specs.Reading.{AreRecords, Ready, default_config, source_of, strip_bom}
use Rattle.csv.specs.declared.parser.State.TheVariants as st
use Rattle.csv.specs.declared.reader.Trim.TheVariants as trim
use Rattle.droid_export.specs.ReadingCalls.{draft_of}
use Rattle.droid_export.specs.FormatRows.{format_rows, rows_if}
use Rattle.droid_export.specs.Profiles.{profile_of}
use Rattle.droid_export.proofs.ProfileReading.{Left}
use Rattle.droid_export.proofs.reading.profile.read_profile.Given as goal

-- the reader goes on as it began, and what comes of the bytes that it has left comes of all
abbrev pub invariant-loop : goal.invariant-loop
invariant-loop l = (l.reader.trim ≡ trim.None) × Ready l.reader × (l.reader.config ≡ default_config)
    × (l.reader.flexible ≡ true)
    × (l.draft.formats.kept ≡ l.fn.formats)
    × (y : List ℕ) × (source_of (λ s. Some s.now) l.reader ≡ Some y)
    × ((records : List (List (List ℕ))) → AreRecords default_config st.StartRecord (strip_bom l.fn.text) records
    → Left l.reader.state y (draft_of l.draft) l.fn.formats l.draft.formats.rows.items (profile_of l.fn.formats records) (rows_if l.fn.formats (format_rows records)))
