use Rattle.std.proofs.Common.{◌≡◌, ◌<◌, true, ℕ, List, Some}
use Rattle.csv.specs.Reading.{AreRecords, Ready, default_config, source_of, strip_bom}
use Rattle.csv.specs.declared.parser.State.TheVariants as st
use Rattle.csv.specs.declared.reader.Trim.TheVariants as trim
use Rattle.droid_report.specs.Calls.{IsDraft}
use Rattle.droid_report.specs.Rows.{Draft, lines_of}
use Rattle.droid_report.proofs.Reading.{Left}
use Rattle.droid_report.proofs.report.read_rows.Given as goal

-- the reader goes on as it began, and what comes of the bytes that it has left comes of all
abbrev pub invariant-loop-row : goal.invariant-loop-row
invariant-loop-row l = (l.row-iterator.rdr.trim ≡ trim.None) × Ready l.row-iterator.rdr × (0 < l.row-iterator.left) × (l.row-iterator.rdr.config ≡ default_config)
    × (l.row-iterator.rdr.flexible ≡ true)
    × (y : List ℕ) × (source_of (λ s. Some s.now) l.row-iterator.rdr ≡ Some y)
    × ((records : List (List (List ℕ))) → AreRecords default_config st.StartRecord (strip_bom l.fn.text) records → (read : Draft) × IsDraft l.draft read × Left l.row-iterator.rdr.state y read (lines_of records))
