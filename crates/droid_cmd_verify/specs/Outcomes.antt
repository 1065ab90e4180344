-- What a comparison came to, and its report (this project's own).
use Rattle.std.specs.Prelude.{◌≡◌, ◌==◌, ℕ, Bool, true, false, not, List, [], length, Option, Some, None, Vec}
use Rattle.std.specs.Io.KnownBytes.{Appends}
use Rattle.std.specs.Option.{is_some}
use Rattle.std.specs.declared.alloc.Global.{Global}
use Rattle.droid_frame.specs.Seen.{Counts}
use Rattle.droid_frame.specs.Writes.{StopsWithin, WriterStops}
use Rattle.droid_frame.specs.declared.io.stream_record.Seen.{Seen}
use Rattle.droid_cmd_verify.specs.Compared.{compared_in}
use Rattle.droid_cmd_verify.specs.Findings.{AreFindings}
use Rattle.droid_lists.specs.Formats.{changes_in}
use Rattle.droid_cmd_verify.specs.ReportTexts.{report_text}
use Rattle.droid_cmd_verify.specs.Summaries.{bytes_at, counts_of, files_at}
use Rattle.droid_cmd_verify.specs.declared.finding.Finding.{Finding}
use Rattle.droid_cmd_verify.specs.declared.measure.Measure.{Measure}
use Rattle.droid_cmd_verify.specs.declared.summary.Summary.{Summary}
use Rattle.droid_cmd_verify.specs.declared.tree_check.Checked.{Checked}
use Rattle.droid_lists.specs.declared.format_lists.file_formats.FileFormats.{FileFormats}
use Rattle.droid_lists.specs.declared.format_lists.format_change.FormatChange.{FormatChange}
use Rattle.droid_export.specs.declared.reading.format_row.FormatRow.{FormatRow}
use Rattle.droid_terminal.specs.declared.skipped.skipped_entry.SkippedEntry.{SkippedEntry}
use Rattle.droid_cmd_verify.specs.declared.outcome.Outcome.{Outcome}
use Rattle.droid_cmd_verify.specs.declared.verify_ending.VerifyEnding.{VerifyEnding}
use Rattle.droid_cmd_verify.specs.declared.verify_ending.VerifyEnding.TheVariants.{Same, Differing, Unwritten}

-- the files with other formats, if formats are compared
abbrev pub changes_by : Option (Vec FormatRow Global) → List FileFormats → List FormatChange
changes_by None files = []
changes_by (Some rows) files = changes_in rows.items files

-- the summary of a comparison with these findings: how many files were compared, and how many findings there are
abbrev pub summary_of : Measure → Bool → Checked → List Finding → Summary
summary_of how identify checked findings =
    record {
      how = how;
      identify = identify;
      files = files_at (compared_in how checked.listed checked.found checked.files.items checked.differences.items);
      bytes =
          bytes_at checked.found
          (compared_in how checked.listed checked.found checked.files.items checked.differences.items);
      kinds = counts_of findings;
    }

-- the report, the summary, and whether anything is reported, by what is found
pub record HasFindings (how : Measure) (identify : Bool) (checked : Checked) (findings : List Finding)
    (outcome : Outcome) : Type 0 where
  pub text : outcome.text.items ≡ report_text checked.listed checked.found findings
  pub summary : outcome.summary ≡ summary_of how identify checked findings
  pub differs : outcome.differs ≡ not (length findings == 0)

-- what is reported is all that differs or was not compared, and the outcome is that of it
pub record IsOutcome (how : Measure) (rows : Option (Vec FormatRow Global)) (files : List FileFormats)
    (checked : Checked) (unreadable : List SkippedEntry) (outcome : Outcome) : Type 0 where
  pub findings : List Finding
  pub are : AreFindings how checked.listed checked.found checked.differences.items checked.files.items unreadable
      (changes_by rows files) findings
  pub has : HasFindings how (is_some rows) checked findings outcome

-- the ending, if the report was written
abbrev pub ending_by : Bool → VerifyEnding
ending_by true = Differing
ending_by false = Same

-- The report was written, and the ending says whether it has anything; or only a front of it was.
abbrev pub WritesOutcome : Option (List ℕ) → Option (List ℕ) → Outcome → VerifyEnding → Type 0
WritesOutcome old new outcome Same = Appends old new outcome.text.items × (outcome.differs ≡ false)
WritesOutcome old new outcome Differing = Appends old new outcome.text.items × (outcome.differs ≡ true)
WritesOutcome old new outcome Unwritten = (written : ℕ) × StopsWithin old new outcome.text.items 0 written
WritesOutcome old new outcome _ = ⊥

-- the writer stopped exactly if the ending says so
abbrev pub ReportsUnwritten : ℕ → Seen → Option ℕ → VerifyEnding → Type 0
ReportsUnwritten start seen room Unwritten = WriterStops start seen room
ReportsUnwritten start seen room _ = (retries : ℕ) × Counts start seen retries
