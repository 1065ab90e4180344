-- How a report that was written ends.
use Rattle.std.proofs.Common.{◌≡◌, ℕ, Bool, true, false, List, Option}
use Rattle.std.specs.Io.KnownBytes.{Appends}
use Rattle.droid_frame.specs.Seen.{Counts}
use Rattle.droid_frame.specs.declared.io.stream_record.Seen.{Seen}
use Rattle.droid_cmd_verify.specs.declared.tree_check.CheckFault.{CheckFault}
use Rattle.droid_cmd_verify.specs.declared.tree_check.CheckFault.TheVariants as faults
use Rattle.droid_cmd_verify.specs.Outcomes.{ReportsUnwritten, WritesOutcome, ending_by}
use Rattle.droid_cmd_verify.specs.VerifyEndings.{unchecked}
use Rattle.droid_cmd_verify.specs.declared.outcome.Outcome.{Outcome}

pub all_written : (differs : Bool) (old new : Option (List ℕ)) (outcome : Outcome) → outcome.differs ≡ differs → Appends old new outcome.text.items → WritesOutcome old new outcome (ending_by differs)
all_written true old new outcome is appends = (appends, is)
all_written false old new outcome is appends = (appends, is)

pub goes_on : (differs : Bool) (start : ℕ) (seen : Seen) (room : Option ℕ) (retries : ℕ) → Counts start seen retries → ReportsUnwritten start seen room (ending_by differs)
goes_on true start seen room retries counts = (retries, counts)
goes_on false start seen room retries counts = (retries, counts)

-- where nothing was written, the writer is as it was
pub unwritten_goes_on : (fault : CheckFault) (start : ℕ) (seen : Seen) (room : Option ℕ) → Counts start seen 0 → ReportsUnwritten start seen room (unchecked fault)
unwritten_goes_on faults.Memory start seen room counts = (0, counts)
unwritten_goes_on faults.Numbers start seen room counts = (0, counts)
unwritten_goes_on (faults.Twice same) start seen room counts = (0, counts)
