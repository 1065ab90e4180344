-- The requests of a submission (this project's own).
use Rattle.std.specs.Prelude.{◌≡◌, true, []}
use Rattle.droid_frame.specs.declared.filter.Filter.{Filter}
use Rattle.droid_frame.specs.declared.request.Request.{Request}
use Rattle.droid_frame.specs.declared.request.Request.TheVariants.{Export}

-- the filter that lets every record through
abbrev pub all_records : Filter
all_records = record { all = true; criteria = [] }

-- the request may be one of a submission: an export is read in the largest parts, with all its records
abbrev pub IsSubmitted : Request → Type 0
IsSubmitted (Export profile from max filter) = (max ≡ 1048576) × (filter ≡ all_records)
IsSubmitted _ = Unit {0}
