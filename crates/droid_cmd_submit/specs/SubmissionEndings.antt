-- How the submission of a folder ends (this project's own).
use Rattle.std.specs.Prelude.{Bool, true, false, Result, Ok, Err}
use Rattle.droid_lists.specs.declared.spelling.text_fault.TextFault.{TextFault}
use Rattle.droid_lists.specs.declared.spelling.text_fault.TextFault.TheVariants as checking
use Rattle.droid_cmd_profile.specs.declared.pages.page_fault.PageFault.{PageFault}
use Rattle.droid_cmd_submit.specs.declared.profile_comparison.ComparisonFault.{ComparisonFault}
use Rattle.droid_cmd_submit.specs.declared.profile_comparison.ComparisonFault.TheVariants as comparing
use Rattle.droid_cmd_submit.specs.declared.submission_ending.SubmissionEnding.{SubmissionEnding}
use Rattle.droid_cmd_submit.specs.declared.submission_ending.SubmissionEnding.TheVariants.{Whole, Partly, NoMemory}
use Rattle.droid_cmd_submit.specs.declared.submission_ending.SubmissionEnding.TheVariants.{NoExport, TooLong, Disturbed}
use Rattle.droid_cmd_submit.specs.declared.submission_ending.SubmissionEnding.TheVariants.{WrongExport, NoPage}

-- the ending, by whether the profile is the tree
abbrev pub ending_of : Bool → SubmissionEnding
ending_of true = Whole
ending_of false = Partly

-- after the page
abbrev pub with_page : {V : Type 0} → SubmissionEnding → Result V PageFault → SubmissionEnding
with_page ending (Ok value) = ending
with_page ending (Err fault) = NoPage fault

-- the ending of a submission whose CSV could not be compared
abbrev pub unchecked : TextFault → SubmissionEnding
unchecked checking.Memory = NoMemory
unchecked (checking.Wrong number column) = WrongExport number column

-- the ending of a submission whose profile could not be compared
abbrev pub uncompared : ComparisonFault → SubmissionEnding
uncompared (comparing.NoExport fault) = NoExport fault
uncompared (comparing.TooLong total) = TooLong total
uncompared comparing.Disturbed = Disturbed
uncompared (comparing.Unchecked fault) = unchecked fault
