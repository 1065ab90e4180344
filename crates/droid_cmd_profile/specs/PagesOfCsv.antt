-- The page of a profile's CSV (this project's own).
use Rattle.std.specs.Prelude.{ℕ, List, Option, Result, Ok, Err, String, string_bytes}
use Rattle.std.specs.declared.alloc.Global.{Global}
use Rattle.droid_report.specs.Reports.{AreProfile, IsReport, Refuses}
use Rattle.droid_report.specs.Rows.{Profile}
use Rattle.droid_report.specs.declared.fault.ProfileFault.{ProfileFault}
use Rattle.droid_report.specs.declared.report.Report.{Report}
use Rattle.droid_report.specs.ShownReports.{IsPage}
use Rattle.droid_cmd_profile.specs.Abouts.{about_text}

-- a text is the page of a report that counts exactly these rows
pub record IsPageOfProfile (title moment name : List ℕ) (registry : Option (List ℕ)) (profile : Profile) (text : List ℕ)
    : Type 0 where
  pub report : Report
  pub counts : IsReport profile report
  pub page : IsPage title (about_text moment name registry report.hash) report.counts text

-- what a call returned for these records: the page of the profile that they are, or why they are refused
abbrev pub Gives : List ℕ → List ℕ → List ℕ → Option (List ℕ) → List (List (List ℕ))
    → Result (String Global) ProfileFault → Type 0
Gives title moment name registry records (Ok page) =
    (profile : Profile) × AreProfile records profile
    × IsPageOfProfile title moment name registry profile (string_bytes page)
Gives title moment name registry records (Err fault) = Refuses records fault

-- the same of a page that says that it was made at the moment when it was
abbrev pub GivesNow : List ℕ → List ℕ → Option (List ℕ) → List (List (List ℕ)) → Result (String Global) ProfileFault
    → Type 0
GivesNow title name registry records (Ok page) =
    (moment : List ℕ) × Gives title moment name registry records (Ok page)
GivesNow title name registry records (Err fault) = Refuses records fault
