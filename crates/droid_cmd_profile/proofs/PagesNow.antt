-- A page that says that it was made at some moment.
use Rattle.std.specs.Prelude.{ℕ, List, Option, Result, Ok, Err, String}
use Rattle.std.specs.declared.alloc.Global.{Global}
use Rattle.droid_report.specs.declared.fault.ProfileFault.{ProfileFault}
use Rattle.droid_cmd_profile.specs.PagesOfCsv.{Gives, GivesNow}

pub given_now : (title moment name : List ℕ) (registry : Option (List ℕ)) (records : List (List (List ℕ))) (result : Result (String Global) ProfileFault)
    → Gives title moment name registry records result → GivesNow title name registry records result
given_now title moment name registry records (Ok page) given = (moment, given)
given_now title moment name registry records (Err fault) given = given
