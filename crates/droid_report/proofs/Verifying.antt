-- A CSV that `verify` takes or refuses.
use Rattle.std.proofs.Common.{◌≡◌, ◌∙◌, ℕ, List, Result, Ok, Err, sym, ap, subst}
use Rattle.droid_frame.specs.declared.item.Item.{Item}
use Rattle.droid_export.specs.declared.reading.fault.ListFault.{ListFault}
use Rattle.droid_report.specs.Calls.{Verifies}
use Rattle.droid_report.specs.Reports.{AreNone, HavePaths, HaveOwnPaths, Refuses}
use Rattle.droid_report.specs.declared.fault.ProfileFault.{ProfileFault}
use Rattle.droid_report.specs.declared.fault.ProfileFault.TheVariants.{Csv, Twice}
use Rattle.droid_report.specs.Rows.{Profile, items_of, lines_of, profile_of, unless_refused}

abbrev found : List Item → Result (List Item) ListFault
found items = Ok items

found_same : (one other : List Item) → found one ≡ found other → one ≡ other
found_same one other same = cc

no_items : (fault : ListFault) (items : List Item) → Err fault ≡ Ok items → ⊥
no_items fault items same = cc

pub own_paths : (records : List (List (List ℕ))) (items : List Item) → items_of records ≡ Ok items → HavePaths items → HaveOwnPaths records
own_paths records items read paths = λ others again. subst HavePaths (found_same items others (sym read ∙ again)) paths

pub taken : (records : List (List (List ℕ))) (items : List Item) (read : Result Profile ListFault) → items_of records ≡ Ok items → lines_of records ≡ read → profile_of records ≡ read
taken records items read verified lines = ap (λ (one : Result (List Item) ListFault). unless_refused one (lines_of records)) verified ∙ lines

refused : (records : List (List (List ℕ))) (fault : ListFault) → items_of records ≡ Err fault → AreNone records fault
refused records fault verified = record {
  rows = ap (λ (one : Result (List Item) ListFault). unless_refused one (lines_of records)) verified;
  paths = λ items again. absurd (no_items fault items (sym verified ∙ again));
}

pub refuses : (records : List (List (List ℕ))) (fault : ProfileFault) → Verifies records (Err fault) → Refuses records fault
refuses records (Csv fault) seen = λ some. refused records fault (seen some)
refuses records (Twice same) seen = seen
