-- What a report counts: everything of it is a sum, a table or a list over the rows of a profile. Which CSV is one.
use Rattle.std.specs.Prelude.{◌≡◌, ◌≢◌, ℕ, List, Ok, Err, IsPermutation, map}
use Rattle.droid_frame.specs.declared.item.Item.{Item}
use Rattle.droid_export.specs.declared.reading.fault.ListFault.{ListFault}
use Rattle.droid_export.specs.declared.reading.fault.ListFault.TheVariants as faults
use Rattle.droid_fixity.specs.Inventories.{AreInOrder, IsTwice}
use Rattle.droid_report.specs.Classes.{AreClasses}
use Rattle.droid_report.specs.Groups.{AreGroups}
use Rattle.droid_report.specs.Lists.{AreLists}
use Rattle.droid_report.specs.Rows.{Line, Profile, items_of, profile_of}
use Rattle.droid_report.specs.Totals.{AreTotals}
use Rattle.droid_report.specs.declared.counts.Counts.{Counts}
use Rattle.droid_report.specs.declared.fault.ProfileFault.{ProfileFault}
use Rattle.droid_report.specs.declared.fault.ProfileFault.TheVariants.{Csv, Twice}
use Rattle.droid_report.specs.declared.keys.Alike.TheVariants as alike
use Rattle.droid_report.specs.declared.report.Report.{Report}

-- what a report counts in these rows
pub record AreCounts (lines : List Line) (counts : Counts) : Type 0 where
  pub totals : AreTotals lines counts.totals
  pub classes : AreClasses lines counts.classes
  pub formats : AreGroups alike.Format lines counts.formats
  pub contents : AreGroups alike.Content lines counts.contents
  pub lists : AreLists lines counts.lists

-- the report of a profile
pub record IsReport (profile : Profile) (report : Report) : Type 0 where
  pub hash : report.hash ≡ profile.hash
  pub counts : AreCounts profile.lines report.counts

-- ---- which CSV has one

-- no two items have one path: they have an order in which each comes before all after it
pub record HavePaths (items : List Item) : Type 0 where
  pub sorted : List Item
  pub same : IsPermutation items sorted
  pub in_order : AreInOrder (map (λ item. item.path) sorted)

-- so it is of records that `verify` takes
abbrev pub HaveOwnPaths : List (List (List ℕ)) → Type 0
HaveOwnPaths records = (items : List Item) → items_of records ≡ Ok items → HavePaths items

-- two folders or files of records have this path
abbrev pub HaveTwice : List (List (List ℕ)) → List ℕ → Type 0
HaveTwice records path = (items : List Item) × (items_of records ≡ Ok items) × IsTwice items path

-- records are this profile, in which no path stands twice
pub record AreProfile (records : List (List (List ℕ))) (profile : Profile) : Type 0 where
  pub rows : profile_of records ≡ Ok profile
  pub paths : HaveOwnPaths records

-- Records are none by this fault. What `verify` refuses has that fault, and a path that stands twice is named before a
-- column that a report alone reads.
pub record AreNone (records : List (List (List ℕ))) (fault : ListFault) : Type 0 where
  pub rows : profile_of records ≡ Err fault
  pub paths : HaveOwnPaths records

-- records are refused, unless memory ran out
abbrev pub Refuses : List (List (List ℕ)) → ProfileFault → Type 0
Refuses records (Csv fault) = fault ≢ faults.Memory → AreNone records fault
Refuses records (Twice same) = HaveTwice records same.path
