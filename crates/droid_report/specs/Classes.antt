-- Files by year, by size and by depth: for each class how many files are of it.
use Rattle.std.specs.Prelude.{◌≡◌, ℕ, ◌+◌, ◌<◌, ◌==◌, ◌&&◌, nat_lt, min, position, Bool, false, List, [], ◌∷◌, length}
use Rattle.std.specs.Prelude.{count_by, get_or, replicate, Option, Some, None, if◌then◌else◌}
use Rattle.std.specs.Option.{option_map, unwrap_or}
use Rattle.droid_report.specs.Rows.{Line}
use Rattle.droid_report.specs.Totals.{held, is_first_of_file}
use Rattle.droid_report.specs.declared.facts.Facts.{Facts}
use Rattle.droid_report.specs.declared.classes.By.{By}
use Rattle.droid_report.specs.declared.classes.By.TheVariants as by
use Rattle.droid_report.specs.declared.classes.Classes.{Classes}

-- the powers of four from 1 to 4 ^ 31
abbrev pub powers : List ℕ
powers =
    0x1 ∷ 0x4 ∷ 0x10 ∷ 0x40 ∷ 0x100 ∷ 0x400 ∷ 0x1000 ∷ 0x4000 ∷ 0x10000 ∷ 0x40000 ∷ 0x100000 ∷ 0x400000 ∷ 0x1000000
    ∷ 0x4000000 ∷ 0x10000000 ∷ 0x40000000
    ∷ 0x100000000 ∷ 0x400000000 ∷ 0x1000000000 ∷ 0x4000000000 ∷ 0x10000000000 ∷ 0x40000000000 ∷ 0x100000000000
    ∷ 0x400000000000 ∷ 0x1000000000000 ∷ 0x4000000000000
    ∷ 0x10000000000000 ∷ 0x40000000000000 ∷ 0x100000000000000 ∷ 0x400000000000000 ∷ 0x1000000000000000
    ∷ 0x4000000000000000 ∷ []

-- the class of a size: the place of the first power of four that is above it, so 0 has class 0, and 4 ^ n has class n +
-- 1
unfoldable pub size_class : ℕ → ℕ
size_class size = unwrap_or (position (λ power. nat_lt size power) powers) 32

-- the last class: the year 9999, sizes from 4 ^ 31 on, 64 slashes or more
abbrev pub last_class : By → ℕ
last_class by.Year = 9999
last_class by.Size = 32
last_class by.Depth = 64

-- the class of a file, if it has one: a year may be unknown
abbrev pub class_of : By → Facts → Option ℕ
class_of by.Year facts = option_map (λ year. min year 9999) facts.year
class_of by.Size facts = Some (min (size_class facts.size) 32)
class_of by.Depth facts = Some (min facts.depth 64)

-- whether a file has this class
abbrev pub is_class : Option ℕ → ℕ → Bool
is_class None class = false
is_class (Some one) class = one == class

-- whether a row is that of a file of this class
abbrev pub is_in : By → ℕ → Line → Bool
is_in by class line = is_first_of_file line && is_class (class_of by line.facts) class

-- for each class how many files are of it
pub record IsTally (by : By) (lines : List Line) (table : List ℕ) : Type 0 where
  pub all_classes : length table ≡ last_class by + 1
  pub counts : (class : ℕ) → class < last_class by + 1 → get_or table class 0 ≡ held (count_by (is_in by class) lines)

-- the three tables of these rows
pub record AreClasses (lines : List Line) (classes : Classes) : Type 0 where
  pub years : IsTally by.Year lines classes.years.items
  pub sizes : IsTally by.Size lines classes.sizes.items
  pub depths : IsTally by.Depth lines classes.depths.items

-- ---- for inner clauses and proofs: one row more

-- a table before the first row
unfoldable pub no_files : By → List ℕ
no_files by = replicate (last_class by + 1) 0

-- a row adds one to its class, if it has one, and changes nothing else
pub record IsCountedIn (by : By) (line : Line) (old new : List ℕ) : Type 0 where
  pub same_length : length new ≡ length old
  pub counts : (class : ℕ) → class < length old
      → get_or new class 0 ≡ (if is_in by class line then held (get_or old class 0 + 1) else get_or old class 0)
