-- Rows of the files of each class.
use Rattle.std.specs.Prelude.{ℕ, ◌+◌, ◌-◌, ◌/◌, ◌%◌, ◌==◌, max, List, [], ◌∷◌, ◌++◌, codes, decimal, if◌then◌else◌}
use Rattle.std.specs.List.{fold}
use Rattle.droid_report.specs.declared.classes.By.{By}
use Rattle.droid_report.specs.declared.classes.By.TheVariants as by
use Rattle.droid_report.specs.Seen.{Amount, Bar, Seen, Words, share_of}
use Rattle.droid_report.specs.declared.texts.TheConstants as texts

-- the units of sizes, each 1,024 of the one before
abbrev pub unit_of : ℕ → List ℕ
unit_of n =
    if n == 0 then texts.BYTES.now else if n == 1 then texts.KIB.now else if n == 2 then texts.MIB.now else if n == 3
    then texts.GIB.now
    else if n == 4 then texts.TIB.now else if n == 5 then texts.PIB.now else texts.EIB.now

-- the powers of four below 1,024
abbrev pub power_of_four : ℕ → ℕ
power_of_four n = if n == 0 then 1 else if n == 1 then 4 else if n == 2 then 16 else if n == 3 then 64 else 256

-- The name of a class: its year; the smallest size in it, as 4 ^ (class - 1) bytes; its number of slashes.
unfoldable pub class_name : By → ℕ → List ℕ
class_name by.Year class = decimal class
class_name by.Size class =
    if class == 0 then texts.NO_BYTES.now
    else texts.FROM.now ++ (decimal (power_of_four ((class - 1) % 5)) ++ (codes " " ++ unit_of ((class - 1) / 5)))
class_name by.Depth class = if class == 64 then texts.MOST_SLASHES.now else decimal class

-- the greatest of these
abbrev pub greatest : List ℕ → ℕ
greatest counts = fold max 0 counts

-- a row for each class that has files: its name, their number, and a bar of it
abbrev pub class_row : By → ℕ → ℕ → ℕ → List (List Seen)
class_row by most class count =
    if count == 0 then [] else (Words (class_name by class) ∷ Amount count ∷ Bar (share_of count most) ∷ []) ∷ []

-- what each of these gives with its place, of which the first has the place `at`
abbrev pub flat_map_at : {A B : Type 0} → (ℕ → A → List B) → ℕ → List A → List B
flat_map_at f at [] = []
flat_map_at f at (x ∷ xs) = f at x ++ flat_map_at f (at + 1) xs

-- the rows of a table of classes; the greatest number has the longest bar
abbrev pub class_rows : By → List ℕ → List (List Seen)
class_rows by counts = flat_map_at (class_row by (greatest counts)) 0 counts
