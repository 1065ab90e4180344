-- For inner clauses and proofs: the numbers of folders and the IDs of rows, in maps.
use Rattle.std.specs.Prelude.{◌≡◌, ℕ, ◌==◌, Bool, true, false, List, [], ◌∷◌, ◌++◌, ◌⊎◌, Option, Some, None}
use Rattle.std.specs.BTreeMap as tree
use Rattle.std.specs.BTreeSet as sorted
use Rattle.std.specs.Cmp.Lexicographic.{slice_cmp}
use Rattle.std.specs.List.{AllByRecursion, list_all, list_any}
use Rattle.std.specs.Option.{option_map}
use Rattle.std.specs.Ordering.{nat_cmp}
use Rattle.droid_frame.specs.declared.item.Item.{Item}
use Rattle.droid_export.specs.FolderNumbers.{Saying, above_sayings, agree, column_against, fit, own_sayings}
use Rattle.droid_export.specs.declared.column.Column.{Column}
use Rattle.droid_export.specs.declared.reading.folder_numbers.Folders.{Folders}
use Rattle.droid_export.specs.declared.reading.tag.Tag.{Tag}

-- the path of a number
abbrev pub path_at : Folders → ℕ → Option (List ℕ)
path_at folders number = option_map (λ path. path.now) (tree.get nat_cmp folders.numbers number)

-- the number of a path
abbrev pub number_at : Folders → List ℕ → Option ℕ
number_at folders path = tree.get_by (λ key. slice_cmp nat_cmp path key.now) folders.paths

-- being one of these sayings
abbrev pub IsSaid : List Saying → Saying → Type 0
IsSaid [] x = ⊥
IsSaid (y ∷ said) x = (y ≡ x) ⊎ IsSaid said x

-- both ways of a saying stand in two maps
pub record IsNoted (path_of : ℕ → Option (List ℕ)) (number_of : List ℕ → Option ℕ) (x : Saying) : Type 0 where
  pub path : path_of x.number ≡ Some x.path
  pub number : number_of x.path ≡ Some x.number

-- two maps have all that was said, and nothing else
pub record AreNoted (path_of : ℕ → Option (List ℕ)) (number_of : List ℕ → Option ℕ) (said : List Saying) : Type 0 where
  pub all : AllByRecursion (IsNoted path_of number_of) said
  pub paths : (n : ℕ) (p : List ℕ) → path_of n ≡ Some p → IsSaid said (record { number = n; path = p })
  pub numbers : (n : ℕ) (p : List ℕ) → number_of p ≡ Some n → IsSaid said (record { number = n; path = p })

-- the maps have all that was said, and nothing else
abbrev pub Holds : Folders → List Saying → Type 0
Holds folders said = AreNoted (path_at folders) (number_at folders) said

-- what comes of noting one more saying: whether it agrees with all that was said, and then it is noted too
abbrev pub Noted : Bool → Folders → List Saying → Saying → Type 0
Noted true folders said x = (list_all (agree x) said ≡ true) × Holds folders (said ++ x ∷ [])
Noted false folders said x = list_all (agree x) said ≡ false

-- what comes of noting these sayings (none, or one): whether they agree with all that was said, and then they are noted
abbrev pub AllNoted : Bool → Folders → List Saying → List Saying → Type 0
AllNoted true folders said sayings = (fit said sayings ≡ true) × Holds folders (said ++ sayings)
AllNoted false folders said sayings = fit said sayings ≡ false

-- a set has these IDs
abbrev pub HasIds : sorted.BTreeSet ℕ → List ℕ → Type 0
HasIds set ids = (id : ℕ) → sorted.contains nat_cmp set id ≡ list_any (λ x. x == id) ids

-- what comes of one more row: the column by which it contradicts those before it, or else both have it too
abbrev pub RowNoted : Option Column → sorted.BTreeSet ℕ → Folders → List ℕ → List Saying → Item → Tag → Type 0
RowNoted (Some column) set folders ids said item tag = column_against ids said item tag ≡ Some column
RowNoted None set folders ids said item tag =
    (column_against ids said item tag ≡ None) × HasIds set (ids ++ tag.id ∷ [])
    × Holds folders ((said ++ own_sayings item tag) ++ above_sayings item tag)
