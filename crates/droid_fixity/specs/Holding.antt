-- For inner clauses and proofs: which items hold a hash, and the difference at a pair.
use Rattle.std.specs.Prelude.{ℕ, Bool, false, ◌&&◌, List, [], ◌∷◌, Option, Some, None, filter, slice_get, if◌then◌else◌}
use Rattle.std.specs.BTreeMap.{BTreeMap, get_by}
use Rattle.std.specs.Option.{option_and_then, option_map_or}
use Rattle.std.specs.Ordering.{nat_cmp}
use Rattle.std.specs.Borrow.{Bor}
use Rattle.std.specs.Cmp.Lexicographic.{slice_cmp}
use Rattle.droid_frame.specs.Hashes.{hash_bytes}
use Rattle.droid_frame.specs.Items.{bears, changes_between, is_any, other_length, other_moment}
use Rattle.droid_frame.specs.Filters.{is_file}
use Rattle.droid_fixity.specs.declared.difference.Difference.{Difference}
use Rattle.droid_fixity.specs.declared.difference.Difference.TheVariants.{Changed, Missing, New, Moved, Touched}
use Rattle.droid_frame.specs.declared.item.Item.{Item}
use Rattle.droid_fixity.specs.declared.holders.Holder.{Holder}
use Rattle.droid_fixity.specs.declared.holders.Holder.TheVariants.{One, Many}
use Rattle.droid_fixity.specs.declared.pair.FilePair.{FilePair}
use Rattle.droid_fixity.specs.declared.pair.Pair.{Pair}
use Rattle.droid_fixity.specs.declared.pair.Pair.TheVariants.{Both, Listed, Found}

-- who holds a hash: nobody, the item at one place, or several
abbrev pub holder_of : List ℕ → Option Holder
holder_of [] = None
holder_of (place ∷ []) = Some (One place)
holder_of (place ∷ next ∷ places) = Some Many

-- who holds a hash in a map
abbrev pub held : BTreeMap (Bor (List ℕ)) Holder → List ℕ → Option Holder
held holders hash = get_by (λ key. slice_cmp nat_cmp hash key.now) holders

-- the holder after one more place
abbrev pub holder_after : Option Holder → ℕ → Holder
holder_after None place = One place
holder_after (Some holder) place = Many

-- whether the item at this place is a file with this hash
abbrev pub bears_at : List Item → List ℕ → ℕ → Bool
bears_at items hash place = option_map_or (bears hash) (slice_get items place) false

-- the place in the list of a pair of which nothing was found
abbrev pub only_listed : Pair → Option ℕ
only_listed (Both l f) = None
only_listed (Listed l) = Some l
only_listed (Found f) = None

-- the place among the items found of a pair that the list does not have
abbrev pub only_found : Pair → Option ℕ
only_found (Both l f) = None
only_found (Listed l) = None
only_found (Found f) = Some f

-- who holds a hash among these places
abbrev pub holder_among : List Item → List ℕ → List ℕ → Option Holder
holder_among items places hash = holder_of (filter (bears_at items hash) places)

-- a move from one place to another, unless the lengths differ
abbrev pub moved_if : Option Item → Option Item → ℕ → ℕ → Option Difference
moved_if None b l f = None
moved_if (Some a) None l f = None
moved_if (Some a) (Some b) l f = if other_length a.length b.length then None else Some (Moved l f)

-- the move of the only missing and the only new file with a hash
abbrev pub move_by : List Item → List Item → Option Holder → Option Holder → Option Difference
move_by listed found None new = None
move_by listed found (Some Many) new = None
move_by listed found (Some (One l)) None = None
move_by listed found (Some (One l)) (Some Many) = None
move_by listed found (Some (One l)) (Some (One f)) = moved_if (slice_get listed l) (slice_get found f) l f

-- the move that an item takes part in, by who holds each hash among the missing and among the new
abbrev pub move_of : List Item → List Item → (List ℕ → Option Holder) → (List ℕ → Option Holder) → Item
    → Option Difference
move_of listed found missing new item =
    if is_file item.kind then move_by listed found (missing (hash_bytes item.hash)) (new (hash_bytes item.hash))
    else None

-- the difference of a path that both have
abbrev pub both_by : Option Item → Option Item → ℕ → ℕ → Option Difference
both_by None b l f = None
both_by (Some a) None l f = None
both_by (Some a) (Some b) l f =
    if is_any (changes_between a b) then Some (Changed l f (changes_between a b))
    else if other_moment a.modified b.modified then Some (Touched l f) else None

-- the difference of a path that only the list has, by its move
abbrev pub or_missing : Option Difference → ℕ → Option Difference
or_missing None l = Some (Missing l)
or_missing (Some move) l = Some move

-- the difference of a path that the list does not have, by its move, which is reported at the path in the list
abbrev pub or_new : Option Difference → ℕ → Option Difference
or_new None f = Some (New f)
or_new (Some move) f = None

-- the difference at a pair
abbrev pub difference_at : List Item → List Item → (List ℕ → Option Holder) → (List ℕ → Option Holder) → Pair
    → Option Difference
difference_at listed found missing new (Both l f) = both_by (slice_get listed l) (slice_get found f) l f
difference_at listed found missing new (Listed l) =
    option_and_then (λ item. or_missing (move_of listed found missing new item) l) (slice_get listed l)
difference_at listed found missing new (Found f) =
    option_and_then (λ item. or_new (move_of listed found missing new item) f) (slice_get found f)

-- the two places of a file
abbrev pub pair_at : ℕ → ℕ → FilePair
pair_at l f = record { listed = l; found = f }

-- the places of two items, if both are there and are files
abbrev pub pair_if : Option Item → Option Item → ℕ → ℕ → Option FilePair
pair_if None b l f = None
pair_if (Some a) None l f = None
pair_if (Some a) (Some b) l f = if is_file a.kind && is_file b.kind then Some (pair_at l f) else None

-- the file at a pair, if both sides have one
abbrev pub file_pair : List Item → List Item → Pair → Option FilePair
file_pair listed found (Both l f) = pair_if (slice_get listed l) (slice_get found f) l f
file_pair listed found (Listed l) = None
file_pair listed found (Found f) = None
