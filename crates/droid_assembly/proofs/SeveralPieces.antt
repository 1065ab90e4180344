-- The pieces at the first places, as a list.
use Rattle.std.proofs.Common.{◌≡◌, ℕ, zero, suc, ◌<◌, ◌≤◌, List, [], ◌∷◌, length, take, get_or, map, Option, None, Some, IsSome, refl, ap, arith}
use Rattle.std.specs.List.{slice_get}
use Rattle.droid_assembly.specs.Kept.{bytes_of}

-- a piece is what there is at its place
some_bytes : (place : Option (List ℕ)) → IsSome place → Some (bytes_of place) ≡ place
some_bytes None some = absurd (cc)
some_bytes (Some bytes) some = refl

pub slice_get-within : (places : List (Option (List ℕ))) (count place : ℕ) → count ≤ length places → place < count → IsSome (get_or places place None) → slice_get (map bytes_of (take count places)) place ≡ get_or places place None
slice_get-within [] count place within below some = absurd (omega arith)
slice_get-within (p ∷ places) zero place within below some = absurd (omega arith)
slice_get-within (p ∷ places) (suc count) zero within below some = some_bytes p some
slice_get-within (p ∷ places) (suc count) (suc place) within below some = slice_get-within places count place (omega arith) (omega arith) some

-- none is past the end
pub slice_get-past : (pieces : List (List ℕ)) (place : ℕ) → length pieces ≤ place → slice_get pieces place ≡ None
slice_get-past [] place past = refl
slice_get-past (p ∷ pieces) zero past = absurd (omega arith)
slice_get-past (p ∷ pieces) (suc place) past = slice_get-past pieces place (omega arith)

-- the first `count` places have `count` pieces
pub length_shown : (places : List (Option (List ℕ))) (count : ℕ) → count ≤ length places → length (map bytes_of (take count places)) ≡ count
length_shown [] zero within = refl
length_shown [] (suc count) within = absurd (omega arith)
length_shown (p ∷ places) zero within = refl
length_shown (p ∷ places) (suc count) within = ap suc (length_shown places count (omega arith))
