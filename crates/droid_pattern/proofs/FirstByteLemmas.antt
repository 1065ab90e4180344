-- The bytes with which a match begins.
use Rattle.std.proofs.Common.{◌≡◌, ◌∙◌, ℕ, zero, suc, ◌+◌, ◌<◌, ◌≤◌, List, [], ◌∷◌, ◌++◌, length, take, drop, get_or, Option, Some, None, sym, ap, subst, arith, length-take}
use Rattle.std.specs.List.{flat_map, slice_get}
use Rattle.std.specs.Prelude.{IfSome}
use Rattle.std.proofs.lemmas.List.{get_or-take, get_or-drop}
use Rattle.droid_pattern.specs.Cells.{element_at, elements_at}
use Rattle.droid_pattern.specs.FirstBytes.{AreFirst, BeginsIn, Has}
use Rattle.droid_pattern.specs.Patterns.{Element, Byte, Range, Choice}
use Rattle.droid_pattern.specs.declared.cell.Cell.{Cell}
use Rattle.droid_pattern.specs.declared.first_bytes.FirstBytes.{FirstBytes}

-- one byte, or one of a range
pub byte_begins : (few : FirstBytes) (b : ℕ) → ((x : ℕ) → b ≤ x → x ≤ b → Has few x) → BeginsIn few (Byte b)
byte_begins few b has = λ bytes is. (b, [], is, has b (omega arith) (omega arith))

pub range_begins : (few : FirstBytes) (low high : ℕ) → ((x : ℕ) → low ≤ x → x ≤ high → Has few x) → BeginsIn few (Range low high)
range_begins few low high has = λ bytes is. (is.0, [], is.1, has is.0 is.2 is.3)

-- no alternative, and one more
pub none_begins : (few : FirstBytes) → BeginsIn few (Choice [])
none_begins few bytes (k, below, is) = absurd (omega (arith, below))

pub one_more_begins : (few : FirstBytes) (run more : List ℕ) (b : ℕ) (runs : List (List ℕ)) → run ≡ b ∷ more → Has few b → BeginsIn few (Choice runs) → BeginsIn few (Choice (run ∷ runs))
one_more_begins few run more b runs is has rest bytes (zero, below, same) = (b, more, sym same ∙ is, has)
one_more_begins few run more b runs is has rest bytes (suc k, below, same) = rest bytes (k, omega (arith, below), same)

-- a match begins as its first element does
pub match_begins : (few : FirstBytes) (e : Element) (es : List Element) → BeginsIn few e → AreFirst few (e ∷ es)
match_begins few e es begins bytes at h =
    let here : h.offset ≡ at = let low = h.from_low in let high = h.to_high in omega arith in
    let (front, back, whole, first, rest) = h.matched in
    let (b, more, front_is, has) = begins front first in
    let bytes_are : take h.count (drop h.offset bytes) ≡ b ∷ (more ++ back) = whole ∙ ap (λ xs. xs ++ back) front_is in
    let some : 0 < h.count = let long = ap length bytes_are in omega (arith, long, length-take h.count (drop h.offset bytes)) in
    let read : get_or (take h.count (drop h.offset bytes)) 0 0 ≡ get_or bytes (h.offset + 0) 0 = get_or-take h.count (drop h.offset bytes) 0 0 some ∙ get_or-drop h.offset bytes 0 0 in
    let place : h.offset + 0 ≡ at = omega (arith, here) in
    let is : b ≡ get_or bytes at 0 = sym (ap (λ k. get_or bytes k 0) (sym place) ∙ sym read ∙ ap (λ xs. get_or xs 0 0) bytes_are) in (
      let inside = h.inside in omega (arith, here, some),
      subst (λ (x : ℕ). Has few x) is has,
    )

-- the first cell is the first element
pub cells_begin : (r : Option FirstBytes) (pool : List ℕ) (cell : Cell) (cells : List Cell) (es : List Element) → Some cell ≡ slice_get cells 0
    → es ≡ flat_map (elements_at pool) cells → IfSome r (λ few. BeginsIn few (element_at pool cell)) → IfSome r (λ few. AreFirst few es)
cells_begin None pool cell cells es is same h = h
cells_begin (Some few) pool cell [] es is same h = absurd cc
cells_begin (Some few) pool cell (first ∷ rest) es is same h =
    let one : first ≡ cell = cc in
    rw (same, one) (match_begins few (element_at pool cell) _ h)

-- the first item of a list
pub front_of : (xs : List ℕ) (x : ℕ) → Some x ≡ slice_get xs 0 → (more : List ℕ) × (xs ≡ x ∷ more)
front_of [] x is = absurd cc
front_of (y ∷ ys) x is = (ys, cc)
