-- What the bytes before one position say of a pattern.
use Rattle.std.proofs.Common.{◌≡◌, ◌↔◌, ℕ, ◌+◌, ◌<◌, ◌≤◌, Bool, true, false, List, [], ◌∷◌, ◌++◌, length, Option, None, Some, refl, sym, ◌∙◌, arith}
use Rattle.std.specs.Prelude.{IsTrue, IfSome}
use Rattle.std.specs.List.{flat_map}
use Rattle.std.proofs.lemmas.Bool.{false≢true}
use Rattle.droid_pattern.specs.declared.cell.Cell.{Cell}
use Rattle.droid_pattern.specs.declared.direction.Direction.TheVariants as direction
use Rattle.droid_pattern.specs.Patterns.{Element, EndsWithin}
use Rattle.droid_pattern.specs.Cells.{element_at, elements_at}
use Rattle.droid_pattern.specs.Positions.{Leads, Path, Reaches}
use Rattle.droid_pattern.proofs.PathLemmas.{ends_first}
use Rattle.droid_pattern.proofs.StarLemmas.{ends_cell}

-- some of the cells match the bytes up to this position
abbrev pub Ends : List ℕ → List Cell → List ℕ → ℕ → Type 0
Ends pool cells bytes q = (p : ℕ) × (p ≤ length bytes) × Path (flat_map (elements_at pool) cells) bytes p q

-- what the last cell says of the one byte before this position
abbrev pub SaysBefore : List ℕ → Cell → List ℕ → ℕ → Bool → Type 0
SaysBefore pool here bytes q passes = (p : ℕ) → Leads (element_at pool here) bytes p q ↔ (IsTrue passes × (p + 1 ≡ q))

-- one position, as one of several
one_of : {B : Type 0} (pool : List ℕ) (cells : List Cell) (bytes : List ℕ) (q : ℕ) → (B ↔ Ends pool cells bytes q)
    → B ↔ ((x : ℕ) × (x ≡ q) × Ends pool cells bytes x)
one_of pool cells bytes q so_far = (λ b. (q, refl, so_far.0 b), λ (x, same, (p, first, path)). so_far.1 (p, first, rw same at path))

-- the last cell passes
pub ended_more : {B : Type 0} (pool : List ℕ) (left before : List Cell) (here : Cell) (bytes : List ℕ) (q r : ℕ) (passes : Bool) → left ≡ before ++ here ∷ []
    → r + 1 ≡ q → passes ≡ true → SaysBefore pool here bytes q passes → (B ↔ Ends pool left bytes q) → B ↔ Ends pool before bytes r
ended_more pool left before here bytes q r passes last next is says so_far =
    let step : Reaches direction.Start (element_at pool here) bytes (λ x. x ≡ q) (λ x. x ≡ r) = λ y. (
      λ same. (q, refl, (says y).1 (is, omega arith)),
      λ (p, same, leads). let w = (says y).0 (rw same at leads) in let far = w.1 in omega arith,
    ) in
    let both = ends_cell pool left before here bytes (λ x. x ≡ q) (λ x. x ≡ r) last (one_of pool left bytes q so_far) step in (
      λ b. let (x, same, (p, first, path)) = both.0 b in (p, first, rw same at path),
      λ (p, first, path). both.1 (r, refl, (p, first, path)),
    )

-- the last cell fails
pub ended_not : {B : Type 0} (pool : List ℕ) (left before : List Cell) (here : Cell) (bytes : List ℕ) (q : ℕ) (passes : Bool) → left ≡ before ++ here ∷ []
    → passes ≡ false → SaysBefore pool here bytes q passes → (B ↔ Ends pool left bytes q) → IsTrue false ↔ B
ended_not pool left before here bytes q passes last not says so_far =
    let step : Reaches direction.Start (element_at pool here) bytes (λ x. x ≡ q) (λ x. ⊥) = λ y. (
      λ h. absurd h,
      λ (p, same, leads). let w = (says y).0 (rw same at leads) in absurd (false≢true (sym not ∙ w.0)),
    ) in
    let both = ends_cell pool left before here bytes (λ x. x ≡ q) (λ x. ⊥) last (one_of pool left bytes q so_far) step in (
      λ h. absurd (false≢true h),
      λ b. let (x, none, more) = both.0 b in absurd none,
    )

-- all have passed
pub ended_all : {B : Type 0} (pool : List ℕ) (left : List Cell) (bytes : List ℕ) (q : ℕ) → left ≡ [] → q ≤ length bytes → (B ↔ Ends pool left bytes q) → IsTrue true ↔ B
ended_all {B} pool left bytes q none inside so_far =
    let last : B ↔ ((p : ℕ) × (p ≤ length bytes) × (p ≡ q)) = rw none at so_far in
    (λ _. last.1 (q, inside, refl), λ _. refl)

-- a match at one offset from the end
ends_at_one : (es : List Element) (pool : List ℕ) (cells : List Cell) (bytes : List ℕ) (offset q : ℕ) → es ≡ flat_map (elements_at pool) cells → q + offset ≡ length bytes
    → EndsWithin es bytes offset offset ↔ Ends pool cells bytes q
ends_at_one es pool cells bytes offset q e far =
    let says : (x : ℕ) → (x ≡ q) ↔ ((offset + x ≤ length bytes) × (length bytes ≤ offset + x)) = λ x. (
      λ same. (omega arith, omega arith),
      λ h. let low = h.0 in let high = h.1 in omega arith,
    ) in
    let first = ends_first es (flat_map (elements_at pool) cells) bytes offset offset (λ x. x ≡ q) e says in (
      λ b. let (x, same, (p, near, path)) = first.0 b in (p, near, rw same at path),
      λ (p, near, path). first.1 (q, refl, (p, near, path)),
    )

pub ended_within : (r : Option Bool) (es : List Element) (pool : List ℕ) (cells : List Cell) (bytes : List ℕ) (offset q : ℕ) → es ≡ flat_map (elements_at pool) cells → q + offset ≡ length bytes
    → IfSome r (λ found. (pool : List ℕ) → IsTrue found ↔ Ends pool cells bytes q) → IfSome r (λ found. IsTrue found ↔ EndsWithin es bytes offset offset)
ended_within None es pool cells bytes offset q e far h = h
ended_within (Some found) es pool cells bytes offset q e far h =
    let both = ends_at_one es pool cells bytes offset q e far in
    let here = h pool in (λ t. both.1 (here.0 t), λ b. here.1 (both.0 b))

-- no match ends before the beginning
pub ended_past : (es : List Element) (bytes : List ℕ) (offset : ℕ) → length bytes < offset → IsTrue false ↔ EndsWithin es bytes offset offset
ended_past es bytes offset past = (
  λ h. absurd (false≢true h),
  λ (b : EndsWithin es bytes offset offset). absurd (let low = b.from_low in let inside = b.inside in omega arith),
)
