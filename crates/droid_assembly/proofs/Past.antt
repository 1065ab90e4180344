-- The bytes of all pieces are those before the first missing one, and those past it.
use Rattle.std.proofs.Common.{◌≡◌, ◌≢◌, ℕ, zero, suc, ◌+◌, ◌<◌, true, List, [], ◌∷◌, length, get_or, filter, nat_le, Option, None, Some, IsSome, refl, sym, ap, ◌∙◌, arith, inl, inr, add-one, zero-add, length-append}
use Rattle.std.specs.List.{All, AllPairs, range_with_len}
use Rattle.std.specs.Option.{is_none}
use Rattle.std.proofs.lemmas.Bool.Decides.{eqb_tells, leb_tells}
use Rattle.std.proofs.lemmas.List.FromFn.{length-range_with_len, get_or-range_with_len}
use Rattle.std.proofs.lemmas.List.Sums.{sum_by-cons, passes_at_first}
use Rattle.droid_assembly.specs.Pieces.{Piece, IsDue, LacksIndex, bytes_at, bytes_held, missing, past, file_bytes, piece_count}
use Rattle.droid_assembly.specs.Kept.{bytes_of, weight}
use Rattle.droid_assembly.proofs.Indexes.{bytes_at-all, below_count, file_bytes-more, present}

-- no two have one index
abbrev AreDistinct : List Piece → Type 0
AreDistinct pieces = AllPairs (λ one other. one.0 ≢ other.0) pieces

others_distinct : (piece : Piece) (pieces : List Piece) → AreDistinct (piece ∷ pieces) → AreDistinct pieces
others_distinct piece pieces distinct = λ i j d before within. distinct (suc i) (suc j) d (omega (arith, before)) (omega (arith, within))

lacked : (index : ℕ) (pieces : List Piece) → ((j : ℕ) (d : Piece) → j < length pieces → index ≢ (get_or pieces j d).0) → LacksIndex pieces index
lacked index [] other = refl
lacked index (q ∷ pieces) other =
    elim (eqb_tells q.0 index) [
      | inl t ↦ absurd (other 0 q (omega arith) (sym t.1))
      | inr t ↦ rw t.0 (lacked index pieces (λ j d within. other (suc j) d (omega (arith, within))))
    ]

-- the others lack the index of the first
first_alone : (piece : Piece) (pieces : List Piece) → AreDistinct (piece ∷ pieces) → LacksIndex pieces piece.0
first_alone piece pieces distinct = lacked piece.0 pieces (λ j d within. distinct 0 (suc j) d (omega arith) (omega (arith, within)))

-- the pieces from an index on
abbrev onward : ℕ → List Piece → List Piece
onward index pieces = filter (λ piece. nat_le index piece.0) pieces

onward_all : (pieces : List Piece) → onward 0 pieces ≡ pieces
onward_all [] = refl
onward_all (q ∷ pieces) =
    elim (leb_tells 0 q.0) [
      | inl t ↦ rw t.0 (ap (λ rest. q ∷ rest) (onward_all pieces))
      | inr t ↦ absurd (omega (arith, t.1))
    ]

-- one of them has this index, or none, and the others lie past it
one_index : (index : ℕ) (pieces : List Piece) → AreDistinct pieces → bytes_held (onward index pieces) ≡ weight (bytes_at pieces index) + bytes_held (past index pieces)
one_index index [] distinct = refl
one_index index (q ∷ pieces) distinct =
    let rest = one_index index pieces (others_distinct q pieces distinct) in
    let len : Piece → ℕ = λ piece. length piece.1 in
    let from_here = sum_by-cons len q (onward index pieces) in
    let past_here = sum_by-cons len q (past index pieces) in
    elim (leb_tells index q.0) [
      | inl low ↦ elim (leb_tells (suc index) q.0) [
        | inl high ↦ elim (eqb_tells q.0 index) [
          | inl same ↦ absurd (omega (arith, same.1, high.1))
          | inr other ↦ rw (other.0, low.0, high.0) (omega (arith, from_here, past_here, rest))
        ]
        | inr high ↦ elim (eqb_tells q.0 index) [
          | inl same ↦
              let none : bytes_at pieces index ≡ None = ap (λ k. bytes_at pieces k) (sym same.1) ∙ first_alone q pieces distinct in
              rw (same.0, low.0, high.0) (omega (arith, from_here, rest, ap weight none))
          | inr other ↦ absurd (other.1 (omega (arith, low.1, high.1)))
        ]
      ]
      | inr low ↦ elim (leb_tells (suc index) q.0) [
        | inl high ↦ absurd (omega (arith, low.1, high.1))
        | inr high ↦ elim (eqb_tells q.0 index) [
          | inl same ↦ absurd (omega (arith, same.1, low.1))
          | inr other ↦ rw (other.0, low.0, high.0) rest
        ]
      ]
    ]

-- all bytes are those below an index and those from it on
split_at : (index : ℕ) (pieces : List Piece) → AreDistinct pieces → bytes_held pieces ≡ length (file_bytes index pieces) + bytes_held (onward index pieces)
unfolding file_bytes
split_at zero pieces distinct = omega (arith, ap bytes_held (onward_all pieces))
split_at (suc index) pieces distinct =
    let before = split_at index pieces distinct in
    let here = one_index index pieces distinct in
    let more = ap length (file_bytes-more index pieces) ∙ length-append (file_bytes index pieces) (bytes_of (bytes_at pieces index)) in
    let next = ap (λ k. length (file_bytes k pieces)) (add-one index) in
    omega (arith, before, here, more, next)

none_there : (place : Option (List ℕ)) → (IsSome place → ⊥) → place ≡ None
none_there None never = refl
none_there (Some bytes) never = absurd (never refl)

-- the first missing one is not there
pub missing_at : (count : ℕ) (pieces : List Piece) → missing count pieces < count → is_none (bytes_at pieces (missing count pieces)) ≡ true
unfolding missing
missing_at count pieces below =
    let indexes = range_with_len 0 count in
    let found = passes_at_first (λ index. is_none (bytes_at pieces index)) indexes 0 (omega (arith, below, length-range_with_len 0 count)) in
    rw (get_or-range_with_len 0 count (missing count pieces) 0 below, zero-add (missing count pieces)) at found

lacks_missing : (size piece_size : ℕ) (pieces : List Piece) → All (IsDue size piece_size) pieces → LacksIndex pieces (missing (piece_count size piece_size) pieces)
lacks_missing size piece_size pieces due =
    let count = piece_count size piece_size in
    let first = missing count pieces in
    none_there (bytes_at pieces first) (λ some.
    let below : first < count = below_count size piece_size first (bytes_at pieces first) some (bytes_at-all (IsDue size piece_size) pieces first due) in
    let none = missing_at count pieces below in
    let there = present (bytes_at pieces first) some in
    absurd cc)

-- so what is settled is what lies before the first missing piece and what lies past it
pub settled_split : (size piece_size : ℕ) (pieces : List Piece) → All (IsDue size piece_size) pieces → AllPairs (λ one other. one.0 ≢ other.0) pieces
    → let first = missing (piece_count size piece_size) pieces in bytes_held pieces ≡ length (file_bytes first pieces) + bytes_held (past first pieces)
settled_split size piece_size pieces due distinct =
    let first = missing (piece_count size piece_size) pieces in
    let none = lacks_missing size piece_size pieces due in
    omega (arith, split_at first pieces distinct, one_index first pieces distinct, ap weight none)
