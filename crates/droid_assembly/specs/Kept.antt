-- For inner clauses and proofs: the invariants of an assembly; and `pieces_from`, in which `settle` speaks.
use Rattle.std.specs.Prelude.{◌≡◌, ℕ, ◌+◌, ◌<◌, ◌≤◌, List, [], length, Option, None, unwrap_or, IsSome, MatchOption, ⊤}
use Rattle.std.specs.Prelude.{is_some, slice_index_or, sum_by, count_by, map}
use Rattle.std.specs.List.{range_with_len}
use Rattle.droid_assembly.specs.Pieces.{Piece, AreSizes, IsDue, bytes_at, file_bytes}
use Rattle.droid_assembly.specs.State.{State, StandsFor, IsComplete, count_of, width_of, slot}
use Rattle.droid_assembly.specs.Fronts.{IsFront, FrontKnows}
use Rattle.droid_assembly.specs.declared.front.Front.{Front}

-- the bytes at a place, or none if the place is empty
abbrev pub bytes_of : Option (List ℕ) → List ℕ
bytes_of place = unwrap_or place []

-- the number of bytes at a place
abbrev pub weight : Option (List ℕ) → ℕ
weight place = length (bytes_of place)

-- each of the first `count` places has a piece
pub record HasPieces (places : List (Option (List ℕ))) (count : ℕ) : Type 0 where
  pub within : count ≤ length places
  pub each : (index : ℕ) → index < count → IsSome (slice_index_or places index None)

-- the bytes of `count` consecutive pieces, from index `from` on
abbrev pub pieces_from : ℕ → ℕ → List Piece → List (List ℕ)
pieces_from from count pieces = map (λ index. bytes_of (bytes_at pieces index)) (range_with_len from count)

-- all pieces before index `from` are there, those after it wait in their places, and none is 16 or more past it;
-- `total` is the number of their bytes, and `count` the number of pieces
pub record ArePlaced (waiting : List (Option (List ℕ))) (from : ℕ) (pieces : List Piece) (total count : ℕ)
    : Type 0 where
  pub no_gap : (index : ℕ) → index < from → IsSome (bytes_at pieces index)
  pub waits : (index : ℕ) → from ≤ index → index < from + 16 → slot waiting index ≡ bytes_at pieces index
  pub none_beyond : (index : ℕ) → from + 16 ≤ index → bytes_at pieces index ≡ None
  pub weighed : total ≡ length (file_bytes from pieces) + sum_by weight waiting
  pub counted : count ≡ from + count_by is_some waiting

-- the same, and the front has the bytes of the pieces before index `from`
pub record IsAlong (front : Front) (waiting : List (Option (List ℕ))) (from : ℕ) (pieces : List Piece) (total count : ℕ)
    : Type 0 where
  pub placed : ArePlaced waiting from pieces total count
  pub knows : FrontKnows front (file_bytes from pieces)

-- the piece can be settled: the file has it, its index is near enough, and its place is free
pub record IsFree (assembly : State) (piece : Piece) : Type 0 where
  pub is_due : IsDue assembly.size assembly.piece_size piece
  pub not_passed : assembly.first_missing ≤ piece.0
  pub near : piece.0 < assembly.first_missing + 16
  pub free : slot assembly.waiting piece.0 ≡ None

-- the fields of an assembly fit together, and it stands for some pieces
pub record IsConsistent (assembly : State) (kept : Front) : Type 0 where
  pub sizes : AreSizes assembly.size assembly.piece_size assembly.scan_limit
  pub within : assembly.first_missing ≤ count_of assembly
  pub places : length assembly.waiting ≡ 16
  pub front : IsFront kept
  pub width : kept.width ≡ width_of assembly
  pub pieces : List Piece
  pub stands : StandsFor assembly pieces
  pub weighed : assembly.settled_bytes
      ≡ length (file_bytes assembly.first_missing pieces) + sum_by weight assembly.waiting
  pub counted : assembly.held_count ≡ assembly.first_missing + count_by is_some assembly.waiting
  pub pending : MatchOption assembly.pending ⊤ (IsFree assembly)
  pub sealed : IsSome assembly.hashed → IsComplete assembly
