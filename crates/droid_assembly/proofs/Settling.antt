-- A pending piece that is settled.
use Rattle.std.proofs.Common.{◌≡◌, ◌≢◌, ◌∙◌, ℕ, ◌+◌, ◌-◌, ◌%◌, ◌<◌, List, [], ◌∷◌, ◌++◌, length, set, Option, None, Some, IsSome, refl, sym, ap, arith, length-append}
use Rattle.std.specs.List.{sum_by, count_by}
use Rattle.std.specs.Option.{is_some, MatchOption}
use Rattle.std.specs.Bool.{⊤}
use Rattle.std.proofs.lemmas.List.Elements.{All-push, All-from_recursion}
use Rattle.std.proofs.lemmas.List.Quantifiers.{all_pairs_push}
use Rattle.std.proofs.lemmas.List.Sums.{sum_by_push}
use Rattle.droid_frame.specs.declared.hash_value.HashValue.{HashValue}
use Rattle.droid_frame.specs.RunningHashes.{HoldsAll}
use Rattle.droid_assembly.specs.Pieces.{Piece, LacksIndex, IsDue, missing, file_bytes}
use Rattle.droid_assembly.specs.Fronts.{IsFront, FrontKnows}
use Rattle.droid_assembly.specs.State.{State, Room, StandsFor, IsComplete, count_of, width_of, slot}
use Rattle.droid_assembly.specs.Kept.{weight, pieces_from, IsAlong, IsFree, IsConsistent}
use Rattle.droid_assembly.specs.declared.front.Front.{Front}
use Rattle.droid_assembly.proofs.Indexes.{lacks_each}
use Rattle.droid_assembly.proofs.Along.{along-begin, along-stands, along-within}

-- the front keeps these fields of an assembly
pub record IsOf (a : State) (front : Front) : Type 0 where
  pub first : a.first ≡ front.first.items
  pub last : a.last ≡ front.last.items
  pub hash : a.running ≡ front.hash
  pub width : front.width ≡ width_of a

-- before a hash is kept, the front knows the bytes before the first missing piece
known : (a : State) (front : Front) (pieces : List Piece) → IsOf a front → a.hashed ≡ None → StandsFor a pieces → FrontKnows front (file_bytes a.first_missing pieces)
known a front pieces same none stands =
    let holds : HoldsAll a.running (file_bytes a.first_missing pieces) = rw none at stands.is_hash in
    record {
      begun = rw (← same.first, same.width) stands.begun;
      ended = rw (← same.last, same.width) stands.ended;
      hashed = rw (← same.hash) holds;
    }

-- no hash is kept while a piece is missing
unsealed : (a : State) (hashed : Option HashValue) → (IsSome hashed → IsComplete a) → a.first_missing < count_of a → hashed ≡ None
unsealed a None sealed low = refl
unsealed a (Some value) sealed low = let complete : IsComplete a = sealed refl in absurd (omega (arith, complete, low))

pub no_hash : (a : State) (front : Front) (piece : Piece) → IsConsistent a front → IsFree a piece → a.hashed ≡ None
no_hash a front piece sound free = unsealed a a.hashed sound.sealed (omega (arith, free.is_due.0, free.not_passed))

-- an assembly after a piece was settled, with this front, waiting pieces, first missing one and room
abbrev pub settled : State → Piece → Front → List (Option (List ℕ)) → ℕ → Room → State
settled a piece front waiting from reserved = record {
  size = a.size;
  piece_size = a.piece_size;
  scan_limit = a.scan_limit;
  held_count = a.held_count + 1;
  first_missing = from;
  settled_bytes = a.settled_bytes + length piece.1;
  first = front.first.items;
  last = front.last.items;
  running = front.hash;
  hashed = a.hashed;
  waiting = waiting;
  pending = None;
  reserved = reserved;
}

module _ (a : State) (old new : Front) (waiting : List (Option (List ℕ))) (k : ℕ) (piece : Piece) where
  -- the settling went from the first missing piece over k pieces, and stopped
  pub record Went : Type 0 where
    pub sound : IsConsistent a old
    pub same : IsOf a old
    pub free : IsFree a piece
    pub still : IsFront new
    pub width : new.width ≡ old.width
    pub places : length waiting ≡ 16
    pub along : (pieces : List Piece) (total count : ℕ) → IsAlong old (set a.waiting (piece.0 % 16) (Some piece.1)) a.first_missing pieces total count → IsAlong new waiting (a.first_missing + k) pieces total count
    pub stopped : slot waiting (a.first_missing + k) ≡ None

  pub begun : (pieces : List Piece) (total count : ℕ) → Went → StandsFor a pieces → total ≡ length (file_bytes a.first_missing pieces) + sum_by weight a.waiting + length piece.1 → count ≡ a.first_missing + count_by is_some a.waiting + 1 → IsAlong old (set a.waiting (piece.0 % 16) (Some piece.1)) a.first_missing (pieces ++ piece ∷ []) total count
  begun pieces total count went stands weighed counted =
      along-begin a old pieces piece total count went.sound.places went.free stands
      (known a old pieces went.same (no_hash a old piece went.sound went.free) stands) weighed counted

  -- it stands for the pieces before and this one
  pub settled-stands : (reserved : Room) (pieces : List Piece) → Went → StandsFor a pieces → StandsFor (settled a piece new waiting (a.first_missing + k) reserved) (pieces ++ piece ∷ [])
  settled-stands reserved pieces went stands =
      let total = length (file_bytes a.first_missing pieces) + sum_by weight a.waiting + length piece.1 in
      let count = a.first_missing + count_by is_some a.waiting + 1 in
      let along = went.along (pieces ++ piece ∷ []) total count (begun pieces total count went stands refl refl) in
      let lacks : LacksIndex pieces piece.0 = sym (stands.waits piece.0 went.free.not_passed went.free.near) ∙ went.free.free in
      along-stands (settled a piece new waiting (a.first_missing + k) reserved) new (pieces ++ piece ∷ []) total count along
      (went.width ∙ went.same.width) went.stopped refl refl refl (no_hash a old piece went.sound went.free)
      (All-push (IsDue a.size a.piece_size) pieces piece stands.are_due went.free.is_due)
      (all_pairs_push (λ one other. one.0 ≢ other.0) pieces piece stands.are_distinct (λ i d h. All-from_recursion (λ q. q.0 ≢ piece.0) pieces (lacks_each pieces piece.0 lacks) i d h))
      (omega (arith, stands.counted, length-append pieces (piece ∷ [])))
      (ap (λ n. n + length piece.1) stands.weighed ∙ sym (sum_by_push (λ (q : Piece). length q.1) pieces piece))

  -- and its fields belong together again
  pub settled-sound : (reserved : Room) → Went → IsConsistent (settled a piece new waiting (a.first_missing + k) reserved) new
  settled-sound reserved went =
      let sound = went.sound in
      let pieces = sound.pieces in
      let total = a.settled_bytes + length piece.1 in
      let count = a.held_count + 1 in
      let along = went.along (pieces ++ piece ∷ []) total count (begun pieces total count went sound.stands (omega (arith, sound.weighed)) (omega (arith, sound.counted))) in
      let stands = settled-stands reserved pieces went sound.stands in
      record {
        sizes = sound.sizes;
        within = along-within a.size a.piece_size (a.first_missing + k) (pieces ++ piece ∷ []) stands.are_due along.placed.no_gap;
        places = went.places;
        front = went.still;
        width = went.width ∙ went.same.width;
        pieces = pieces ++ piece ∷ [];
        stands = stands;
        weighed = along.placed.weighed;
        counted = along.placed.counted;
        pending = tt;
        sealed = rw (no_hash a old piece sound went.free) (λ some. absurd (cc));
      }

-- what was handed back, said by the first missing piece before and after
pub spent_is : (count from k : ℕ) (before after : List Piece) (spent : List (List ℕ)) → from ≡ missing count before → from + k ≡ missing count after → spent ≡ pieces_from from k after → spent ≡ pieces_from (missing count before) (missing count after - missing count before) after
spent_is count from k before after spent one other e =
    let same : k ≡ from + k - from = omega arith in
    rw (← one, ← other) (e ∙ ap (λ n. pieces_from from n after) same)

-- a pending piece may be settled
pending_free : (a : State) (pending : Option Piece) (piece : Piece) → MatchOption pending ⊤ (IsFree a) → pending ≡ Some piece → IsFree a piece
pending_free a None piece h e = absurd (cc)
pending_free a (Some q) piece h e = let same : q ≡ piece = cc in rw (← same) h

pub free_of : (a : State) (front : Front) (piece : Piece) → IsConsistent a front → a.pending ≡ Some piece → IsFree a piece
free_of a front piece sound e = pending_free a a.pending piece sound.pending e
