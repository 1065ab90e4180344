-- One piece more before the first missing one.
use Rattle.std.proofs.Common.{◌≡◌, ◌≢◌, ℕ, ◌+◌, ◌%◌, ◌<◌, ◌≤◌, List, [], ◌∷◌, ◌++◌, length, set, Option, None, Some, IsSome, refl, sym, ap, ◌∙◌, arith, cond, inl, inr, length-append}
use Rattle.std.specs.List.{All, AllPairs, concat, sum_by, count_by}
use Rattle.std.specs.Option.{is_some}
use Rattle.std.proofs.lemmas.Bool.Decides.{eqb_tells, leb_tells}
use Rattle.std.proofs.lemmas.List.{get_or-set_same, get_or-set_other}
use Rattle.std.proofs.lemmas.List.FromFn.{map-range_with_len_more}
use Rattle.std.proofs.lemmas.List.Sums.{sum_by-set}
use Rattle.droid_assembly.specs.Pieces.{Piece, bytes_at, LacksIndex, IsDue, held, bytes_held, piece_count, file_bytes}
use Rattle.droid_assembly.specs.Fronts.{FrontKnows}
use Rattle.droid_assembly.specs.State.{State, StandsFor, count_of, width_of, slot}
use Rattle.droid_assembly.specs.Kept.{bytes_of, weight, pieces_from, ArePlaced, IsAlong, IsFree}
use Rattle.droid_assembly.specs.declared.front.Front.{Front}
use Rattle.droid_assembly.proofs.Indexes.{missing_is, missing_before, bytes_at-push_same, bytes_at-push_other, bytes_at-all, below_count, file_bytes-more, file_bytes-several, file_bytes-agree}

-- a place of two indexes less than 16 apart is that of one of them alone
pub apart : (k from : ℕ) → k ≢ from → k < from + 16 → from < k + 16 → k % 16 ≢ from % 16
apart k from other below above = λ e. absurd (omega (arith, other, below, above, e))

-- what one piece more joins to
more_bytes : (waiting : List (Option (List ℕ))) (from : ℕ) (pieces : List Piece) (total count : ℕ) (bytes : List ℕ) → slot waiting from ≡ Some bytes → ArePlaced waiting from pieces total count → file_bytes (from + 1) pieces ≡ file_bytes from pieces ++ bytes
more_bytes waiting from pieces total count bytes at placed =
    let here : bytes_at pieces from ≡ Some bytes = sym (placed.waits from (omega arith) (omega arith)) ∙ at in
    file_bytes-more from pieces ∙ ap (λ place. file_bytes from pieces ++ bytes_of place) here

-- the piece at this index is taken out of its place
pub placed-step : (waiting : List (Option (List ℕ))) (from : ℕ) (pieces : List Piece) (total count : ℕ) (bytes : List ℕ) → length waiting ≡ 16 → slot waiting from ≡ Some bytes → ArePlaced waiting from pieces total count → ArePlaced (set waiting (from % 16) None) (from + 1) pieces total count
placed-step waiting from pieces total count bytes places at placed =
    let none : Option (List ℕ) = None in
    let below : from % 16 < length waiting = omega (arith, places) in
    let here : bytes_at pieces from ≡ Some bytes = sym (placed.waits from (omega arith) (omega arith)) ∙ at in
    let more = more_bytes waiting from pieces total count bytes at placed in
    let tally : Option (List ℕ) → ℕ = λ place. cond (is_some place) 1 0 in
    record {
      no_gap = λ k low. elim (eqb_tells k from) [
        | inl t ↦ rw (t.1, here) refl
        | inr t ↦ placed.no_gap k (omega (arith, t.1, low))
      ];
      waits = λ k low high. elim (eqb_tells k (from + 16)) [
        | inl t ↦
            let same : k % 16 ≡ from % 16 = omega (arith, t.1) in
            rw same (get_or-set_same waiting (from % 16) none none below) ∙ sym (placed.none_beyond k (omega (arith, t.1)))
        | inr t ↦
            get_or-set_other waiting (from % 16) (k % 16) none none (apart k from (λ e. absurd (omega (arith, e, low))) (omega (arith, high, t.1)) (omega (arith, low)))
            ∙ placed.waits k (omega (arith, low)) (omega (arith, high, t.1))
      ];
      none_beyond = λ k far. placed.none_beyond k (omega (arith, far));
      weighed =
          let one = sum_by-set weight waiting (from % 16) none none below in
          let was = ap weight at in
          omega (arith, one, was, ap length more, length-append (file_bytes from pieces) bytes, placed.weighed);
      counted =
          let one = sum_by-set tally waiting (from % 16) none none below in
          let was = ap tally at in
          omega (arith, one, was, placed.counted);
    }

-- and shown to the front
pub along-step : (old new : Front) (waiting : List (Option (List ℕ))) (from : ℕ) (pieces : List Piece) (total count : ℕ) (bytes : List ℕ) → length waiting ≡ 16 → slot waiting from ≡ Some bytes → ((before : List ℕ) → FrontKnows old before → FrontKnows new (before ++ bytes)) → IsAlong old waiting from pieces total count → IsAlong new (set waiting (from % 16) None) (from + 1) pieces total count
along-step old new waiting from pieces total count bytes places at takes along =
    let more = more_bytes waiting from pieces total count bytes at along.placed in
    record {
      placed = placed-step waiting from pieces total count bytes places at along.placed;
      knows = rw more (takes (file_bytes from pieces) along.knows);
    }

-- or taken out after those before it
pub passed-step : (waiting : List (Option (List ℕ))) (from n index : ℕ) (pieces : List Piece) (total count : ℕ) (bytes : List ℕ) (spent : List (List ℕ)) → from + n ≡ index → slot waiting index ≡ Some bytes → ArePlaced waiting index pieces total count → spent ≡ pieces_from from n pieces → spent ++ bytes ∷ [] ≡ pieces_from from (n + 1) pieces
passed-step waiting from n index pieces total count bytes spent next at placed so_far =
    let f : ℕ → List ℕ = λ k. bytes_of (bytes_at pieces k) in
    let here : f index ≡ bytes = ap bytes_of (sym (placed.waits index (omega arith) (omega arith)) ∙ at) in
    ap (λ xs. xs ++ bytes ∷ []) so_far
    ∙ ap (λ b. pieces_from from n pieces ++ b ∷ []) (sym here)
    ∙ sym (map-range_with_len_more f from n index next)

-- several pieces were taken out of their places, and the front was shown what they join to
pub along-several : (old new : Front) (waiting emptied : List (Option (List ℕ))) (from n : ℕ) (pieces : List Piece) (total count : ℕ) (several : List (List ℕ)) → ArePlaced emptied (from + n) pieces total count → several ≡ pieces_from from n pieces → ((before : List ℕ) → FrontKnows old before → FrontKnows new (before ++ concat several)) → IsAlong old waiting from pieces total count → IsAlong new emptied (from + n) pieces total count
along-several old new waiting emptied from n pieces total count several placed passed shows along =
    let joined : file_bytes (from + n) pieces ≡ file_bytes from pieces ++ concat several =
    file_bytes-several from n pieces ∙ ap (λ more. file_bytes from pieces ++ concat more) (sym passed) in
    record {
      placed = placed;
      knows = rw joined (shows (file_bytes from pieces) along.knows);
    }

earlier : (k index : ℕ) → k < index + 1 → k % 16 ≢ index % 16 → k < index
earlier k index high other = elim (eqb_tells k index) [
  | inl t ↦ absurd (other (ap (λ n. n % 16) t.1))
  | inr t ↦ omega (arith, high, t.1)
]

-- no piece lies at a place that was emptied
pub emptied-step : (waiting : List (Option (List ℕ))) (from index : ℕ) → length waiting ≡ 16 → ((k : ℕ) → from ≤ k → k < index → slot waiting k ≡ None) → (k : ℕ) → from ≤ k → k < index + 1 → slot (set waiting (index % 16) None) k ≡ None
emptied-step waiting from index places so_far k low high =
    let none : Option (List ℕ) = None in
    elim (eqb_tells (k % 16) (index % 16)) [
      | inl t ↦ rw t.1 (get_or-set_same waiting (index % 16) none none (omega (arith, places)))
      | inr t ↦ get_or-set_other waiting (index % 16) (k % 16) none none t.1 ∙ so_far k low (earlier k index high t.1)
    ]

-- a piece that may be settled is put into its place
pub along-begin : (a : State) (front : Front) (pieces : List Piece) (piece : Piece) (total count : ℕ) → length a.waiting ≡ 16 → IsFree a piece → StandsFor a pieces → FrontKnows front (file_bytes a.first_missing pieces) → total ≡ length (file_bytes a.first_missing pieces) + sum_by weight a.waiting + length piece.1 → count ≡ a.first_missing + count_by is_some a.waiting + 1 → IsAlong front (set a.waiting (piece.0 % 16) (Some piece.1)) a.first_missing (pieces ++ piece ∷ []) total count
along-begin a front pieces piece total count places free stands knows weighed counted =
    let none : Option (List ℕ) = None in
    let below : piece.0 % 16 < length a.waiting = omega (arith, places) in
    let lacks : LacksIndex pieces piece.0 = sym (stands.waits piece.0 free.not_passed free.near) ∙ free.free in
    let agree : (k : ℕ) → k < a.first_missing → bytes_at (pieces ++ piece ∷ []) k ≡ bytes_at pieces k =
    λ k low. bytes_at-push_other pieces piece k (λ e. absurd (omega (arith, e, low, free.not_passed))) in
    let same = file_bytes-agree a.first_missing (pieces ++ piece ∷ []) pieces agree in
    let tally : Option (List ℕ) → ℕ = λ place. cond (is_some place) 1 0 in
    let placed : ArePlaced (set a.waiting (piece.0 % 16) (Some piece.1)) a.first_missing (pieces ++ piece ∷ []) total count = record {
      no_gap = λ k low. rw (agree k low) (missing_before (count_of a) pieces k (omega (arith, low, stands.least)));
      waits = λ k low high. elim (eqb_tells k piece.0) [
        | inl t ↦ rw t.1 (get_or-set_same a.waiting (piece.0 % 16) (Some piece.1) none below ∙ sym (bytes_at-push_same pieces piece lacks))
        | inr t ↦
            get_or-set_other a.waiting (piece.0 % 16) (k % 16) (Some piece.1) none (apart k piece.0 t.1 (omega (arith, high, free.not_passed)) (omega (arith, low, free.near)))
            ∙ stands.waits k low high
            ∙ sym (bytes_at-push_other pieces piece k (λ e. t.1 (sym e)))
      ];
      none_beyond = λ k far. bytes_at-push_other pieces piece k (λ e. absurd (omega (arith, e, far, free.near))) ∙ stands.none_beyond k far;
      weighed =
          let one = sum_by-set weight a.waiting (piece.0 % 16) (Some piece.1) none below in
          let was = ap weight free.free in
          omega (arith, one, was, ap length same, weighed);
      counted =
          let one = sum_by-set tally a.waiting (piece.0 % 16) (Some piece.1) none below in
          let was = ap tally free.free in
          omega (arith, one, was, counted);
    } in
    record { placed = placed; knows = rw same knows }

-- the pieces before the missing one are pieces of the file
pub along-within : (size piece_size from : ℕ) (pieces : List Piece) → All (IsDue size piece_size) pieces → ((k : ℕ) → k < from → IsSome (bytes_at pieces k)) → from ≤ piece_count size piece_size
along-within size piece_size from pieces due there =
    let count = piece_count size piece_size in
    elim (leb_tells from count) [
      | inl t ↦ t.1
      | inr t ↦
          let past : count < count = below_count size piece_size count (bytes_at pieces count) (there count t.1) (bytes_at-all (IsDue size piece_size) pieces count due) in
          absurd (omega (arith, past))
    ]

-- an assembly that keeps this of the pieces stands for them
pub along-stands : (a : State) (front : Front) (pieces : List Piece) (total count : ℕ) → IsAlong front a.waiting a.first_missing pieces total count → front.width ≡ width_of a → slot a.waiting a.first_missing ≡ None → a.first ≡ front.first.items → a.last ≡ front.last.items → a.running ≡ front.hash → a.hashed ≡ None → All (IsDue a.size a.piece_size) pieces → AllPairs (λ one other. one.0 ≢ other.0) pieces → a.held_count ≡ held pieces → a.settled_bytes ≡ bytes_held pieces → StandsFor a pieces
along-stands a front pieces total count along width stopped first last running hashed due distinct counted weighed =
    record {
      are_due = due;
      are_distinct = distinct;
      counted = counted;
      least = sym (missing_is (count_of a) a.first_missing pieces (along-within a.size a.piece_size a.first_missing pieces due along.placed.no_gap) along.placed.no_gap
          (λ below. sym (along.placed.waits a.first_missing (omega arith) (omega arith)) ∙ stopped));
      weighed = weighed;
      begun = rw (first, ← width) along.knows.begun;
      ended = rw (last, ← width) along.knows.ended;
      is_hash = rw (hashed, running) along.knows.hashed;
      waits = along.placed.waits;
      none_beyond = along.placed.none_beyond;
    }
