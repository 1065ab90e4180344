-- Which pieces a list has, by their indexes.
use Rattle.std.proofs.Common.{◌≡◌, ◌≢◌, ℕ, zero, suc, ◌+◌, ◌*◌, ◌<◌, ◌≤◌, ◌==◌, Bool, false, List, [], ◌∷◌, ◌++◌, length, min, Option, None, Some, IsSome, IfSome, refl, sym, ap, ◌∙◌, arith, inl, inr, not, zero-add, add-zero, add-one}
use Rattle.std.specs.List.{All, AllByRecursion, concat, range_with_len, flat_map}
use Rattle.std.specs.Option.{is_none}
use Rattle.std.specs.Bool.{if◌then◌else◌}
use Rattle.std.proofs.lemmas.Bool.Decides.{eqb_tells}
use Rattle.std.proofs.lemmas.Grind.{div_ceil_times}
use Rattle.std.proofs.lemmas.List.{append_assoc, append-nil, length-append}
use Rattle.std.proofs.lemmas.List.Concat.{flat_map-append}
use Rattle.std.proofs.lemmas.List.Folds.{concat-append, flat_map-map}
use Rattle.std.proofs.lemmas.List.Elements.{All-head, All-tail}
use Rattle.std.proofs.lemmas.List.FromFn.{length-range_with_len, get_or-range_with_len, map-range_with_len_more}
use Rattle.std.proofs.lemmas.List.Sums.{position_or_len_is, fails_before_first, prefix_len-le-length}
use Rattle.droid_assembly.specs.Pieces.{Piece, bytes_at, LacksIndex, IsDue, due_length, piece_count, missing, file_bytes}
use Rattle.droid_assembly.specs.Kept.{bytes_of, pieces_from}

-- what a list has of an index that was added last
pub bytes_at-push_same : (pieces : List Piece) (piece : Piece) → LacksIndex pieces piece.0 → bytes_at (pieces ++ piece ∷ []) piece.0 ≡ Some piece.1
bytes_at-push_same [] piece lacks =
    elim (eqb_tells piece.0 piece.0) [ inl t ↦ rw t.0 refl | inr t ↦ absurd (t.1 refl) ]
bytes_at-push_same (q ∷ pieces) piece lacks =
    elim (eqb_tells q.0 piece.0) [
      | inl t ↦ let found : Some q.1 ≡ None = rw t.0 at lacks in cc
      | inr t ↦ let rest : LacksIndex pieces piece.0 = rw t.0 at lacks in rw t.0 (bytes_at-push_same pieces piece rest)
    ]

-- and of another index
pub bytes_at-push_other : (pieces : List Piece) (piece : Piece) (index : ℕ) → piece.0 ≢ index → bytes_at (pieces ++ piece ∷ []) index ≡ bytes_at pieces index
bytes_at-push_other [] piece index other =
    elim (eqb_tells piece.0 index) [ inl t ↦ absurd (other t.1) | inr t ↦ rw t.0 refl ]
bytes_at-push_other (q ∷ pieces) piece index other =
    ap (λ rest. if q.0 == index then Some q.1 else rest) (bytes_at-push_other pieces piece index other)

-- no piece of a list has an index that it lacks
pub lacks_each : (pieces : List Piece) (index : ℕ) → LacksIndex pieces index → AllByRecursion (λ piece. piece.0 ≢ index) pieces
lacks_each [] index lacks = tt
lacks_each (q ∷ pieces) index lacks =
    elim (eqb_tells q.0 index) [
      | inl t ↦ let found : Some q.1 ≡ None = rw t.0 at lacks in cc
      | inr t ↦ let rest : LacksIndex pieces index = rw t.0 at lacks in (t.1, lacks_each pieces index rest)
    ]

pub present : (place : Option (List ℕ)) → IsSome place → is_none place ≡ false
present place h = ap not h

-- what is missing first, by the indexes before it and at it
pub missing_is : (count m : ℕ) (pieces : List Piece) → m ≤ count → ((k : ℕ) → k < m → IsSome (bytes_at pieces k)) → (m < count → bytes_at pieces m ≡ None) → missing count pieces ≡ m
unfolding missing
missing_is count m pieces within before at =
    let indexes = range_with_len 0 count in
    let there = length-range_with_len 0 count in
    position_or_len_is (λ index. is_none (bytes_at pieces index)) indexes m 0 (omega (arith, within, there))
    (λ k below. rw (get_or-range_with_len 0 count k 0 (omega arith), zero-add k) (present (bytes_at pieces k) (before k below)))
    (λ below.
    let inside : m < count = omega (arith, below, there) in
    rw (get_or-range_with_len 0 count m 0 inside, zero-add m) (ap is_none (at inside)))

some_of : (place : Option (List ℕ)) → is_none place ≡ false → IsSome place
some_of None h = absurd (cc)
some_of (Some bytes) h = refl

-- no piece before the first missing one is missing
pub missing_before : (count : ℕ) (pieces : List Piece) (k : ℕ) → k < missing count pieces → IsSome (bytes_at pieces k)
unfolding missing
missing_before count pieces k below =
    let lacks : ℕ → Bool = λ index. is_none (bytes_at pieces index) in
    let indexes = range_with_len 0 count in
    let within : k < count = omega (arith, below, prefix_len-le-length (λ index. not (lacks index)) indexes, length-range_with_len 0 count) in
    let there = get_or-range_with_len 0 count k 0 within ∙ zero-add k in
    some_of (bytes_at pieces k) (ap lacks (sym there) ∙ fails_before_first lacks indexes k 0 below)

-- what holds of each piece holds of the one at an index
pub bytes_at-all : (P : Piece → Type 0) (pieces : List Piece) (index : ℕ) → All P pieces → IfSome (bytes_at pieces index) (λ bytes. P (index, bytes))
bytes_at-all P [] index all = tt
bytes_at-all P (q ∷ pieces) index all =
    elim (eqb_tells q.0 index) [
      | inl t ↦ rw t.0 (rw t.1 at (All-head P q pieces all))
      | inr t ↦ rw t.0 (bytes_at-all P pieces index (All-tail P q pieces all))
    ]

-- the bytes of one piece more
pub file_bytes-more : (n : ℕ) (pieces : List Piece) → file_bytes (n + 1) pieces ≡ file_bytes n pieces ++ bytes_of (bytes_at pieces n)
unfolding file_bytes
file_bytes-more n pieces =
    let f : ℕ → List ℕ = λ index. bytes_of (bytes_at pieces index) in
    let same : List ℕ → List ℕ = λ bytes. bytes in
    sym (flat_map-map same f (range_with_len 0 (n + 1)))
    ∙ ap (flat_map same) (map-range_with_len_more f 0 n n (zero-add n))
    ∙ rw (flat_map-append, flat_map-map same f (range_with_len 0 n), append-nil) refl

-- the bytes of several pieces more
pub file_bytes-several : (from n : ℕ) (pieces : List Piece) → file_bytes (from + n) pieces ≡ file_bytes from pieces ++ concat (pieces_from from n pieces)
file_bytes-several from zero pieces = ap (λ k. file_bytes k pieces) (add-zero from) ∙ sym (append-nil (file_bytes from pieces))
file_bytes-several from (suc n) pieces =
    let f : ℕ → List ℕ = λ index. bytes_of (bytes_at pieces index) in
    let before = file_bytes from pieces in
    let here = f (from + n) in
    let last : concat (here ∷ []) ≡ here = append-nil here in
    let next : from + suc n ≡ from + n + 1 = omega arith in
    ap (λ k. file_bytes k pieces) next
    ∙ file_bytes-more (from + n) pieces
    ∙ ap (λ bytes. bytes ++ here) (file_bytes-several from n pieces)
    ∙ append_assoc before (concat (pieces_from from n pieces)) here
    ∙ ap (λ bytes. before ++ (concat (pieces_from from n pieces) ++ bytes)) (sym last)
    ∙ ap (λ bytes. before ++ bytes) (sym (concat-append (pieces_from from n pieces) (here ∷ [])))
    ∙ ap (λ more. before ++ concat more) (sym (map-range_with_len_more f from n (from + n) refl))
    ∙ ap (λ k. before ++ concat (pieces_from from k pieces)) (add-one n)

-- the bytes of two lists that agree so far
pub file_bytes-agree : (n : ℕ) (one other : List Piece) → ((k : ℕ) → k < n → bytes_at one k ≡ bytes_at other k) → file_bytes n one ≡ file_bytes n other
unfolding file_bytes
file_bytes-agree zero one other agree = refl
file_bytes-agree (suc n) one other agree =
    ap (λ k. file_bytes k one) (sym (add-one n))
    ∙ file_bytes-more n one
    ∙ ap (λ bytes. bytes ++ bytes_of (bytes_at one n)) (file_bytes-agree n one other (λ k below. agree k (omega arith)))
    ∙ ap (λ place. file_bytes n other ++ bytes_of place) (agree n (omega arith))
    ∙ sym (file_bytes-more n other)
    ∙ ap (λ k. file_bytes k other) (add-one n)

-- a due piece has its length
length_of_due : (size piece_size index : ℕ) (place : Option (List ℕ)) → IsSome place → IfSome place (λ bytes. IsDue size piece_size (index, bytes)) → length (bytes_of place) ≡ due_length size piece_size index
length_of_due size piece_size index None some due = absurd (cc)
length_of_due size piece_size index (Some bytes) some due = due.1

-- an index that is there is one of the file
pub below_count : (size piece_size index : ℕ) (place : Option (List ℕ)) → IsSome place → IfSome place (λ bytes. IsDue size piece_size (index, bytes)) → index < piece_count size piece_size
below_count size piece_size index None some due = absurd (cc)
below_count size piece_size index (Some bytes) some due = due.0

-- the first n pieces, where they are there, have as many bytes as n whole ones, or all bytes of the file
pub length-file_bytes : (size piece_size n : ℕ) (pieces : List Piece) → All (IsDue size piece_size) pieces → ((k : ℕ) → k < n → IsSome (bytes_at pieces k)) → length (file_bytes n pieces) ≡ min size (n * piece_size)
unfolding file_bytes
length-file_bytes size piece_size zero pieces due there = omega arith
length-file_bytes size piece_size (suc n) pieces due there =
    let before = length-file_bytes size piece_size n pieces due (λ k below. there k (omega arith)) in
    let here = length_of_due size piece_size n (bytes_at pieces n) (there n (omega arith)) (bytes_at-all (IsDue size piece_size) pieces n due) in
    let more = file_bytes-more n pieces in
    ap (λ k. length (file_bytes k pieces)) (sym (add-one n)) ∙ ap length more
    ∙ length-append (file_bytes n pieces) (bytes_of (bytes_at pieces n))
    ∙ omega (arith, before, here)

-- all pieces of a file have all of its bytes
pub length-whole : (size piece_size : ℕ) (pieces : List Piece) → 1 ≤ piece_size → All (IsDue size piece_size) pieces → ((k : ℕ) → k < piece_count size piece_size → IsSome (bytes_at pieces k)) → length (file_bytes (piece_count size piece_size) pieces) ≡ size
length-whole size piece_size pieces positive due there =
    let enough = div_ceil_times size piece_size (omega (arith, positive)) in
    length-file_bytes size piece_size (piece_count size piece_size) pieces due there ∙ omega (arith, enough.0)
