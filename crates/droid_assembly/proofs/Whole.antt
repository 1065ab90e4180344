-- A whole file in an assembly, and how many bytes are kept of it.
use Rattle.std.proofs.Common.{◌≡◌, ℕ, ◌+◌, ◌-◌, ◌*◌, ◌<◌, ◌≤◌, ◌%◌, List, length, take, drop, set, min, get_or, Option, None, Some, IfSome, sym, ap, ◌∙◌, arith, length-set}
use Rattle.std.specs.List.{All, sum_by}
use Rattle.std.specs.Option.{MatchOption}
use Rattle.std.specs.Bool.{⊤}
use Rattle.std.proofs.lemmas.List.{length-take, length-drop}
use Rattle.std.proofs.lemmas.List.Elements.{All-from_get_or, All-set}
use Rattle.std.proofs.lemmas.List.Sums.{sum_by-set, sum_by-le}
use Rattle.droid_assembly.specs.Pieces.{Piece, bytes_at, file_bytes, first_window, last_window, IsDue}
use Rattle.droid_assembly.specs.State.{State, StandsFor, IsComplete, count_of, width_of, pending_bytes}
use Rattle.droid_assembly.specs.Kept.{weight, IsConsistent, IsFree}
use Rattle.droid_assembly.specs.declared.front.Front.{Front}
use Rattle.droid_assembly.proofs.Indexes.{missing_before, bytes_at-all, length-file_bytes, length-whole}
use Rattle.droid_assembly.proofs.Ends.{take-min}

-- the pieces of a complete assembly have as many bytes as the file
pub length-complete : (a : State) (front : Front) (pieces : List Piece) → IsConsistent a front → IsComplete a → StandsFor a pieces → length (file_bytes (count_of a) pieces) ≡ a.size
length-complete a front pieces sound complete stands =
    length-whole a.size a.piece_size pieces sound.sizes.piece_size_positive stands.are_due
    (λ k below. missing_before (count_of a) pieces k (omega (arith, below, complete, stands.least)))

-- how many bytes the pieces before the first missing one have
pub length-before : (a : State) (front : Front) (pieces : List Piece) → StandsFor a pieces → length (file_bytes a.first_missing pieces) ≡ min a.size (a.first_missing * a.piece_size)
length-before a front pieces stands =
    length-file_bytes a.size a.piece_size a.first_missing pieces stands.are_due
    (λ k below. missing_before (count_of a) pieces k (omega (arith, below, stands.least)))

-- the first window is that of the whole file
pub first-whole : (a : State) (front : Front) (pieces : List Piece) → IsConsistent a front → IsComplete a → StandsFor a pieces → a.first ≡ first_window a.scan_limit (file_bytes (count_of a) pieces)
first-whole a front pieces sound complete stands =
    let bytes = file_bytes (count_of a) pieces in
    let long = length-complete a front pieces sound complete stands in
    let width : width_of a ≡ min a.scan_limit (length bytes) = omega (arith, long) in
    stands.begun
    ∙ ap (λ n. take (width_of a) (file_bytes n pieces)) complete
    ∙ ap (λ n. take n bytes) width
    ∙ take-min a.scan_limit bytes

-- and so is the last
pub last-whole : (a : State) (front : Front) (pieces : List Piece) → IsConsistent a front → IsComplete a → StandsFor a pieces → a.last ≡ last_window a.scan_limit (file_bytes (count_of a) pieces)
last-whole a front pieces sound complete stands =
    let bytes = file_bytes (count_of a) pieces in
    let long = length-complete a front pieces sound complete stands in
    let skip : length bytes - width_of a ≡ length bytes - a.scan_limit = omega (arith, long) in
    stands.ended
    ∙ ap (λ n. last_window (width_of a) (file_bytes n pieces)) complete
    ∙ ap (λ n. drop n bytes) skip

-- they have as many bytes as are scanned, or all
pub length-first : (a : State) (front : Front) → IsConsistent a front → IsComplete a → length a.first ≡ min a.scan_limit a.size
length-first a front sound complete =
    let bytes = file_bytes (count_of a) sound.pieces in
    omega (arith, ap length (first-whole a front sound.pieces sound complete sound.stands), length-take a.scan_limit bytes, length-complete a front sound.pieces sound complete sound.stands)

pub length-last : (a : State) (front : Front) → IsConsistent a front → IsComplete a → length a.last ≡ min a.scan_limit a.size
length-last a front sound complete =
    let bytes = file_bytes (count_of a) sound.pieces in
    omega (arith, ap length (last-whole a front sound.pieces sound complete sound.stands), length-drop (length bytes - a.scan_limit) bytes, length-complete a front sound.pieces sound complete sound.stands)

-- Of the pieces that wait.

-- a due piece is no longer than a piece's size
weight_le : (size piece_size index : ℕ) (place : Option (List ℕ)) → IfSome place (λ bytes. IsDue size piece_size (index, bytes)) → weight place ≤ piece_size
weight_le size piece_size index None due = omega arith
weight_le size piece_size index (Some bytes) due = omega (arith, due.1)

-- each place is that of one index near enough
near : ℕ → ℕ → ℕ
near from place = from + (place + 16 - from % 16) % 16

near_is : (from place : ℕ) → place < 16 → (from ≤ near from place) × (near from place < from + 16) × (near from place % 16 ≡ place)
unfolding near
near_is from place low = (omega arith, omega arith, omega (arith, low))

-- so no place has more
pub each_waiting : (a : State) (front : Front) → IsConsistent a front → All (λ place. weight place ≤ a.piece_size) a.waiting
each_waiting a front sound =
    All-from_get_or (λ place. weight place ≤ a.piece_size) a.waiting None (λ place below.
    let low : place < 16 = omega (arith, below, sound.places) in
    let index = near a.first_missing place in
    let is = near_is a.first_missing place low in
    let at : get_or a.waiting place None ≡ bytes_at sound.pieces index =
    ap (λ n. get_or a.waiting n None) (sym is.2) ∙ sound.stands.waits index is.0 is.1 in
    rw at (weight_le a.size a.piece_size index (bytes_at sound.pieces index) (bytes_at-all (IsDue a.size a.piece_size) sound.pieces index sound.stands.are_due)))

-- the waiting pieces have at most 16 pieces' bytes
pub waiting_le : (a : State) (front : Front) → IsConsistent a front → sum_by weight a.waiting ≤ 16 * a.piece_size
waiting_le a front sound =
    omega (arith, sum_by-le weight a.piece_size a.waiting (each_waiting a front sound), ap (λ n. n * a.piece_size) sound.places)

-- the same bound holds with the pending one, which has one of their places
with_pending_le : (a : State) (front : Front) (piece : Piece) → IsConsistent a front → IsFree a piece → sum_by weight a.waiting + length piece.1 ≤ 16 * a.piece_size
with_pending_le a front piece sound free =
    let none : Option (List ℕ) = None in
    let place = piece.0 % 16 in
    let full = set a.waiting place (Some piece.1) in
    let long : length full ≡ 16 = length-set a.waiting place (Some piece.1) ∙ sound.places in
    let fits : weight (Some piece.1) ≤ a.piece_size = omega (arith, free.is_due.1) in
    let all = All-set (λ at. weight at ≤ a.piece_size) a.waiting place (Some piece.1) fits (each_waiting a front sound) in
    let one = sum_by-set weight a.waiting place (Some piece.1) none (omega (arith, sound.places)) in
    omega (arith, sum_by-le weight a.piece_size full all, ap (λ n. n * a.piece_size) long, one, ap weight free.free)

pub pending_le : (a : State) (front : Front) (pending : Option Piece) → IsConsistent a front → MatchOption pending ⊤ (IsFree a) → sum_by weight a.waiting + pending_bytes pending ≤ 16 * a.piece_size
pending_le a front None sound free = omega (arith, waiting_le a front sound)
pending_le a front (Some piece) sound free = with_pending_le a front piece sound free

-- what was settled is what was passed and what waits
pub settled_is : (a : State) (front : Front) → IsConsistent a front → a.settled_bytes ≡ min a.size (a.first_missing * a.piece_size) + sum_by weight a.waiting
settled_is a front sound = omega (arith, sound.weighed, length-before a front sound.pieces sound.stands)
