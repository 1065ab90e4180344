-- An assembly of no piece.
use Rattle.std.proofs.Common.{◌≡◌, ◌∙◌, ℕ, zero, suc, ◌-◌, ◌%◌, List, [], length, replicate, take, drop, get_or, min, Option, None, refl, sym, ap, arith, cond}
use Rattle.std.proofs.lemmas.List.{length-replicate}
use Rattle.std.specs.Option.{is_some}
use Rattle.std.proofs.lemmas.List.Folds.{sum_by-replicate}
use Rattle.std.proofs.lemmas.List.Elements.{All-nil}
use Rattle.droid_assembly.specs.Pieces.{AreSizes, piece_count, IsDue, file_bytes}
use Rattle.droid_assembly.specs.Fronts.{IsFront, FrontKnows}
use Rattle.droid_assembly.specs.State.{State, Room, StandsFor}
use Rattle.droid_assembly.specs.Kept.{weight, IsConsistent}
use Rattle.droid_assembly.specs.declared.front.Front.{Front}
use Rattle.droid_assembly.proofs.Indexes.{missing_is}

no_place : Option (List ℕ)
no_place = None

-- no place has a piece
free_place : (count index : ℕ) → get_or (replicate count None) index no_place ≡ None
unfolding no_place
free_place zero index = refl
free_place (suc count) zero = refl
free_place (suc count) (suc index) = free_place count index

-- an assembly of this file that nothing was put into
abbrev pub fresh : ℕ → ℕ → ℕ → Front → List (Option (List ℕ)) → Room → State
fresh size piece_size scan_limit front waiting reserved = record {
  size = size;
  piece_size = piece_size;
  scan_limit = scan_limit;
  held_count = 0;
  first_missing = 0;
  settled_bytes = 0;
  first = front.first.items;
  last = front.last.items;
  running = front.hash;
  hashed = None;
  waiting = waiting;
  pending = None;
  reserved = reserved;
}

pub fresh-stands : (size piece_size scan_limit : ℕ) (front : Front) (waiting : List (Option (List ℕ))) (reserved : Room) → waiting ≡ replicate 16 None → front.width ≡ min size scan_limit → FrontKnows front [] → StandsFor (fresh size piece_size scan_limit front waiting reserved) []
unfolding no_place file_bytes
fresh-stands size piece_size scan_limit front waiting reserved empty width knows =
    let count = piece_count size piece_size in
    let none : List ℕ = [] in
    record {
      are_due = All-nil (IsDue size piece_size);
      are_distinct = λ i j d before below. absurd (omega arith);
      counted = refl;
      least = sym (missing_is count 0 [] (omega arith) (λ k h. absurd (omega arith)) (λ h. refl));
      weighed = refl;
      begun = knows.begun ∙ ap (λ w. take w none) width;
      ended = knows.ended ∙ ap (λ w. drop (0 - w) none) width;
      is_hash = knows.hashed;
      waits = λ index low high. rw empty (free_place 16 (index % 16));
      none_beyond = λ index far. refl;
    }

pub fresh-sound : (size piece_size scan_limit : ℕ) (front : Front) (waiting : List (Option (List ℕ))) (reserved : Room) → AreSizes size piece_size scan_limit → IsFront front → waiting ≡ replicate 16 None → front.width ≡ min size scan_limit → FrontKnows front [] → IsConsistent (fresh size piece_size scan_limit front waiting reserved) front
unfolding no_place file_bytes
fresh-sound size piece_size scan_limit front waiting reserved sizes sound empty width knows =
    let tally : Option (List ℕ) → ℕ = λ place. cond (is_some place) 1 0 in
    record {
      sizes = sizes;
      within = omega arith;
      places = ap length empty ∙ length-replicate 16 no_place;
      front = sound;
      width = width;
      pieces = [];
      stands = fresh-stands size piece_size scan_limit front waiting reserved empty width knows;
      weighed = rw empty (omega (arith, sum_by-replicate weight 16 no_place));
      counted = rw empty (omega (arith, sum_by-replicate tally 16 no_place));
      pending = tt;
      sealed = λ some. absurd (cc);
    }
