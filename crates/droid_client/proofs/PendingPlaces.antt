-- The places of the pending requests: they rise, one more comes last, and an answered one goes.
use Rattle.std.proofs.Common.{◌≡◌, ℕ, zero, suc, ◌+◌, ◌<◌, ◌≤◌, List, [], ◌∷◌, ◌++◌, length, get_or, set, Option, Some, None, IsSome, refl, sym, ap, ◌∙◌, arith}
use Rattle.std.specs.List.{slice_get, cons_option, remove}
use Rattle.droid_frame.specs.declared.frame.Frame.{Frame}
use Rattle.droid_client.specs.declared.slot.Slot.{Slot}
use Rattle.droid_client.specs.Cores.{frames_pending, pending_in}
use Rattle.droid_client.specs.Places.{place_before, places_from}

-- ---- none is below the first, and they rise

abbrev Rise : List ℕ → Type 0
Rise places = (i j : ℕ) → i ≤ j → j < length places → get_or places i 0 ≤ get_or places j 0

from_before : (place : ℕ) (frame : Option Frame) (rest : List ℕ) → ((k : ℕ) → k < length rest → suc place ≤ get_or rest k 0) → (k : ℕ) → k < length (place_before place frame rest) → place ≤ get_or (place_before place frame rest) k 0
from_before place None rest each k below = let here = each k below in omega arith
from_before place (Some frame) rest each zero below = omega arith
from_before place (Some frame) rest each (suc k) below = let here = each k (omega arith) in omega arith

pub from_first : (place : ℕ) (slots : List Slot) (k : ℕ) → k < length (places_from place slots) → place ≤ get_or (places_from place slots) k 0
from_first place [] k below = absurd (omega arith)
from_first place (slot ∷ slots) k below = from_before place (pending_in slot.state) (places_from (suc place) slots) (from_first (suc place) slots) k below

rise_before : (place : ℕ) (frame : Option Frame) (rest : List ℕ) → ((k : ℕ) → k < length rest → suc place ≤ get_or rest k 0) → Rise rest → Rise (place_before place frame rest)
rise_before place None rest each rise i j order below = rise i j order below
rise_before place (Some frame) rest each rise zero zero order below = omega arith
rise_before place (Some frame) rest each rise zero (suc j) order below = let here = each j (omega arith) in omega arith
rise_before place (Some frame) rest each rise (suc i) zero order below = absurd (omega arith)
rise_before place (Some frame) rest each rise (suc i) (suc j) order below = rise i j (omega arith) (omega arith)

pub rise_all : (place : ℕ) (slots : List Slot) → Rise (places_from place slots)
rise_all place [] i j order below = absurd (omega arith)
rise_all place (slot ∷ slots) i j order below = rise_before place (pending_in slot.state) (places_from (suc place) slots) (from_first (suc place) slots) (rise_all (suc place) slots) i j order below

-- ---- where a pending slot's place stands

abbrev IsPlace : List ℕ → ℕ → Type 0
IsPlace places place = (k : ℕ) × (k < length places) × (get_or places k 0 ≡ place)

found_here : (place : ℕ) (frame : Option Frame) (rest : List ℕ) → IsSome frame → IsPlace (place_before place frame rest) (place + 0)
found_here place None rest some = absurd cc
found_here place (Some frame) rest some = (0, omega arith, omega arith)

found_later : (place at : ℕ) (frame : Option Frame) (rest : List ℕ) → IsPlace rest (suc place + at) → IsPlace (place_before place frame rest) (place + suc at)
found_later place at None rest there = (there.0, there.1, omega (arith, there.2))
found_later place at (Some frame) rest there = (suc there.0, omega (arith, there.1), omega (arith, there.2))

pub found : (place : ℕ) (slots : List Slot) (at : ℕ) (slot : Slot) → slice_get slots at ≡ Some slot → IsSome (pending_in slot.state) → IsPlace (places_from place slots) (place + at)
found place [] at slot is some = absurd cc
found place (first ∷ slots) zero slot is some =
    let same : slot ≡ first = cc in
    found_here place (pending_in first.state) (places_from (suc place) slots) (rw same at some)
found place (first ∷ slots) (suc at) slot is some = found_later place at (pending_in first.state) (places_from (suc place) slots) (found (suc place) slots at slot is some)

-- ---- an answered one goes

gone_here : (place : ℕ) (frame : Option Frame) (rest : List ℕ) → ((k : ℕ) → k < length rest → suc place ≤ get_or rest k 0) → (k : ℕ) → k < length (place_before place frame rest) → get_or (place_before place frame rest) k 0 ≡ place + 0 → remove (place_before place frame rest) k ≡ rest
gone_here place None rest each k below is = let here = each k below in absurd (omega arith)
gone_here place (Some frame) rest each zero below is = refl
gone_here place (Some frame) rest each (suc k) below is = let here = each k (omega arith) in absurd (omega arith)

gone_later : (place at : ℕ) (frame : Option Frame) (rest left : List ℕ) → ((k : ℕ) → k < length rest → get_or rest k 0 ≡ suc place + at → remove rest k ≡ left) → (k : ℕ) → k < length (place_before place frame rest) → get_or (place_before place frame rest) k 0 ≡ place + suc at → remove (place_before place frame rest) k ≡ place_before place frame left
gone_later place at None rest left goes k below is = goes k below (omega arith)
gone_later place at (Some frame) rest left goes zero below is = absurd (omega arith)
gone_later place at (Some frame) rest left goes (suc k) below is = ap (λ (places : List ℕ). place ∷ places) (goes k (omega arith) (omega arith))

pub gone : (place : ℕ) (slots : List Slot) (at : ℕ) (slot : Slot) → at < length slots → pending_in slot.state ≡ None → (k : ℕ) → k < length (places_from place slots) → get_or (places_from place slots) k 0 ≡ place + at → remove (places_from place slots) k ≡ places_from place (set slots at slot)
gone place [] at slot within answered k below is = absurd (omega arith)
gone place (first ∷ slots) zero slot within answered k below is =
    gone_here place (pending_in first.state) (places_from (suc place) slots) (from_first (suc place) slots) k below is
    ∙ ap (λ (frame : Option Frame). place_before place frame (places_from (suc place) slots)) (sym answered)
gone place (first ∷ slots) (suc at) slot within answered k below is =
    gone_later place at (pending_in first.state) (places_from (suc place) slots) (places_from (suc place) (set slots at slot)) (gone (suc place) slots at slot (omega arith) answered) k below is

-- ---- one that stays pending, or answered, changes nothing

pub same_places : (place : ℕ) (slots : List Slot) (at : ℕ) (old new : Slot) → slice_get slots at ≡ Some old → pending_in new.state ≡ pending_in old.state → places_from place (set slots at new) ≡ places_from place slots
same_places place [] at old new is same = refl
same_places place (first ∷ slots) zero old new is same =
    let here : old ≡ first = cc in
    ap (λ (frame : Option Frame). place_before place frame (places_from (suc place) slots)) (same ∙ ap (λ (slot : Slot). pending_in slot.state) here)
same_places place (first ∷ slots) (suc at) old new is same = ap (place_before place (pending_in first.state)) (same_places (suc place) slots at old new is same)

-- ---- one more comes last

before-append : (place : ℕ) (frame : Option Frame) (rest more : List ℕ) → place_before place frame (rest ++ more) ≡ place_before place frame rest ++ more
before-append place None rest more = refl
before-append place (Some frame) rest more = refl

pub pushed : (place : ℕ) (slots : List Slot) (slot : Slot) (frame : Frame) → pending_in slot.state ≡ Some frame → places_from place (slots ++ slot ∷ []) ≡ places_from place slots ++ (place + length slots) ∷ []
pushed place [] slot frame pending =
    ap (λ (frame : Option Frame). place_before place frame []) pending ∙ ap (λ (n : ℕ). n ∷ []) (omega arith)
pushed place (first ∷ slots) slot frame pending =
    ap (place_before place (pending_in first.state)) (pushed (suc place) slots slot frame pending)
    ∙ before-append place (pending_in first.state) (places_from (suc place) slots) ((suc place + length slots) ∷ [])
    ∙ ap (λ (n : ℕ). places_from place (first ∷ slots) ++ n ∷ []) (omega arith)

-- ---- the frames that are pending there

length_before : (place : ℕ) (frame : Option Frame) (rest : List ℕ) (frames : List Frame) → length rest ≡ length frames → length (place_before place frame rest) ≡ length (cons_option frame frames)
length_before place None rest frames same = same
length_before place (Some frame) rest frames same = ap suc same

pub length_places : (place : ℕ) (slots : List Slot) → length (places_from place slots) ≡ length (frames_pending slots)
length_places place [] = refl
length_places place (slot ∷ slots) = length_before place (pending_in slot.state) (places_from (suc place) slots) (frames_pending slots) (length_places (suc place) slots)

-- the slot at a place is that of the frame of the same index
pub record Shows (slots : List Slot) (place : ℕ) (frame : Option Frame) : Type 0 where
  pub slot : Slot
  pub is_there : slice_get slots place ≡ Some slot
  pub is_frame : pending_in slot.state ≡ frame

abbrev ShowsFrom : ℕ → List Slot → ℕ → Option Frame → Type 0
ShowsFrom place slots number frame = (at : ℕ) × (number ≡ place + at) × Shows slots at frame

shown_later : (place : ℕ) (first : Slot) (slots : List Slot) (number : ℕ) (frame : Option Frame) → ShowsFrom (suc place) slots number frame → ShowsFrom place (first ∷ slots) number frame
shown_later place first slots number frame shows =
    let there = shows.2 in
    (suc shows.0, omega (arith, shows.1), record { slot = there.slot; is_there = there.is_there; is_frame = there.is_frame })

shown_before : (place : ℕ) (first : Slot) (slots : List Slot) (frame : Option Frame) → pending_in first.state ≡ frame
    → ((k : ℕ) → k < length (places_from (suc place) slots) → ShowsFrom (suc place) slots (get_or (places_from (suc place) slots) k 0) (slice_get (frames_pending slots) k))
    → (k : ℕ) → k < length (place_before place frame (places_from (suc place) slots))
    → ShowsFrom place (first ∷ slots) (get_or (place_before place frame (places_from (suc place) slots)) k 0) (slice_get (cons_option frame (frames_pending slots)) k)
shown_before place first slots None is each k below = shown_later place first slots _ _ (each k below)
shown_before place first slots (Some frame) is each zero below = (0, omega arith, record { slot = first; is_there = refl; is_frame = is })
shown_before place first slots (Some frame) is each (suc k) below = shown_later place first slots _ _ (each k (omega arith))

shown_from : (place : ℕ) (slots : List Slot) (k : ℕ) → k < length (places_from place slots) → ShowsFrom place slots (get_or (places_from place slots) k 0) (slice_get (frames_pending slots) k)
shown_from place [] k below = absurd (omega arith)
shown_from place (first ∷ slots) k below = shown_before place first slots (pending_in first.state) refl (shown_from (suc place) slots) k below

pub shown : (slots : List Slot) (k place : ℕ) → k < length (places_from 0 slots) → get_or (places_from 0 slots) k 0 ≡ place → Shows slots place (slice_get (frames_pending slots) k)
shown slots k place below is =
    let shows = shown_from 0 slots k below in
    let same : shows.0 ≡ place = omega (arith, shows.1, is) in
    rw same at shows.2
