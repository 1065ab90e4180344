-- Each turn leaves less of a batch to be read and hashed.
use Rattle.std.proofs.Common.{◌≡◌, inl, inr, ℕ, zero, suc, ◌+◌, ◌-◌, ◌*◌, ◌<◌, ◌≤◌, Bool, true, false, List, [], ◌∷◌, ◌++◌, length, drop, set, slice_get, Some, refl, sym, ap, subst, ◌∙◌, arith}
use Rattle.std.proofs.lemmas.Bool.Decides.{leb_tells}
use Rattle.std.proofs.lemmas.List.{length-drop}
use Rattle.std.proofs.lemmas.Option.{slice_get_within}
use Rattle.droid_profile.specs.LaneSteps.{AllPass, Begins, Passes}
use Rattle.droid_profile.specs.TurnsLeft.{At, HasBusy, HasRest, IsLeft, IsNotDue, IsServed, IsUnfinished, LanesLessen, Lessens, batch_left, end_left, far, file_left, if_busy, lane_left, lanes_left, waiting_left}
use Rattle.droid_profile.specs.declared.lanes.batch.Batch.{Batch}
use Rattle.droid_profile.specs.declared.lanes.file_lane.FileLane.{FileLane}
use Rattle.droid_profile.proofs.Places.{item_at, same_item}

-- ---- a list of lanes

-- what one lane gains or loses, all do
pub left_set : (lanes : List FileLane) (j : ℕ) (lane after : FileLane) → slice_get lanes j ≡ Some lane → lanes_left (set lanes j after) + lane_left lane ≡ lanes_left lanes + lane_left after
left_set [] j lane after there = absurd cc
left_set (its ∷ lanes) zero lane after there = omega (arith, ap lane_left (same_item (Some its) its lane refl there))
left_set (its ∷ lanes) (suc j) lane after there = omega (arith, left_set lanes j lane after there)

pub lanes_less : (lanes now : List FileLane) (j : ℕ) (lane after : FileLane) → slice_get lanes j ≡ Some lane → now ≡ set lanes j after → lane_left after < lane_left lane → lanes_left now < lanes_left lanes
lanes_less lanes now j lane after there is less = omega (arith, ap lanes_left is, left_set lanes j lane after there, less)

pub waiting_push : (places : List ℕ) (place : ℕ) → waiting_left (places ++ place ∷ []) ≡ waiting_left places + (2 * far + 5)
waiting_push [] place = omega arith
waiting_push (its ∷ places) place = omega (arith, waiting_push places place)

-- ---- one lane

pub idle_left : (lane : FileLane) → lane.busy ≡ false → lane_left lane ≡ 0
idle_left lane idle = ap (λ (b : Bool). if_busy b (file_left lane)) idle

pub busy_left : (lane : FileLane) → lane.busy ≡ true → lane_left lane ≡ file_left lane
busy_left lane busy = ap (λ (b : Bool). if_busy b (file_left lane)) busy

-- each offset is below this number
pub far_is : far ≡ 18446744073709551616
unfolding far
far_is = refl

pub end_most : (b : Bool) → end_left b ≤ 4
end_most true = omega arith
end_most false = omega arith

end_some : (b : Bool) → 0 < end_left b
end_some true = omega arith
end_some false = omega arith

-- a file that is left alone is no longer left
pub idle_less : (lane after : FileLane) → lane.busy ≡ true → after.busy ≡ false → lane_left after < lane_left lane
idle_less lane after busy idle = omega (arith, idle_left after idle, busy_left lane busy, end_some lane.at_end)

-- a file that was just begun
pub begun_left : (old new : FileLane) (place size : ℕ) → Begins old new place size → lane_left new ≡ 2 * far + 4
begun_left old new place size begins =
    let none : length (drop new.hashed new.buffer.items) ≡ 0 = omega (arith, length-drop new.hashed new.buffer.items, ap length begins.empty) in
    omega (arith, busy_left new begins.busy, none, ap end_left begins.at_end, ap (λ (n : ℕ). far - n) begins.from)

-- a file that was read on
pub moved_less : (lane after : FileLane) → lane.busy ≡ true → lane.at_end ≡ false → (after.busy ≡ lane.busy) → file_left after < 2 * (far - lane.from) + 4 → lane_left after < lane_left lane
moved_less lane after busy goes_on same less = omega (arith, busy_left lane busy, busy_left after (same ∙ busy), ap end_left goes_on, less)

-- ---- some bytes of each lane are hashed

rest_now : (lane after : FileLane) (count : ℕ) → Passes lane after count → length (drop after.hashed after.buffer.items) ≡ length (drop lane.hashed lane.buffer.items) - count
rest_now lane after count passes =
    ap (λ (l : FileLane). length (drop after.hashed l.buffer.items)) passes.same
    ∙ (ap length passes.rest ∙ length-drop count (drop lane.hashed lane.buffer.items))

file_now : (lane after : FileLane) (count : ℕ) → Passes lane after count → file_left after ≡ (length (drop lane.hashed lane.buffer.items) - count) + (2 * (far - lane.from) + end_left lane.at_end)
file_now lane after count passes =
    omega (arith, rest_now lane after count passes, ap (λ (l : FileLane). 2 * (far - l.from) + end_left l.at_end) passes.same)

pass_at_most : (b : Bool) (n m : ℕ) → n ≤ m → if_busy b n ≤ if_busy b m
pass_at_most true n m less = less
pass_at_most false n m less = omega arith

pub passed_left : (lane after : FileLane) (count : ℕ) → Passes lane after count → lane_left after ≤ lane_left lane
passed_left lane after count passes =
    omega (arith, ap (λ (l : FileLane). if_busy l.busy (file_left after)) passes.same, pass_at_most lane.busy (file_left after) (file_left lane) (omega (arith, file_now lane after count passes)))

pub passed_less : (lane after : FileLane) (count : ℕ) → Passes lane after count → lane.busy ≡ true → HasRest lane → 0 < count → lane_left after < lane_left lane
passed_less lane after count passes busy rest some =
    omega (arith, busy_left lane busy, busy_left after (ap (λ (l : FileLane). l.busy) passes.same ∙ busy), file_now lane after count passes, rest, some)

-- the first lane, and the others
first_passes : (lane after : FileLane) (lanes now : List FileLane) (count : ℕ) → AllPass (lane ∷ lanes) (after ∷ now) count → Passes lane after count
first_passes lane after lanes now count all =
    let its = all.each zero lane refl in
    subst (λ (l : FileLane). Passes lane l count) (same_item (Some after) its.after after its.there refl) its.passes

rest_passes : (lane after : FileLane) (lanes now : List FileLane) (count : ℕ) → AllPass (lane ∷ lanes) (after ∷ now) count → AllPass lanes now count
rest_passes lane after lanes now count all = record {
  counted = omega (arith, all.counted);
  each = λ j its there. let at = all.each (suc j) its there in record { after = at.after; there = at.there; passes = at.passes };
  back = λ j its there. let at = all.back (suc j) its there in record { lane = at.lane; there = at.there; passes = at.passes };
}

pub all_left : (lanes now : List FileLane) (count : ℕ) → AllPass lanes now count → lanes_left now ≤ lanes_left lanes
all_left [] [] count all = omega arith
all_left [] (after ∷ now) count all = absurd (omega (arith, all.counted))
all_left (lane ∷ lanes) [] count all = absurd (omega (arith, all.counted))
all_left (lane ∷ lanes) (after ∷ now) count all =
    omega (arith, passed_left lane after count (first_passes lane after lanes now count all), all_left lanes now count (rest_passes lane after lanes now count all))

pub all_less : (lanes now : List FileLane) (count j : ℕ) (lane : FileLane) → AllPass lanes now count → slice_get lanes j ≡ Some lane → lane.busy ≡ true → HasRest lane → 0 < count → lanes_left now < lanes_left lanes
all_less [] now count j lane all there busy rest some = absurd cc
all_less (its ∷ lanes) [] count j lane all there busy rest some = absurd (omega (arith, all.counted))
all_less (its ∷ lanes) (after ∷ now) count zero lane all there busy rest some =
    let same : lane ≡ its = same_item (Some its) lane its there refl in
    omega (
      arith,
      passed_less its after count (first_passes its after lanes now count all) (subst (λ (l : FileLane). l.busy ≡ true) same busy) (subst HasRest same rest) some,
      all_left lanes now count (rest_passes its after lanes now count all),
    )
all_less (its ∷ lanes) (after ∷ now) count (suc j) lane all there busy rest some =
    omega (arith, passed_left its after count (first_passes its after lanes now count all), all_less lanes now count j lane (rest_passes its after lanes now count all) there busy rest some)

-- ---- a turn

-- nothing is to be done for a lane but to hash its bytes
pub record IsCalm (waiting : List ℕ) (lane : FileLane) : Type 0 where
  pub unfinished : IsUnfinished lane
  pub served : IsServed waiting lane
  pub not_due : IsNotDue lane

-- the lanes before this one were served: less is left, or nothing changed since nothing was to be done for them
abbrev pub Served : ℕ → Batch → Batch → Type 0
Served n start now = Lessens start now ((j : ℕ) → j < n → At start.lanes.items j (IsCalm start.waiting.items))

pub served_none : (start : Batch) → Served 0 start start
served_none start = inr (refl, refl, λ j below lane there. absurd (omega (arith, below)))

-- the steps of one lane, one after the other
pub one_lane : (old ended begun read : Batch) (j : ℕ) → Lessens old ended (At old.lanes.items j IsUnfinished) → Lessens ended begun (At ended.lanes.items j (IsServed ended.waiting.items))
    → read.waiting.items ≡ begun.waiting.items → LanesLessen begun.lanes.items read.lanes.items (At begun.lanes.items j IsNotDue) → Lessens old read (At old.lanes.items j (IsCalm old.waiting.items))
one_lane old ended begun read j first second same third = after_first first second third
  where
    waits : waiting_left read.waiting.items ≡ waiting_left begun.waiting.items
    waits = ap waiting_left same

    at_most : {C : Type 0} → LanesLessen begun.lanes.items read.lanes.items C → batch_left read ≤ batch_left begun
    at_most (inl less) = omega (arith, less, waits)
    at_most (inr calm) = omega (arith, ap lanes_left calm.0, waits)

    no_more : {C : Type 0} → Lessens ended begun C → batch_left begun ≤ batch_left ended
    no_more (inl less) = omega (arith, less)
    no_more (inr calm) = omega (arith, ap waiting_left calm.0, ap lanes_left calm.1)

    after_first : Lessens old ended (At old.lanes.items j IsUnfinished) → Lessens ended begun (At ended.lanes.items j (IsServed ended.waiting.items)) → LanesLessen begun.lanes.items read.lanes.items (At begun.lanes.items j IsNotDue)
        → Lessens old read (At old.lanes.items j (IsCalm old.waiting.items))
    after_first (inl less) begins reads = inl (omega (arith, less, no_more begins, at_most reads))
    after_first (inr calm) (inl less) reads = inl (omega (arith, ap waiting_left calm.0, ap lanes_left calm.1, less, at_most reads))
    after_first (inr calm) (inr still) (inl less) = inl (omega (arith, ap waiting_left calm.0, ap lanes_left calm.1, ap waiting_left still.0, ap lanes_left still.1, less, waits))
    after_first (inr calm) (inr still) (inr quiet) = inr (
      same ∙ (still.0 ∙ calm.0),
      quiet.0 ∙ (still.1 ∙ calm.1),
      λ lane there. record {
        unfinished = calm.2 lane there;
        served = λ idle. sym calm.0 ∙ still.2 lane (ap (λ (l : List FileLane). slice_get l j) calm.1 ∙ there) idle;
        not_due = quiet.1 lane (ap (λ (l : List FileLane). slice_get l j) (still.1 ∙ calm.1) ∙ there);
      },
    )

pub served_more : (start now next : Batch) (n : ℕ) → Served n start now → Lessens now next (At now.lanes.items n (IsCalm now.waiting.items)) → Served (n + 1) start next
served_more start now next n (inl less) (inl more) = inl (omega (arith, less, more))
served_more start now next n (inl less) (inr calm) = inl (omega (arith, less, ap waiting_left calm.0, ap lanes_left calm.1))
served_more start now next n (inr calm) (inl more) = inl (omega (arith, more, ap waiting_left calm.0, ap lanes_left calm.1))
served_more start now next n (inr calm) (inr still) = inr (
  still.0 ∙ calm.0,
  still.1 ∙ calm.1,
  λ j below lane there. elim (leb_tells n j) [
    | inl t ↦ subst (λ (l : List ℕ). IsCalm l lane) calm.0
        (still.2 lane (ap (λ (l : List FileLane). slice_get l n) calm.1 ∙ subst (λ (k : ℕ). slice_get start.lanes.items k ≡ Some lane) (omega (arith, t.1, below)) there))
    | inr t ↦ calm.2 j t.1 lane there
  ],
)

-- a lane with a file, of which nothing is to be done but to hash its bytes
has_rest : (waiting : List ℕ) (lane : FileLane) → IsCalm waiting lane → lane.busy ≡ true → HasRest lane
has_rest waiting lane calm busy = by_end lane.at_end refl
  where
    by_end : (b : Bool) → lane.at_end ≡ b → HasRest lane
    by_end true is = calm.unfinished busy is
    by_end false is = calm.not_due busy is

-- if all lanes were served, some bytes are hashed, and less is left
pub turn_less : (start served : Batch) (now : List FileLane) (count n : ℕ) → Served n start served → length start.lanes.items ≤ n → 0 < length start.lanes.items → IsLeft start → AllPass served.lanes.items now count
    → ((j : ℕ) (lane : FileLane) → slice_get served.lanes.items j ≡ Some lane → HasRest lane → 0 < count) → waiting_left served.waiting.items + lanes_left now < batch_left start
turn_less start served now count n (inl less) all eight left passes some = omega (arith, less, all_left served.lanes.items now count passes)
turn_less start served now count n (inr calm) all eight left passes some = hashed (busy_lane left)
  where
    calm_at : (j : ℕ) (lane : FileLane) → slice_get start.lanes.items j ≡ Some lane → IsCalm start.waiting.items lane
    calm_at j lane there = calm.2 j (omega (arith, all, slice_get_within start.lanes.items j lane there)) lane there

    -- the first lane, if a file waits
    first_busy : 0 < length start.waiting.items → (b : Bool) (lane : FileLane) → slice_get start.lanes.items 0 ≡ Some lane → lane.busy ≡ b → HasBusy start.lanes.items
    first_busy waits true lane there busy = record { j = 0; lane = lane; there = there; busy = busy }
    first_busy waits false lane there idle = absurd (omega (arith, waits, ap length ((calm_at 0 lane there).served idle)))

    busy_lane : IsLeft start → HasBusy start.lanes.items
    busy_lane (inr busy) = busy
    busy_lane (inl waits) = let at = item_at start.lanes.items 0 eight in first_busy waits at.0.busy at.0 at.1 refl

    hashed : HasBusy start.lanes.items → waiting_left served.waiting.items + lanes_left now < batch_left start
    hashed its =
        let there : slice_get served.lanes.items its.j ≡ Some its.lane = ap (λ (l : List FileLane). slice_get l its.j) calm.1 ∙ its.there in
        let rest = has_rest start.waiting.items its.lane (calm_at its.j its.lane its.there) its.busy in
        omega (arith, ap waiting_left calm.0, ap lanes_left calm.1, all_less served.lanes.items now count its.j its.lane passes there its.busy rest (some its.j its.lane there rest))
