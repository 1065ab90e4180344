-- What a batch says when all its files were read, and when the reading ends early.
use Rattle.std.proofs.Common.{◌≡◌, inr, ℕ, zero, suc, ◌<◌, true, false, List, [], ◌∷◌, ◌++◌, length, map, slice_get, Some, Contains, Result, Ok, Err, IfErr, OnErr, refl, sym, ap, subst, ◌∙◌, arith}
use Rattle.std.proofs.lemmas.List.{map-append}
use Rattle.std.proofs.lemmas.List.Concat.{flat_map-append}
use Rattle.droid_pronom.specs.Registry.{Contents}
use Rattle.droid_tree.specs.Heard.{Heard}
use Rattle.droid_tree.specs.Observation.{Observation, GoesOver}
use Rattle.droid_profile.specs.Calls.{Call, heard_of_call, heard_of_calls, observation_of}
use Rattle.droid_profile.specs.Readings.{Reading, unread}
use Rattle.droid_profile.specs.declared.fault.ProfileFault.{ProfileFault}
use Rattle.droid_profile.specs.declared.fault.ProfileFault.TheVariants as faults
use Rattle.droid_profile.specs.declared.options.Options.{Options}
use Rattle.droid_profile.specs.BatchFits.{BatchFits, RowFits, StateFits}
use Rattle.droid_profile.specs.FileStates.{AreFresh}
use Rattle.droid_profile.specs.FilesRead.{IsSettled, ReadsAll, ReadsFront, ReadsMore, ReadsOn, ReadsSome, Settles}
use Rattle.droid_profile.specs.LaneSteps.{AreIdle, IsFor}
use Rattle.droid_profile.specs.declared.lanes.batch.Batch.{Batch}
use Rattle.droid_profile.specs.declared.lanes.file_row.FileRow.{FileRow}
use Rattle.droid_profile.specs.declared.lanes.file_row.FileState.{FileState}
use Rattle.droid_profile.specs.declared.lanes.file_row.FileState.TheVariants.{Waits, InLane, Whole, Dropped}
use Rattle.droid_profile.proofs.Places.{item_at, same_item}

-- what holds, holds after an error too
pub always : {A E P : Type 0} (result : Result A E) → P → OnErr result P
always (Ok a) it = tt
always (Err e) it = it

-- what holds of this fault holds of the result that has it
pub ends_by : {A E : Type 0} (P : E → Type 0) (result : Result A E) (y : E) → result ≡ Err y → P y → IfErr result P
ends_by {A = A} {E = E} P result y is it = subst (λ (r : Result A E). IfErr r P) (sym is) it

-- a run after a run
pub over_more : {S A : Type 0} (step : S → A → S → Type 0) (first middle last : S) (xs ys : List A) → GoesOver step first xs middle → GoesOver step middle ys last → GoesOver step first (xs ++ ys) last
over_more step first middle last [] ys p q = subst (λ (s : _). GoesOver step s ys last) p q
over_more step first middle last (x ∷ xs) ys p q = (p.0, p.1, over_more step p.0 middle last xs ys p.2 q)

within_list : {A : Type 0} (xs : List A) (place : ℕ) (x : A) → slice_get xs place ≡ Some x → place < length xs
within_list [] place x there = absurd cc
within_list (y ∷ ys) zero x there = omega arith
within_list (y ∷ ys) (suc place) x there = omega (arith, within_list ys place x there)

module _ {T W : Type 0} (observes : T → Observation → T → Type 0) (hears : W → Heard → W → Type 0) (registry : Contents) (options : Options) (first : List FileRow) where
  -- more reads after some
  pub read_on : (old new : Batch) (start tree tree_after : T) (begun watcher watcher_after : W) → ReadsOn observes hears registry options first old start tree begun watcher
      → ((calls : List Call) → BatchFits registry options first old calls → ReadsMore observes hears registry options first new calls tree tree_after watcher watcher_after)
      → ReadsOn observes hears registry options first new start tree_after begun watcher_after
  read_on old new start tree tree_after begun watcher watcher_after on more =
      let next = more on.calls on.fits in
      record {
        calls = on.calls ++ next.more;
        fits = next.fits;
        observed = subst (λ (l : List Observation). GoesOver observes start l tree_after) (sym (map-append observation_of on.calls next.more))
            (over_more observes start tree tree_after (map observation_of on.calls) (map observation_of next.more) on.observed next.observed);
        heard = subst (λ (l : List Heard). GoesOver hears begun l watcher_after) (sym (flat_map-append heard_of_call on.calls next.more))
            (over_more hears begun watcher watcher_after (heard_of_calls on.calls) (heard_of_calls next.more) on.heard next.heard);
      }

  pub still_on : (old new : Batch) (start tree : T) (begun watcher : W) → ReadsOn observes hears registry options first old start tree begun watcher
      → ((calls : List Call) → BatchFits registry options first old calls → BatchFits registry options first new calls) → ReadsOn observes hears registry options first new start tree begun watcher
  still_on old new start tree begun watcher on moves = record { calls = on.calls; fits = moves on.calls on.fits; observed = on.observed; heard = on.heard }

  -- ---- the beginning

  pub not_begun : (batch : Batch) (start : T) (begun : W) → batch.files.items ≡ first → AreFresh first → IsFor options batch → ((place : ℕ) → place < length batch.files.items → Contains batch.waiting.items place)
      → ReadsOn observes hears registry options first batch start start begun begun
  not_begun batch start begun same fresh made all = record {
    calls = [];
    fits = record {
      fresh = fresh;
      made = made;
      counted = ap length same;
      rows = λ place row there.
          let at : slice_get first place ≡ Some row = sym (ap (λ (l : List FileRow). slice_get l place) same) ∙ there in
          record {
            was = row;
            there = at;
            entry = refl;
            reading = unread;
            is_reading = record { within = omega arith; ending = tt };
            reads = refl;
            state = subst (StateFits registry options batch place row row unread) (sym (fresh.waiting place row at)) (refl, refl);
          };
      queued = λ place row there waits. all place (within_list batch.files.items place row there);
      others = λ number absent. refl;
      no_folders = refl;
    };
    observed = refl;
    heard = refl;
  }

  -- ---- an early end

  pub front : (batch : Batch) (fault : ProfileFault) (start tree tree_after : T) (begun watcher : W) → (fault ≡ faults.Memory) → ReadsOn observes hears registry options first batch start tree begun watcher
      → ReadsFront observes hears first fault start tree_after begun watcher
  front batch fault start tree tree_after begun watcher is on = record {
    calls = on.calls;
    are = record { others = on.fits.others; no_folders = on.fits.no_folders };
    reached = tree;
    stands = inr is;
    explained = is;
    observed = on.observed;
    heard = on.heard;
    begun = λ place was there.
        let at = item_at batch.files.items place (subst (λ (n : ℕ). place < n) (sym on.fits.counted) (within_list first place was there)) in
        some place was there (on.fits.rows place at.0 at.1);
  }
    where
      some : (place : ℕ) (was : FileRow) → slice_get first place ≡ Some was → {row : FileRow} → RowFits registry options first batch on.calls place row → ReadsSome on.calls was
      some place was there {row} its =
          subst (ReadsSome on.calls) (same_item (slice_get first place) its.was was its.there there) (record { reading = its.reading; is_reading = its.is_reading; reads = its.reads })

  -- before the first read
  pub front_at_once : (start : T) (begun : W) → ReadsFront observes hears first faults.Memory start start begun begun
  front_at_once start begun = record {
    calls = [];
    are = record { others = λ number absent. refl; no_folders = refl };
    reached = start;
    stands = inr refl;
    explained = refl;
    observed = refl;
    heard = refl;
    begun = λ place was there. record { reading = unread; is_reading = record { within = omega arith; ending = tt }; reads = refl };
  }

  -- ---- the end

  settled_by : (batch : Batch) (calls : List Call) (place : ℕ) (was row : FileRow) (reading : Reading) (state : FileState) → batch.waiting.items ≡ [] → AreIdle batch.lanes.items → (state ≡ Waits → Contains batch.waiting.items place)
      → StateFits registry options batch place was row reading state → IsSettled registry options was row reading state
  settled_by batch calls place was row reading Waits none idle queued fits = absurd (empty batch.waiting.items none (queued refl))
    where
      empty : (xs : List ℕ) → xs ≡ [] → Contains xs place → ⊥
      empty xs is has = omega (arith, ap length is, has.1)
  settled_by batch calls place was row reading (InLane j) none idle queued fits = absurd (both fits.0.lane.busy (idle j fits.0.lane fits.0.there) fits.0.busy)
    where
      both : (b : _) → b ≡ false → b ≡ true → ⊥
      both b is_false is_true = cc
  settled_by batch calls place was row reading Whole none idle queued fits = fits
  settled_by batch calls place was row reading (Dropped why) none idle queued fits = fits

  pub all_read : (batch : Batch) (start tree : T) (begun watcher : W) → batch.waiting.items ≡ [] → AreIdle batch.lanes.items → ReadsOn observes hears registry options first batch start tree begun watcher
      → ReadsAll observes hears registry options first batch.files.items start tree begun watcher
  all_read batch start tree begun watcher none idle on = record {
    calls = on.calls;
    are = record { others = on.fits.others; no_folders = on.fits.no_folders };
    observed = on.observed;
    heard = on.heard;
    counted = on.fits.counted;
    settled = λ place was row was_there there.
        let its = on.fits.rows place row there in
        let same = same_item (slice_get first place) its.was was its.there was_there in
        subst (λ (w : FileRow). Settles registry options on.calls w row) same
        (record {
          reading = its.reading;
          is_reading = its.is_reading;
          reads = its.reads;
          state = settled_by batch on.calls place its.was row its.reading row.state none idle (on.fits.queued place row there) its.state;
        });
  }
