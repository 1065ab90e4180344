-- One file and one lane move on, and all others stay as they are.
use Rattle.std.proofs.Common.{◌≡◌, inl, inr, ℕ, ◌<◌, true, List, [], ◌++◌, length, Some, slice_get, Contains, sym, ap, subst, ◌∙◌}
use Rattle.std.proofs.lemmas.Bool.Decides.{eqb_tells}
use Rattle.droid_pronom.specs.Registry.{Contents}
use Rattle.droid_hash.specs.Scanning.{Scanned}
use Rattle.droid_profile.specs.Calls.{Call, folder_calls, reads_of}
use Rattle.droid_profile.specs.Readings.{Reading}
use Rattle.droid_profile.specs.declared.options.Options.{Options}
use Rattle.droid_profile.specs.BatchFits.{BatchFits, LaneFits, RowFits, StateFits}
use Rattle.droid_profile.specs.FileStates.{numbers_in}
use Rattle.droid_profile.specs.LaneSteps.{IsFor}
use Rattle.droid_profile.specs.declared.lanes.batch.Batch.{Batch}
use Rattle.droid_profile.specs.declared.lanes.file_lane.FileLane.{FileLane}
use Rattle.droid_profile.specs.declared.lanes.file_row.FileRow.{FileRow}
use Rattle.droid_profile.specs.declared.lanes.file_row.FileState.{FileState}
use Rattle.droid_profile.specs.declared.lanes.file_row.FileState.TheVariants.{Waits, InLane, Whole, Dropped}
use Rattle.droid_profile.proofs.Places.{same_item}
use Rattle.droid_profile.proofs.ReadsSplit.{folders_append, reads_still}

-- the file at this place and this lane are others now
pub record Moves (old new : Batch) (j place : ℕ) (row : FileRow) : Type 0 where
  pub row_at : slice_get new.files.items place ≡ Some row
  pub rows_else : (other : ℕ) → (other ≡ place → ⊥) → slice_get new.files.items other ≡ slice_get old.files.items other
  pub counted : length new.files.items ≡ length old.files.items
  pub lanes_else : (i : ℕ) → (i ≡ j → ⊥) → slice_get new.lanes.items i ≡ slice_get old.lanes.items i
  pub hashes_else : (i : ℕ) → i < 8 → (i ≡ j → ⊥) → (bytes : List ℕ) → Scanned old.hashes i bytes → Scanned new.hashes i bytes
  pub free : (other : ℕ) (lane : FileLane) → slice_get old.lanes.items j ≡ Some lane → lane.busy ≡ true → lane.place ≡ other → other ≡ place
  pub waiting : (other : ℕ) → (other ≡ place → ⊥) → Contains old.waiting.items other → Contains new.waiting.items other

module _ (registry : Contents) (options : Options) (first : List FileRow) (old new : Batch) (j place : ℕ) (row : FileRow) (moves : Moves old new j place row) where
  lane_still : (other i : ℕ) (was : FileRow) (reading : Reading) → (other ≡ place → ⊥) → LaneFits options old i other was.entry reading → LaneFits options new i other was.entry reading
  lane_still other i was reading apart fits =
      let elsewhere : i ≡ j → ⊥ = λ same. apart (moves.free other fits.lane (subst (λ (k : ℕ). slice_get old.lanes.items k ≡ Some fits.lane) same fits.there) fits.busy fits.its) in
      record {
        within = fits.within;
        lane = fits.lane;
        there = moves.lanes_else i elsewhere ∙ fits.there;
        busy = fits.busy;
        its = fits.its;
        ending = fits.ending;
        hashed = fits.hashed;
        scanned = moves.hashes_else i fits.within elsewhere fits.hashed fits.scanned;
        bytes = fits.bytes;
        came = fits.came;
        size = fits.size;
      }

  state_still : (other : ℕ) (was its : FileRow) (reading : Reading) (state : FileState) → (other ≡ place → ⊥) → StateFits registry options old other was its reading state → StateFits registry options new other was its reading state
  state_still other was its reading Waits apart fits = fits
  state_still other was its reading (InLane i) apart fits = (lane_still other i was reading apart fits.0, fits.1)
  state_still other was its reading Whole apart fits = fits
  state_still other was its reading (Dropped why) apart fits = fits

  module _ (calls more : List Call) (fits : BatchFits registry options first old calls) where
    row_still : (other : ℕ) (its : FileRow) → (other ≡ place → ⊥) → ((was : FileRow) → slice_get first other ≡ Some was → reads_of was.record.id more ≡ []) → RowFits registry options first old calls other its
        → RowFits registry options first new (calls ++ more) other its
    row_still other its apart none row_fits = record {
      was = row_fits.was;
      there = row_fits.there;
      entry = row_fits.entry;
      reading = row_fits.reading;
      is_reading = row_fits.is_reading;
      reads = reads_still row_fits.was.record.id calls more (none row_fits.was row_fits.there) ∙ row_fits.reads;
      state = state_still other row_fits.was its row_fits.reading its.state apart row_fits.state;
    }

    -- the reads that were added are of this file alone
    pub moved : (was : FileRow) → slice_get first place ≡ Some was → ((number : ℕ) → (number ≡ was.record.id → ⊥) → reads_of number more ≡ []) → folder_calls more ≡ [] → (Contains (numbers_in first) was.record.id)
        → RowFits registry options first new (calls ++ more) place row → (row.state ≡ Waits → ⊥) → IsFor options new → BatchFits registry options first new (calls ++ more)
    moved was there none none_of_folders listed its begun made = record {
      fresh = fits.fresh;
      made = made;
      counted = moves.counted ∙ fits.counted;
      rows = λ other found at. elim (eqb_tells other place) [
        | inl t ↦ row_is other found t.1 at
        | inr t ↦ row_still other found t.1 (λ its_was its_there. none its_was.record.id (λ same. t.1 (fits.fresh.distinct other place its_was was its_there there same))) (fits.rows other found (sym (moves.rows_else other t.1) ∙ at))
      ];
      queued = λ other found at waits. elim (eqb_tells other place) [
        | inl t ↦ absurd (begun (ap (λ (r : FileRow). r.state) (same_row other found t.1 at) ∙ waits))
        | inr t ↦ moves.waiting other t.1 (fits.queued other found (sym (moves.rows_else other t.1) ∙ at) waits)
      ];
      others = λ number absent. reads_still number calls more (none number (λ same. absent (subst (Contains (numbers_in first)) (sym same) listed))) ∙ fits.others number absent;
      no_folders = folders_append calls more fits.no_folders none_of_folders;
    }
      where
        same_row : (other : ℕ) (found : FileRow) → other ≡ place → slice_get new.files.items other ≡ Some found → row ≡ found
        same_row other found same at = same_item (slice_get new.files.items place) row found moves.row_at (subst (λ (k : ℕ). slice_get new.files.items k ≡ Some found) same at)

        row_is : (other : ℕ) (found : FileRow) → other ≡ place → slice_get new.files.items other ≡ Some found → RowFits registry options first new (calls ++ more) other found
        row_is other found same at =
            subst (λ (k : ℕ). RowFits registry options first new (calls ++ more) k found) (sym same)
            (subst (RowFits registry options first new (calls ++ more) place) (same_row other found same at) its)
