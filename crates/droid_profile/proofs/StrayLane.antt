-- A lane in which no file is read becomes idle.
use Rattle.std.proofs.Common.{◌≡◌, ℕ, List, length, slice_get, Some, Contains, refl, sym, ap, subst, ◌∙◌}
use Rattle.droid_pronom.specs.Registry.{Contents}
use Rattle.droid_profile.specs.Calls.{Call}
use Rattle.droid_profile.specs.Readings.{Reading}
use Rattle.droid_profile.specs.declared.options.Options.{Options}
use Rattle.droid_profile.specs.BatchFits.{BatchFits, LaneFits, StateFits}
use Rattle.droid_profile.specs.FileStates.{HasState}
use Rattle.droid_profile.specs.declared.lanes.batch.Batch.{Batch}
use Rattle.droid_profile.specs.declared.lanes.file_lane.FileLane.{FileLane}
use Rattle.droid_profile.specs.declared.lanes.file_row.FileRow.{FileRow}
use Rattle.droid_profile.specs.declared.lanes.file_row.FileState.{FileState}
use Rattle.droid_profile.specs.declared.lanes.file_row.FileState.TheVariants.{Waits, InLane, Whole, Dropped}
use Rattle.droid_profile.proofs.BatchSteps.{LaneSet, lanes_else, still_for}
use Rattle.droid_profile.proofs.Places.{same_item}

module _ (registry : Contents) (options : Options) (first : List FileRow) (old new : Batch) (j : ℕ) (lane lane_after : FileLane) (lanes : LaneSet old new j lane lane_after)
    (files : new.files.items ≡ old.files.items) (waiting : new.waiting.items ≡ old.waiting.items) (stray : HasState old.files.items lane.place (InLane j) → ⊥) where
  lane_kept : (i place : ℕ) (was row : FileRow) (reading : Reading) → slice_get old.files.items place ≡ Some row → row.state ≡ InLane i → LaneFits options old i place was.entry reading → LaneFits options new i place was.entry reading
  lane_kept i place was row reading there is fits =
      let apart : i ≡ j → ⊥ = λ same.
      let its : fits.lane ≡ lane = same_item (slice_get old.lanes.items j) fits.lane lane (subst (λ (k : ℕ). slice_get old.lanes.items k ≡ Some fits.lane) same fits.there) lanes.was in
      stray (record {
        row = row;
        there = subst (λ (k : ℕ). slice_get old.files.items k ≡ Some row) (sym fits.its ∙ ap (λ (l : FileLane). l.place) its) there;
        its = is ∙ ap InLane same;
      }) in
      record {
        within = fits.within;
        lane = fits.lane;
        there = lanes_else old new j lane lane_after lanes i apart ∙ fits.there;
        busy = fits.busy;
        its = fits.its;
        ending = fits.ending;
        hashed = fits.hashed;
        scanned = lanes.hashes_else i fits.within apart fits.hashed fits.scanned;
        bytes = fits.bytes;
        came = fits.came;
        size = fits.size;
      }

  state_kept : (place : ℕ) (was row : FileRow) (reading : Reading) (state : FileState) → slice_get old.files.items place ≡ Some row → row.state ≡ state → StateFits registry options old place was row reading state → StateFits registry options new place was row reading state
  state_kept place was row reading Waits there is fits = fits
  state_kept place was row reading (InLane i) there is fits = (lane_kept i place was row reading there is fits.0, fits.1)
  state_kept place was row reading Whole there is fits = fits
  state_kept place was row reading (Dropped why) there is fits = fits

  pub left_idle : (calls : List Call) → BatchFits registry options first old calls → BatchFits registry options first new calls
  left_idle calls fits = record {
    fresh = fits.fresh;
    made = still_for old new j lane lane_after lanes options fits.made;
    counted = ap length files ∙ fits.counted;
    rows = λ place row there.
        let before = sym (ap (λ (l : List FileRow). slice_get l place) files) ∙ there in
        let its = fits.rows place row before in
        record {
          was = its.was;
          there = its.there;
          entry = its.entry;
          reading = its.reading;
          is_reading = its.is_reading;
          reads = its.reads;
          state = state_kept place its.was row its.reading row.state before refl its.state;
        };
    queued = λ place row there waits.
        subst (λ (l : List ℕ). Contains l place) (sym waiting) (fits.queued place row (sym (ap (λ (l : List FileRow). slice_get l place) files) ∙ there) waits);
    others = fits.others;
    no_folders = fits.no_folders;
  }
