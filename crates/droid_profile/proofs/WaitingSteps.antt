-- A batch of which only the list of waiting files is another.
use Rattle.std.proofs.Common.{◌≡◌, ℕ, List, length, slice_get, Some, Contains, subst, sym, ap, ◌∙◌}
use Rattle.droid_pronom.specs.Registry.{Contents}
use Rattle.droid_hash.specs.Scanning.{Scanned, lanes_kind}
use Rattle.droid_hash.specs.declared.hash_lanes.HashLanes.{HashLanes}
use Rattle.droid_tree.specs.declared.folder_entry.FolderEntry.{FolderEntry}
use Rattle.droid_profile.specs.Calls.{Call}
use Rattle.droid_profile.specs.Readings.{Reading}
use Rattle.droid_profile.specs.declared.options.Options.{Options}
use Rattle.droid_profile.specs.BatchFits.{BatchFits, LaneFits, StateFits}
use Rattle.droid_profile.specs.declared.lanes.batch.Batch.{Batch}
use Rattle.droid_profile.specs.declared.lanes.file_lane.FileLane.{FileLane}
use Rattle.droid_profile.specs.declared.lanes.file_row.FileRow.{FileRow}
use Rattle.droid_profile.specs.declared.lanes.file_row.FileState.{FileState}
use Rattle.droid_profile.specs.declared.lanes.file_row.FileState.TheVariants.{Waits, InLane, Whole, Dropped}

module _ (registry : Contents) (options : Options) (first : List FileRow) (old new : Batch) (files : new.files.items ≡ old.files.items) (lanes : new.lanes.items ≡ old.lanes.items) (hashes : new.hashes ≡ old.hashes) where
  lane_same : (j place : ℕ) (entry : FolderEntry) (reading : Reading) → LaneFits options old j place entry reading → LaneFits options new j place entry reading
  lane_same j place entry reading fits = record {
    within = fits.within;
    lane = fits.lane;
    there = ap (λ (l : List FileLane). slice_get l j) lanes ∙ fits.there;
    busy = fits.busy;
    its = fits.its;
    ending = fits.ending;
    hashed = fits.hashed;
    scanned = subst (λ (h : HashLanes). Scanned h j fits.hashed) (sym hashes) fits.scanned;
    bytes = fits.bytes;
    came = fits.came;
    size = fits.size;
  }

  state_same : (place : ℕ) (was row : FileRow) (reading : Reading) (state : FileState) → StateFits registry options old place was row reading state → StateFits registry options new place was row reading state
  state_same place was row reading Waits fits = fits
  state_same place was row reading (InLane j) fits = (lane_same j place was.entry reading fits.0, fits.1)
  state_same place was row reading Whole fits = fits
  state_same place was row reading (Dropped why) fits = fits

  pub waiting_changed : (calls : List Call) → BatchFits registry options first old calls
      → ((place : ℕ) (row : FileRow) → slice_get old.files.items place ≡ Some row → row.state ≡ Waits → Contains old.waiting.items place → Contains new.waiting.items place)
      → BatchFits registry options first new calls
  waiting_changed calls fits still = record {
    fresh = fits.fresh;
    made = record {
      few = fits.made.few;
      eight = ap length lanes ∙ fits.made.eight;
      kind = ap lanes_kind hashes ∙ fits.made.kind;
      limits = λ j lane there. fits.made.limits j lane (sym (ap (λ (l : List FileLane). slice_get l j) lanes) ∙ there);
    };
    counted = ap length files ∙ fits.counted;
    rows = λ place row there.
        let its = fits.rows place row (sym (ap (λ (l : List FileRow). slice_get l place) files) ∙ there) in
        record {
          was = its.was;
          there = its.there;
          entry = its.entry;
          reading = its.reading;
          is_reading = its.is_reading;
          reads = its.reads;
          state = state_same place its.was row its.reading row.state its.state;
        };
    queued = λ place row there waits.
        let before = sym (ap (λ (l : List FileRow). slice_get l place) files) ∙ there in
        still place row before waits (fits.queued place row before waits);
    others = fits.others;
    no_folders = fits.no_folders;
  }
