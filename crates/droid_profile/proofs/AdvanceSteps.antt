-- All lanes hash some bytes more.
use Rattle.std.proofs.Common.{◌≡◌, ℕ, true, List, ◌++◌, length, take, drop, slice_get, Contains, MatchBool, take-append-drop, append_assoc, sym, ap, subst, ◌∙◌}
use Rattle.droid_pronom.specs.Registry.{Contents}
use Rattle.droid_hash.specs.Ends.{Came}
use Rattle.droid_hash.specs.Scanning.{Scanned}
use Rattle.droid_tree.specs.declared.folder_entry.FolderEntry.{FolderEntry}
use Rattle.droid_profile.specs.Calls.{Call}
use Rattle.droid_profile.specs.Readings.{Reading, NotYet, bytes_of, is_whole, joined}
use Rattle.droid_profile.specs.declared.options.Options.{Options}
use Rattle.droid_profile.specs.BatchFits.{BatchFits, LaneFits, StateFits}
use Rattle.droid_profile.specs.LaneSteps.{Advances, rest_in}
use Rattle.droid_profile.specs.declared.lanes.batch.Batch.{Batch}
use Rattle.droid_profile.specs.declared.lanes.file_lane.FileLane.{FileLane}
use Rattle.droid_profile.specs.declared.lanes.file_row.FileRow.{FileRow}
use Rattle.droid_profile.specs.declared.lanes.file_row.FileState.{FileState}
use Rattle.droid_profile.specs.declared.lanes.file_row.FileState.TheVariants.{Waits, InLane, Whole, Dropped}

module _ (registry : Contents) (options : Options) (old new : Batch) (same_files : new.files.items ≡ old.files.items) (same_waiting : new.waiting.items ≡ old.waiting.items) (advances : Advances old.lanes.items new.lanes.items old.hashes new.hashes) where
  lane_on : (j place : ℕ) (entry : FolderEntry) (reading : Reading) → LaneFits options old j place entry reading → LaneFits options new j place entry reading
  lane_on j place entry reading fits =
      let next = advances.passed.each j fits.lane fits.there in
      let rest : List ℕ = drop fits.lane.hashed fits.lane.buffer.items in
      record {
        within = fits.within;
        lane = next.after;
        there = next.there;
        busy = ap (λ (l : FileLane). l.busy) next.passes.same ∙ fits.busy;
        its = ap (λ (l : FileLane). l.place) next.passes.same ∙ fits.its;
        ending = subst (λ (l : FileLane). MatchBool l.at_end (is_whole reading.ending ≡ true) ((reading.ending ≡ NotYet) × (l.from ≡ length (joined reading.pieces)))) (sym next.passes.same) fits.ending;
        hashed = fits.hashed ++ take advances.count rest;
        scanned = subst (λ (l : List ℕ). Scanned new.hashes j (fits.hashed ++ take advances.count l)) (ap rest_in fits.there) (advances.taken j fits.within fits.hashed fits.scanned);
        bytes = fits.bytes
            ∙ (ap (λ (l : List ℕ). fits.hashed ++ l) (sym (take-append-drop advances.count rest))
            ∙ (sym (append_assoc fits.hashed (take advances.count rest) (drop advances.count rest))
            ∙ ap (λ (l : List ℕ). (fits.hashed ++ take advances.count rest) ++ l) (sym next.passes.rest ∙ ap (λ (l : List ℕ). drop next.after.hashed l) (sym (ap (λ (l : FileLane). l.buffer.items) next.passes.same)))));
        came = subst (λ (l : FileLane). Came l.ends (bytes_of reading)) (sym next.passes.same) fits.came;
        size = ap (λ (l : FileLane). l.ends.size) next.passes.same ∙ fits.size;
      }

  state_on : (place : ℕ) (was row : FileRow) (reading : Reading) (state : FileState) → StateFits registry options old place was row reading state → StateFits registry options new place was row reading state
  state_on place was row reading Waits fits = fits
  state_on place was row reading (InLane j) fits = (lane_on j place was.entry reading fits.0, fits.1)
  state_on place was row reading Whole fits = fits
  state_on place was row reading (Dropped why) fits = fits

  pub advanced : (first : List FileRow) (calls : List Call) → BatchFits registry options first old calls → BatchFits registry options first new calls
  advanced first calls fits = record {
    fresh = fits.fresh;
    made = record {
      few = fits.made.few;
      eight = advances.passed.counted ∙ fits.made.eight;
      kind = advances.kind ∙ fits.made.kind;
      limits = λ j after there.
          let before = advances.passed.back j after there in
          ap (λ (l : FileLane). l.ends.limit) before.passes.same ∙ fits.made.limits j before.lane before.there;
    };
    counted = ap length same_files ∙ fits.counted;
    rows = λ place row there.
        let its = fits.rows place row (sym (ap (λ (l : List FileRow). slice_get l place) same_files) ∙ there) in
        record {
          was = its.was;
          there = its.there;
          entry = its.entry;
          reading = its.reading;
          is_reading = its.is_reading;
          reads = its.reads;
          state = state_on place its.was row its.reading row.state its.state;
        };
    queued = λ place row there waits.
        subst (λ (l : List ℕ). Contains l place) (sym same_waiting) (fits.queued place row (sym (ap (λ (l : List FileRow). slice_get l place) same_files) ∙ there) waits);
    others = fits.others;
    no_folders = fits.no_folders;
  }
