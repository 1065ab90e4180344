-- A read of a lane's file is a read more of the batch.
use Rattle.std.proofs.Common.{◌≡◌, ℕ, ◌<◌, List, [], ◌∷◌, refl, subst}
use Rattle.std.specs.List.{flat_map}
use Rattle.droid_pronom.specs.Registry.{Contents}
use Rattle.droid_tree.specs.Heard.{Heard}
use Rattle.droid_tree.specs.Observation.{Observation, GoesOver}
use Rattle.droid_tree.specs.declared.folder_entry.FolderEntry.{FolderEntry}
use Rattle.droid_tree.specs.declared.skip_reason.Skipped.{Skipped}
use Rattle.droid_profile.specs.Calls.{Call, OfFile, heard_of_observation}
use Rattle.droid_profile.specs.Readings.{Ending, AtEnd, TooShort, TooLong, NoneCame, OtherFile, NotYet, last_read}
use Rattle.droid_profile.specs.declared.options.Options.{Options}
use Rattle.droid_profile.specs.BatchFits.{BatchFits, IsDropped}
use Rattle.droid_profile.specs.FilesRead.{ReadsMore}
use Rattle.droid_profile.specs.LaneReads.{IsDue, ReadsLast, ReadsPiece, StopsReading}
use Rattle.droid_profile.specs.declared.lanes.batch.Batch.{Batch}
use Rattle.droid_profile.specs.declared.lanes.file_lane.FileLane.{FileLane}
use Rattle.droid_profile.specs.declared.lanes.file_row.FileRow.{FileRow}
use Rattle.droid_profile.specs.declared.lanes.file_row.FileState.TheVariants.{InLane, Dropped}
use Rattle.droid_profile.proofs.BatchSteps.{FileSet, LaneSet, last_piece_read, piece_read, stopped}

-- a read that stopped is one read
record OneRead (path : List ℕ) (entry : FolderEntry) (from : ℕ) (ending : Ending) : Type 0 where
  pub observation : Observation
  pub is : last_read path entry from ending ≡ observation ∷ []

one_read : (path : List ℕ) (entry : FolderEntry) (from : ℕ) (ending : Ending) (why : Skipped) → IsDropped ending why → OneRead path entry from ending
one_read path entry from (AtEnd wanted bytes) why dropped = absurd dropped
one_read path entry from (TooShort wanted bytes) why dropped = record { observation = _; is = refl }
one_read path entry from (TooLong wanted bytes) why dropped = record { observation = _; is = refl }
one_read path entry from (NoneCame wanted) why dropped = record { observation = _; is = refl }
one_read path entry from (OtherFile wanted) why dropped = record { observation = _; is = refl }
one_read path entry from NotYet why dropped = absurd dropped

module _ {T W : Type 0} (observes : T → Observation → T → Type 0) (hears : W → Heard → W → Type 0) (registry : Contents) (options : Options) (first : List FileRow) (old new : Batch) (j place : ℕ)
    (lane lane_after : FileLane) (row row_after : FileRow) (calls : List Call) (fits : BatchFits registry options first old calls) (lanes : LaneSet old new j lane lane_after) (files : FileSet old new place row row_after)
    (small : j < 8) (in_lane : row.state ≡ InLane j) (unchanged : old.waiting.items ≡ new.waiting.items) (due : IsDue lane) (tree tree_after : T) (watcher watcher_after : W) where
  abbrev number : ℕ
  number = (fits.rows place row files.was).was.record.id

  pub more_stopped : (read : FileLane) (why : Skipped) → row_after ≡ record row { state = Dropped why } → StopsReading observes hears row.record.path row.entry why lane read tree tree_after watcher watcher_after
      → ReadsMore observes hears registry options first new calls tree tree_after watcher watcher_after
  more_stopped read why after stops =
      let one = one_read row.record.path row.entry lane.from stops.ending why stops.dropped in
      record {
        more = OfFile (fits.rows place row files.was).was.record.id one.observation ∷ [];
        fits = stopped registry options first old new j place lane lane_after row row_after calls fits lanes files small in_lane unchanged due stops.ending one.observation why one.is stops.is_ending stops.dropped after;
        observed = subst (λ (l : List Observation). GoesOver observes tree l tree_after) one.is stops.observed;
        heard = subst (λ (l : List Observation). GoesOver hears watcher (flat_map heard_of_observation l) watcher_after) one.is stops.heard;
      }

  pub more_piece : row_after ≡ row → new.hashes ≡ old.hashes → ReadsPiece observes hears row.record.path row.entry lane lane_after tree tree_after watcher watcher_after
      → ReadsMore observes hears registry options first new calls tree tree_after watcher watcher_after
  more_piece still hashes piece = record {
    more = _;
    fits = piece_read registry options first old new j place lane lane_after row row_after calls fits lanes files small in_lane unchanged due piece.bytes piece.gets still hashes piece.within piece.goes_on;
    observed = (tree_after, piece.observed, refl);
    heard = (watcher_after, piece.heard, refl);
  }

  pub more_last : row_after ≡ row → new.hashes ≡ old.hashes → ReadsLast observes hears row.record.path row.entry lane lane_after tree tree_after watcher watcher_after
      → ReadsMore observes hears registry options first new calls tree tree_after watcher watcher_after
  more_last still hashes last = record {
    more = _;
    fits = last_piece_read registry options first old new j place lane lane_after row row_after calls fits lanes files small in_lane unchanged due last.bytes last.gets still hashes last.wanted last.ending last.ended;
    observed = (tree_after, last.observed, refl);
    heard = (watcher_after, last.heard, refl);
  }
