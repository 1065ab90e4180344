-- What one read of a lane's file comes to.
use Rattle.std.proofs.Common.{◌≡◌, inl, inr, ℕ, ◌+◌, List, length, refl, sym, ap, subst, ◌∙◌}
use Rattle.droid_hash.specs.Ends.{Ends, Came}
use Rattle.droid_tree.specs.Heard.{Heard, TookBytes}
use Rattle.droid_tree.specs.Observation.{Observation, Read, Unread, Exchanged}
use Rattle.droid_tree.specs.Reading.{IsReason}
use Rattle.droid_tree.specs.declared.fault.TreeFault.{TreeFault}
use Rattle.droid_tree.specs.declared.fault.TreeFault.TheVariants as faults
use Rattle.droid_tree.specs.declared.folder_entry.FolderEntry.{FolderEntry}
use Rattle.droid_tree.specs.declared.skip_reason.Skipped.{Skipped}
use Rattle.droid_profile.specs.Readings.{TooShort, TooLong, NoneCame, OtherFile}
use Rattle.droid_profile.specs.LaneReads.{GetsBytes, IsJudged, Keeps, ReadsOnce, StopsReading}
use Rattle.droid_profile.specs.declared.lanes.file_lane.FileLane.{FileLane}
use Rattle.droid_profile.specs.declared.lanes.lane_reader.Came.{Came as Outcome}
use Rattle.droid_profile.specs.declared.lanes.lane_reader.Came.TheVariants as outcomes

module _ {T W : Type 0} (observes : T → Observation → T → Type 0) (hears : W → Heard → W → Type 0) (path : List ℕ) (entry : FolderEntry) (old held new : FileLane)
    (busy : held.busy ≡ old.busy) (its : held.place ≡ old.place) (start : held.from ≡ old.from) (ends : held.ends ≡ old.ends) where
  gets_again : (bytes : List ℕ) → GetsBytes held new bytes → GetsBytes old new bytes
  gets_again bytes gets = record {
    busy = gets.busy ∙ busy;
    its = gets.its ∙ its;
    from = gets.from ∙ ap (λ (n : ℕ). n + length bytes) start;
    buffer = gets.buffer;
    hashed = gets.hashed;
    came = λ before came. gets.came before (subst (λ (e : Ends). Came e before) (sym ends) came);
    size = gets.size ∙ ap (λ (e : Ends). e.size) ends;
    limit = gets.limit ∙ ap (λ (e : Ends). e.limit) ends;
  }

  -- bytes came, and were judged
  pub reads_once : (outcome : Outcome) (bytes : List ℕ) (wanted : ℕ) (tree tree_after : T) (watcher watcher_after : W) → IsJudged entry.len old.from bytes wanted outcome → Keeps held new bytes outcome
      → observes tree (Read path entry old.from wanted bytes) tree_after → hears watcher (TookBytes path (length bytes)) watcher_after
      → ReadsOnce observes hears path entry outcome old new tree tree_after watcher watcher_after
  reads_once outcomes.Piece bytes wanted tree tree_after watcher watcher_after judged keeps observed heard = record {
    bytes = bytes;
    within = judged.1;
    observed = subst (λ (n : ℕ). observes tree (Read path entry old.from n bytes) tree_after) (sym judged.0) observed;
    heard = heard;
    gets = gets_again bytes keeps.0;
    goes_on = keeps.1;
  }
  reads_once outcomes.Last bytes wanted tree tree_after watcher watcher_after judged keeps observed heard = record {
    bytes = bytes;
    wanted = wanted;
    ending = judged;
    observed = observed;
    heard = heard;
    gets = gets_again bytes keeps.0;
    ended = keeps.1;
  }
  reads_once (outcomes.Stopped why) bytes wanted tree tree_after watcher watcher_after judged keeps observed heard = elim judged.1 [
    | inl short ↦ record {
      ending = TooShort wanted bytes;
      is_ending = short;
      dropped = judged.0;
      observed = (tree_after, observed, refl);
      heard = (watcher_after, heard, refl);
      limit = keeps ∙ ap (λ (e : Ends). e.limit) ends;
    }
    | inr long ↦ record {
      ending = TooLong wanted bytes;
      is_ending = long;
      dropped = judged.0;
      observed = (tree_after, observed, refl);
      heard = (watcher_after, heard, refl);
      limit = keeps ∙ ap (λ (e : Ends). e.limit) ends;
    }
  ]

  -- none could be read, or it was not as its folder lists it
  pub stops_unread : (fault : TreeFault) (why : Skipped) (wanted : ℕ) (tree tree_after : T) (watcher : W) → IsReason fault why → new.ends.limit ≡ old.ends.limit
      → (fault ≡ faults.Unreadable → observes tree (Unread path entry old.from wanted) tree_after) → (fault ≡ faults.Changed → observes tree (Exchanged path entry old.from wanted) tree_after)
      → StopsReading observes hears path entry why old new tree tree_after watcher watcher
  stops_unread faults.Memory why wanted tree tree_after watcher reason limit unread exchanged = absurd reason
  stops_unread faults.Unreadable why wanted tree tree_after watcher reason limit unread exchanged =
      record { ending = NoneCame wanted; is_ending = tt; dropped = reason; observed = (tree_after, unread refl, refl); heard = refl; limit = limit }
  stops_unread faults.Changed why wanted tree tree_after watcher reason limit unread exchanged =
      record { ending = OtherFile wanted; is_ending = tt; dropped = reason; observed = (tree_after, exchanged refl, refl); heard = refl; limit = limit }
