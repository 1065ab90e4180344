-- A file is read piece by piece for its hash.
use Rattle.std.proofs.Common.{◌≡◌, ℕ, ◌+◌, ◌-◌, ◌<◌, min, List, [], ◌++◌, length, inl, inr, refl, ap, sym, subst, ◌∙◌, arith}
use Rattle.std.proofs.lemmas.List.{length-append}
use Rattle.droid_frame.specs.Hashes.{hash}
use Rattle.droid_frame.specs.RunningHashes.{HoldsAll, running_kind}
use Rattle.droid_frame.specs.declared.hash_kind.HashKind.{HashKind}
use Rattle.droid_frame.specs.declared.hash_value.HashValue.{HashValue}
use Rattle.droid_frame.specs.declared.running_hash.RunningHash.{RunningHash}
use Rattle.droid_tree.specs.Observation.{Observation, Read}
use Rattle.droid_tree.specs.Reading.{Stop, NoneCame, FewerCame, MoreCame, OtherFile, IsPastEnd, IsShort, IsStop, StopsAt}
use Rattle.droid_tree.specs.declared.folder_entry.FolderEntry.{FolderEntry}
use Rattle.droid_tree.specs.declared.skip_reason.Skipped.{Skipped}
use Rattle.droid_cmd_identify.specs.FilesHashed as hashing
use Rattle.droid_cmd_identify.specs.FilesHashed.{AddsPiece, HashesFile, HoldsFront, ReadsFront, StopsHashing}

module _ {T : Type 0} (observes : T → Observation → T → Type 0) (path : List ℕ) (entry : FolderEntry) (kind : HashKind) (tree : T) where
  pub front_none : (running : RunningHash) → HoldsAll running [] → running_kind running ≡ kind → HoldsFront observes path entry kind tree 0 running tree
  front_none running holds its = record { bytes = []; read = hashing.none; counted = refl; holds = holds; its = its }

  pub front_more : (from wanted : ℕ) (old new : RunningHash) (middle tree_after : T) → HoldsFront observes path entry kind tree from old middle → AddsPiece observes path entry from wanted old new middle tree_after
      → HoldsFront observes path entry kind tree (from + wanted) new tree_after
  front_more from wanted old new middle tree_after front piece =
      let read : observes middle (Read path entry (length front.bytes) (length piece.bytes) piece.bytes) tree_after =
      subst (λ (n : ℕ). observes middle (Read path entry n (length piece.bytes) piece.bytes) tree_after) (sym front.counted)
      (subst (λ (n : ℕ). observes middle (Read path entry from n piece.bytes) tree_after) (sym piece.counted) piece.observed) in
      record {
        bytes = front.bytes ++ piece.bytes;
        read = hashing.piece front.read read;
        counted = let e = length-append front.bytes piece.bytes in omega (arith, e, front.counted, piece.counted);
        holds = piece.holds front.bytes front.holds;
        its = piece.kind ∙ front.its;
      }

  pub front_all : (from : ℕ) (running : RunningHash) (value : HashValue) (middle tree_after : T) → HoldsFront observes path entry kind tree from running middle → from ≡ entry.len
      → observes middle (Read path entry from 1 []) tree_after → ((before : List ℕ) → HoldsAll running before → value ≡ hash (running_kind running) before)
      → HashesFile observes path entry kind value tree tree_after
  front_all from running value middle tree_after front all ended its = record {
    bytes = front.bytes;
    middle = middle;
    read = front.read;
    all = front.counted ∙ all;
    ended = subst (λ (n : ℕ). observes middle (Read path entry n 1 []) tree_after) all ended;
    its = its front.bytes front.holds ∙ ap (λ (k : HashKind). hash k front.bytes) front.its;
  }

  pub front_stops : (from : ℕ) (running : RunningHash) (why : Skipped) (middle tree_after : T) → HoldsFront observes path entry kind tree from running middle
      → StopsAt observes (IsStop 65536 entry.len from) path entry from why middle tree_after → StopsHashing observes path entry why tree tree_after
  front_stops from running why middle tree_after front stops = record {
    bytes = front.bytes;
    middle = middle;
    read = front.read;
    stops = subst (λ (n : ℕ). StopsAt observes (IsStop 65536 entry.len n) path entry n why middle tree_after) (sym front.counted) stops;
  }

-- ---- how a reading may end

short_stop : (size from : ℕ) → from < size → (stop : Stop) → IsShort (min 65536 (size - from)) stop → IsStop 65536 size from stop
short_stop size from before (NoneCame n) is = inl (before, is)
short_stop size from before (FewerCame n bytes) is = (before, is.0, omega (arith, is.0, is.1))
short_stop size from before (MoreCame bytes) is = absurd is
short_stop size from before (OtherFile n) is = inl (before, is)

end_stop : (size from : ℕ) → from ≡ size → (stop : Stop) → IsPastEnd stop → IsStop 65536 size from stop
end_stop size from at (NoneCame n) is = inr (at, is)
end_stop size from at (FewerCame n bytes) is = absurd is
end_stop size from at (MoreCame bytes) is = (at, is)
end_stop size from at (OtherFile n) is = inr (at, is)

module _ {T : Type 0} (observes : T → Observation → T → Type 0) (path : List ℕ) (entry : FolderEntry) (from : ℕ) (why : Skipped) (tree tree_after : T) where
  -- the next piece could not be read
  pub piece_stops : (wanted : ℕ) → wanted ≡ min 65536 (entry.len - from) → from < entry.len → StopsAt observes (IsShort wanted) path entry from why tree tree_after
      → StopsAt observes (IsStop 65536 entry.len from) path entry from why tree tree_after
  piece_stops wanted is before stops = record {
    stop = stops.stop;
    such = short_stop entry.len from before stops.stop (subst (λ (n : ℕ). IsShort n stops.stop) is stops.such);
    reason = stops.reason;
    observed = stops.observed;
  }

  -- the end of the file was not seen
  pub end_stops : from ≡ entry.len → StopsAt observes IsPastEnd path entry from why tree tree_after → StopsAt observes (IsStop 65536 entry.len from) path entry from why tree tree_after
  end_stops at stops = record { stop = stops.stop; such = end_stop entry.len from at stops.stop stops.such; reason = stops.reason; observed = stops.observed }
