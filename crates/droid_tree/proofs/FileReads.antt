-- What was read of a file, or why nothing was.
use Rattle.std.proofs.Common.{◌≡◌, ◌≢◌, ℕ, ◌-◌, ◌<◌, Ok, Err, List, [], length, refl, sym, ap, subst, ◌∙◌, length-append, arith}
use Rattle.std.specs.Prelude.{MatchResult}
use Rattle.std.specs.declared.result.Result.{Result}
use Rattle.droid_tree.specs.Observation.{Observation, Read, Unread, Exchanged, BytesCame}
use Rattle.droid_tree.specs.Reading.{Stop, NoneCame, FewerCame, MoreCame, OtherFile, IsPastEnd, IsReason, IsShort, ReadsPiece, StopsAt}
use Rattle.droid_tree.specs.declared.fault.TreeFault.{TreeFault}
use Rattle.droid_tree.specs.declared.fault.TreeFault.TheVariants as faults
use Rattle.droid_tree.specs.declared.folder_entry.FolderEntry.{FolderEntry}
use Rattle.droid_tree.specs.declared.skip_reason.Skipped.{Skipped}
use Rattle.droid_tree.specs.declared.skip_reason.Skipped.TheVariants as reasons

module _ {T : Type 0} (observes : T → Observation → T → Type 0) (path : List ℕ) (entry : FolderEntry) (from : ℕ) where
  -- all bytes came, or fewer
  pub came_all : {A : Type 0} (wanted count : ℕ) (before after : List ℕ) (tree tree_after : T) (read : Result A Skipped)
      → BytesCame observes tree path entry from wanted before after tree_after → count ≡ length after - length before
      → MatchResult read (λ _. count ≡ wanted) (λ why. (why ≡ reasons.Changed) × (count ≢ wanted))
      → MatchResult read (λ _. ReadsPiece observes path entry from wanted before after tree tree_after) (λ why. StopsAt observes (IsShort wanted) path entry from why tree tree_after)
  came_all wanted count before after tree tree_after (Ok u) came counted is =
      record { bytes = came.bytes; counted = omega (arith, ap length came.added, length-append before came.bytes, counted, is); added = came.added; observed = came.observed }
  came_all wanted count before after tree tree_after (Err why) came counted is = record {
    stop = FewerCame wanted came.bytes;
    such = (refl, omega (arith, ap length came.added, length-append before came.bytes, counted, is.1, came.within));
    reason = is.0;
    observed = came.observed;
  }

  -- none came, or more
  pub came_more : {A : Type 0} (more : List ℕ) (tree tree_after : T) (read : Result A Skipped)
      → BytesCame observes tree path entry from 1 [] more tree_after → MatchResult read (λ _. more ≡ []) (λ why. (why ≡ reasons.Changed) × (0 < length more))
      → MatchResult read (λ _. observes tree (Read path entry from 1 []) tree_after) (λ why. StopsAt observes IsPastEnd path entry from why tree tree_after)
  came_more more tree tree_after (Ok u) came is = subst (λ (l : List ℕ). observes tree (Read path entry from 1 l) tree_after) (sym came.added ∙ is) came.observed
  came_more more tree tree_after (Err why) came is = record {
    stop = MoreCame came.bytes;
    such = subst (λ (l : List ℕ). 0 < length l) came.added is.1;
    reason = is.0;
    observed = came.observed;
  }

  -- none could be read, or another file was at the path
  pub stops : (IsSuch : Stop → Type 0) (wanted : ℕ) (fault : TreeFault) (why : Skipped) (tree tree_after : T) → IsSuch (NoneCame wanted) → IsSuch (OtherFile wanted) → IsReason fault why
      → (fault ≡ faults.Unreadable → observes tree (Unread path entry from wanted) tree_after) → (fault ≡ faults.Changed → observes tree (Exchanged path entry from wanted) tree_after)
      → StopsAt observes IsSuch path entry from why tree tree_after
  stops IsSuch wanted faults.Memory why tree tree_after none other reason unread exchanged = absurd reason
  stops IsSuch wanted faults.Unreadable why tree tree_after none other reason unread exchanged = record { stop = NoneCame wanted; such = none; reason = reason; observed = unread refl }
  stops IsSuch wanted faults.Changed why tree tree_after none other reason unread exchanged = record { stop = OtherFile wanted; such = other; reason = reason; observed = exchanged refl }
