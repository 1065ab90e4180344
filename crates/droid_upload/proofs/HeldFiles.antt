-- A file that was finished before is kept, or read again.
use Rattle.std.proofs.Common.{◌≡◌, ℕ, suc, ◌+◌, ◌*◌, ◌<◌, ◌≤◌, ◌==◌, Bool, true, false, List, [], ◌∷◌, ◌++◌, length, inl, inr, refl, ap, subst, ◌∙◌, arith, length-append}
use Rattle.std.proofs.Math.Nat.{mul-le-mul_right, suc-mul}
use Rattle.std.proofs.lemmas.Bool.{cases_lt}
use Rattle.droid_frame.specs.Hashes.{hash}
use Rattle.droid_frame.specs.declared.hash_value.HashValue.{HashValue}
use Rattle.droid_frame.specs.declared.reply.Reply.{Reply}
use Rattle.droid_frame.specs.declared.running_hash.RunningHash.{RunningHash}
use Rattle.droid_tree.specs.Heard.{Left, Held}
use Rattle.droid_tree.specs.Reading.{NoneCame, reason_of}
use Rattle.droid_tree.specs.declared.folder_entry.FolderEntry.{FolderEntry}
use Rattle.droid_tree.specs.declared.skip_reason.Skipped.{Skipped}
use Rattle.droid_upload.specs.Deeds.{Deed, Informed}
use Rattle.droid_upload.specs.Faults.{is_countable}
use Rattle.droid_upload.specs.FileOutcomes.{Holding, Kept, ReadAgain, ReadPartly, MayHold, hash_of_held, heard_of_end, is_checked, past_all, uploaded_of_end}
use Rattle.droid_upload.specs.Fronts.{EndsEarly}
use Rattle.droid_upload.specs.Pieces.{ReadAll, ReadPart, ReadOther, AreCut, MayRead, joined, reading_deeds}
use Rattle.droid_upload.specs.Steps.{AreHeld, ArePart, EndsHeld, ReadsWhole, StopsPart}
use Rattle.droid_upload.specs.declared.file_pieces.Target.{Target}
use Rattle.droid_upload.specs.declared.submission_fault.SubmissionFault.{SubmissionFault}
use Rattle.droid_upload.specs.declared.upload.Destination.{Destination}
use Rattle.droid_upload.specs.declared.upload.Upload.{Upload}
use Rattle.droid_upload.specs.declared.upload.Uploaded.{Uploaded}
use Rattle.droid_upload.specs.declared.upload.Uploaded.TheVariants as uploadeds
use Rattle.droid_upload.proofs.Early.{over_more, over_one, part_ends}
use Rattle.droid_upload.proofs.PieceLists.{requested}

-- ---- no piece of a file has the index 2^32 - 1

-- all pieces but the last have the piece size
cut_before : (piece_size size from : ℕ) (head : List ℕ) (pieces : List (List ℕ)) → AreCut piece_size size from (head ∷ pieces) → from + length pieces * piece_size < size
cut_before piece_size size from head [] cut = omega (arith, cut.0)
cut_before piece_size size from head (next ∷ pieces) cut =
    let behind = cut_before piece_size size (from + length head) next pieces cut.2 in
    let more : suc (length pieces) * piece_size ≡ length pieces * piece_size + piece_size = suc-mul (length pieces) piece_size in
    omega (arith, cut.0, cut.1, behind, more)

pub piece_count : (piece_size size : ℕ) (pieces : List (List ℕ)) → is_countable piece_size size ≡ true → AreCut piece_size size 0 pieces → length pieces ≤ past_all
piece_count piece_size size [] countable cut = omega arith
piece_count piece_size size (head ∷ pieces) countable cut =
    let before = cut_before piece_size size 0 head pieces cut in
    let enough : size ≤ 4294967295 * piece_size = grind (arith, countable) in
    elim (cases_lt (length pieces) 4294967295) [
      | inl few ↦ omega (arith, few)
      | inr many ↦ absurd (omega (arith, before, enough, mul-le-mul_right piece_size many))
    ]

pub none_past_all : (piece_size size : ℕ) (pieces : List (List ℕ)) (bytes : List ℕ) → is_countable piece_size size ≡ true → MayRead piece_size size past_all (ReadOther pieces bytes) → ⊥
none_past_all piece_size size pieces bytes countable may =
    absurd (omega (arith, piece_count piece_size size (pieces ++ bytes ∷ []) countable may.0, length-append pieces (bytes ∷ []), may.1))

-- ---- some outcome of a file that was finished before

holding_by : (into : Destination) (entry : FolderEntry) (checked : Bool) → is_checked into entry ≡ checked → (holding : Holding) × MayHold into entry holding
holding_by into entry false is = (Kept, is)
holding_by into entry true is =
    let next = requested into.piece_size entry.len 0 (omega arith) in
    (ReadPartly [] (NoneCame next.0), (is, (tt, next.1)))

pub some_holding : (into : Destination) (entry : FolderEntry) → (holding : Holding) × MayHold into entry holding
some_holding into entry = holding_by into entry (is_checked into entry) refl

-- ---- check_held and end_held
module _ (into : Destination) (path : List ℕ) (entry : FolderEntry) (number : ℕ) (found : Reply) {T C W : Type 0} (does : Upload T C W → Deed → Upload T C W → Type 0) where
  abbrev target : Target
  target = record { into = into; number = number; first = 4294967295 }

  abbrev begun : Deed
  begun = Informed (Held path entry.len)

  pub held_unchecked : (read : HashValue) (uploaded : Uploaded) (old new : Upload T C W) → is_checked into entry ≡ false → read ≡ hash_of_held into.hash entry.len → does old (Informed (heard_of_end path read found)) new
      → uploaded ≡ uploaded_of_end number (entry.len == 0) read found → EndsHeld into path entry number found does uploaded old new
  held_unchecked read uploaded old new not_checked is informed returned = record {
    holding = Kept;
    may_hold = not_checked;
    happened = over_one does old new (Informed (heard_of_end path (hash_of_held into.hash entry.len) found)) (subst (λ (h : HashValue). does old (Informed (heard_of_end path h found)) new) is informed);
    uploaded_is = returned ∙ ap (λ (h : HashValue). uploaded_of_end number (entry.len == 0) h found) is;
  }

  module _ (checked : is_checked into entry ≡ true) (old reported : Upload T C W) (informed : does old begun reported) where
    pub held_unread : (fault : SubmissionFault) (new : Upload T C W) → EndsEarly does (ArePart target path entry) fault reported new → EndsEarly does (AreHeld into path entry number found) fault old new
    held_unread fault new part =
        part_ends does (ArePart target path entry) (AreHeld into path entry number found) fault (begun ∷ []) old reported new (over_one does old reported begun informed) part
        (λ whole are.
        let rest : List Deed = Informed (Left path (reason_of are.1)) ∷ [] in
        (rest, (ReadPartly are.0 are.1, (checked, are.2), ap (λ (l : List Deed). begun ∷ (l ++ rest)) are.3)))

    pub held_read : (running running_after : RunningHash) (now new : Upload T C W) (reads : ReadsWhole target path entry does running running_after reported now) (read : HashValue) (uploaded : Uploaded)
        → read ≡ hash into.hash (joined reads.pieces) → does now (Informed (heard_of_end path read found)) new → uploaded ≡ uploaded_of_end number true read found
        → EndsHeld into path entry number found does uploaded old new
    held_read running running_after now new reads read uploaded is said returned = record {
      holding = ReadAgain reads.pieces;
      may_hold = (checked, reads.may_read);
      happened = (
        reported,
        informed,
        over_more does reported now new (reading_deeds into.profile number past_all path entry (ReadAll reads.pieces)) (Informed (heard_of_end path (hash into.hash (joined reads.pieces)) found) ∷ []) reads.happened
            (over_one does now new (Informed (heard_of_end path (hash into.hash (joined reads.pieces)) found)) (subst (λ (h : HashValue). does now (Informed (heard_of_end path h found)) new) is said)),
      );
      uploaded_is = returned ∙ ap (λ (h : HashValue). uploaded_of_end number true h found) is;
    }

    pub held_stopped : (why : Skipped) (now new : Upload T C W) (stops : StopsPart target path entry does why reported now) → does now (Informed (Left path why)) new
        → EndsHeld into path entry number found does uploadeds.Skipped old new
    held_stopped why now new stops said = record {
      holding = ReadPartly stops.pieces stops.stop;
      may_hold = (checked, stops.may_read);
      happened = (
        reported,
        informed,
        over_more does reported now new (reading_deeds into.profile number past_all path entry (ReadPart stops.pieces stops.stop)) (Informed (Left path (reason_of stops.stop)) ∷ []) stops.happened
            (over_one does now new (Informed (Left path (reason_of stops.stop))) (subst (λ (r : Skipped). does now (Informed (Left path r)) new) stops.reason said)),
      );
      uploaded_is = refl;
    }
