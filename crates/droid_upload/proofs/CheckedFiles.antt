-- A checked file was read, and nothing of it was sent.
use Rattle.std.proofs.Common.{◌≡◌, ◌≢◌, ℕ, suc, ◌+◌, ◌≤◌, ◌==◌, ◌&&◌, ◌||◌, not, nat_lt, Bool, true, false, List, [], ◌∷◌, ◌++◌, length, refl, sym, ap, subst, ◌∙◌, arith, cond}
use Rattle.std.specs.List.{list_any}
use Rattle.std.proofs.lemmas.Bool.{eqb-true, lt-ltb}
use Rattle.std.proofs.lemmas.List.Folds.{list_any-append}
use Rattle.droid_frame.specs.Hashes.{hash, hash_kind_number, hash_value_kind}
use Rattle.droid_frame.specs.declared.hash_kind.HashKind.{HashKind}
use Rattle.droid_frame.specs.declared.hash_kind.HashKind.TheVariants as kinds
use Rattle.droid_frame.specs.declared.hash_value.HashValue.{HashValue}
use Rattle.droid_frame.specs.declared.hash_value.HashValue.TheVariants as values
use Rattle.droid_frame.specs.declared.reply.Reply.{Reply}
use Rattle.droid_frame.specs.declared.reply.Reply.TheVariants as replies
use Rattle.droid_frame.specs.declared.request.Request.TheVariants.{Piece}
use Rattle.droid_tree.specs.Heard.{Left, TookBytes}
use Rattle.droid_tree.specs.Observation.{Read}
use Rattle.droid_tree.specs.Reading.{observed_of_stop, reason_of}
use Rattle.droid_tree.specs.declared.folder_entry.FolderEntry.{FolderEntry}
use Rattle.droid_upload.specs.Checks.{WasRead, is_sending}
use Rattle.droid_upload.specs.Calls.{Sent}
use Rattle.droid_upload.specs.Deeds.{Deed, Observed, Called, Informed}
use Rattle.droid_upload.specs.Faults.{is_countable, is_finished}
use Rattle.droid_upload.specs.FileOutcomes.{FileOutcome, UnreadFile, RefusedFile, HeldFile, WholeFile, DroppedFile, ChangedPiece, ChangedEnd, ChangedStop, Holding, Kept, ReadAgain, ReadPartly, MayComeOfFile, MayHold, file_of, has_other_hash, heard_of_end, holding_deeds, past_all, same_hash, uploaded_of, uploaded_of_end}
use Rattle.droid_upload.specs.Pieces.{ReadAll, ReadPart, joined, piece_deeds, reading_deeds, sending_deeds}
use Rattle.droid_upload.specs.declared.upload.Destination.{Destination}
use Rattle.droid_upload.specs.declared.upload.Uploaded.TheVariants as uploadeds
use Rattle.droid_upload.specs.declared.upload.UploadedFile.{UploadedFile}
use Rattle.droid_upload.proofs.HeldFiles.{piece_count}

-- ---- a file that is taken has the hash that was read

taken_of : (b : Bool) (file other : UploadedFile) → cond b (uploadeds.Differs file) (uploadeds.Taken file) ≡ uploadeds.Taken other → (b ≡ false) × (file ≡ other)
taken_of true file other is = absurd cc
taken_of false file other is = (refl, cc)

not_false : (b : Bool) → not b ≡ false → b ≡ true
not_false true is = refl
not_false false is = absurd cc

same_of : (kind : HashKind) (bytes : List ℕ) (other : HashValue) → (not (hash_kind_number (hash_value_kind (hash kind bytes)) == 0) && not (same_hash (hash kind bytes) other)) ≡ false
    → hash_kind_number kind ≢ 0 → same_hash (hash kind bytes) other ≡ true
same_of kinds.Nothing bytes other is some = absurd (some refl)
same_of kinds.Md5 bytes other is some = not_false (same_hash (hash kinds.Md5 bytes) other) is
same_of kinds.Sha256 bytes other is some = not_false (same_hash (hash kinds.Sha256 bytes) other) is

read_by_end : (kind : HashKind) (size number : ℕ) (bytes : List ℕ) (found : Reply) (file : UploadedFile) → is_finished found ≡ true → length bytes ≡ size
    → uploaded_of_end number true (hash kind bytes) found ≡ uploadeds.Taken file → WasRead kind size file
read_by_end kind size number bytes (replies.Finished method mismatch value puids) file finished counted is =
    let taken = taken_of (has_other_hash (hash kind bytes) (replies.Finished method mismatch value puids)) (file_of number true (replies.Finished method mismatch value puids)) file is in
    let file_is = taken.1 in
    subst (λ (f : UploadedFile). WasRead kind size f) file_is (record { is_read = refl; bytes = bytes; counted = counted; same = same_of kind bytes value taken.0 })
read_by_end kind size number bytes (replies.Made profile) file finished counted is = absurd cc
read_by_end kind size number bytes (replies.Node id) file finished counted is = absurd cc
read_by_end kind size number bytes (replies.Taken held) file finished counted is = absurd cc
read_by_end kind size number bytes replies.Abandoned file finished counted is = absurd cc
read_by_end kind size number bytes (replies.Progress held missing) file finished counted is = absurd cc
read_by_end kind size number bytes (replies.Part as_of total part) file finished counted is = absurd cc
read_by_end kind size number bytes (replies.Refused refusal) file finished counted is = absurd cc

-- a finished file that is not checked although that is asked for is empty
empty_of : (check empty : Bool) → (check && not empty) ≡ false → check ≡ true → empty ≡ true
empty_of true empty is asked = not_false empty is
empty_of false empty is asked = absurd cc

kept_read : (kind : HashKind) (size number : ℕ) (empty : Bool) (found : Reply) (file : UploadedFile) → is_finished found ≡ true → empty ≡ true → size ≡ 0
    → uploaded_of_end number empty (cond empty (hash kind []) values.Nothing) found ≡ uploadeds.Taken file → WasRead kind size file
kept_read kind size number true found file finished is none taken = read_by_end kind size number [] found file finished (sym none) taken
kept_read kind size number false found file finished is none taken = absurd cc

module _ (into : Destination) (entry : FolderEntry) (file : UploadedFile) where
  pub checked_read : (outcome : FileOutcome) → MayComeOfFile into entry outcome → into.check ≡ true → uploaded_of into entry outcome ≡ uploadeds.Taken file → WasRead into.hash entry.len file
  checked_read (UnreadFile stop) may asked is = absurd cc
  checked_read (RefusedFile gone refusal) may asked is = absurd cc
  checked_read (HeldFile gone number found Kept) may asked is =
      let empty = empty_of into.check (entry.len == 0) may.1 asked in
      kept_read into.hash entry.len number (entry.len == 0) found file may.0 empty (eqb-true entry.len 0 empty) is
  checked_read (HeldFile gone number found (ReadAgain pieces)) may asked is = read_by_end into.hash entry.len number (joined pieces) found file may.0 may.1.1.1 is
  checked_read (HeldFile gone number found (ReadPartly pieces stop)) may asked is = absurd cc
  checked_read (WholeFile gone number first pieces found) may asked is = read_by_end into.hash entry.len number (joined pieces) found file may.1 may.0.1 is
  checked_read (DroppedFile gone number first pieces stop left) may asked is = absurd cc
  checked_read (ChangedPiece gone number first pieces bytes left) may asked is = absurd cc
  checked_read (ChangedEnd gone number first pieces left) may asked is = absurd cc
  checked_read (ChangedStop gone number first pieces stop left) may asked is = absurd cc

-- ---- nothing of it is sent

none_joined : (xs ys : List Deed) → list_any is_sending xs ≡ false → list_any is_sending ys ≡ false → list_any is_sending (xs ++ ys) ≡ false
none_joined xs ys none more = list_any-append is_sending xs ys ∙ (ap (λ (b : Bool). b || list_any is_sending ys) none ∙ more)

module _ (profile number : ℕ) (path : List ℕ) (entry : FolderEntry) where
  none_sent : (index from : ℕ) (pieces : List (List ℕ)) → index + length pieces ≤ past_all → list_any is_sending (piece_deeds profile number past_all path entry index from pieces) ≡ false
  none_sent index from [] few = refl
  none_sent index from (bytes ∷ pieces) few =
      let behind = none_sent (suc index) (from + length bytes) pieces (omega (arith, few)) in
      let held : nat_lt index past_all ≡ true = lt-ltb index past_all (omega (arith, few)) in
      none_joined (sending_deeds profile number past_all path entry index bytes) (piece_deeds profile number past_all path entry (suc index) (from + length bytes) pieces)
      (subst (λ (b : Bool). list_any is_sending (cond b [] (Called (Sent (Piece profile number index bytes)) ∷ Informed (TookBytes path (length bytes)) ∷ [])) ≡ false) (sym held) refl) behind

module _ (into : Destination) (path : List ℕ) (entry : FolderEntry) (number : ℕ) (found : Reply) (countable : is_countable into.piece_size entry.len ≡ true) where
  pub held_unsent : (holding : Holding) → MayHold into entry holding → list_any is_sending (holding_deeds into path entry number found holding) ≡ false
  held_unsent Kept may = refl
  held_unsent (ReadAgain pieces) may =
      let few = piece_count into.piece_size entry.len pieces countable may.1.0 in
      none_joined (reading_deeds into.profile number past_all path entry (ReadAll pieces)) (Informed (heard_of_end path (hash into.hash (joined pieces)) found) ∷ [])
      (none_joined (piece_deeds into.profile number past_all path entry 0 0 pieces) (Observed (Read path entry (length (joined pieces)) 1 []) ∷ []) (none_sent into.profile number path entry 0 0 pieces (omega (arith, few))) refl) refl
  held_unsent (ReadPartly pieces stop) may =
      let few = piece_count into.piece_size entry.len pieces countable may.1.0 in
      none_joined (reading_deeds into.profile number past_all path entry (ReadPart pieces stop)) (Informed (Left path (reason_of stop)) ∷ [])
      (none_joined (piece_deeds into.profile number past_all path entry 0 0 pieces) (Observed (observed_of_stop path entry (length (joined pieces)) stop) ∷ []) (none_sent into.profile number path entry 0 0 pieces (omega (arith, few))) refl) refl
