-- A file is added, read, and finished or abandoned.
use Rattle.std.proofs.Common.{◌≡◌, ℕ, Bool, List, [], ◌∷◌, ◌++◌, length, refl, sym, ap, subst, ◌∙◌, append_assoc, append-nil}
use Rattle.std.specs.Prelude.{cond}
use Rattle.std.proofs.lemmas.Bool.{eq-eqb, ne_eqb}
use Rattle.droid_frame.specs.Hashes.{hash}
use Rattle.droid_frame.specs.declared.hash_kind.HashKind.{HashKind}
use Rattle.droid_frame.specs.declared.hash_value.HashValue.{HashValue}
use Rattle.droid_frame.specs.declared.refusal.Refusal.TheVariants as refusals
use Rattle.droid_frame.specs.declared.reply.Reply.TheVariants as replies
use Rattle.droid_frame.specs.declared.request.Request.TheVariants.{Piece}
use Rattle.droid_frame.specs.RunningHashes.{running_kind, HoldsAll}
use Rattle.droid_frame.specs.declared.running_hash.RunningHash.{RunningHash}
use Rattle.droid_tree.specs.Heard.{Left, Held}
use Rattle.droid_tree.specs.Observation.{Read, GoesOver}
use Rattle.droid_tree.specs.Reading.{IsPastEnd, StopsAt, begin_of, reason_of}
use Rattle.droid_tree.specs.declared.folder_entry.FolderEntry.{FolderEntry}
use Rattle.droid_tree.specs.declared.skip_reason.Skipped.{Skipped}
use Rattle.droid_upload.specs.Calls.{Failed}
use Rattle.droid_upload.specs.Deeds.{Deed, Observed, Called, Informed}
use Rattle.droid_upload.specs.Faults.{IsAfterCall, IsAfterRead}
use Rattle.droid_upload.specs.FileOutcomes.{AreOfFile, MayComeOfFile, RefusedFile, UnreadFile, Uploads, changed_deeds, deeds_of_file, empty_deeds, gone_deeds, uploaded_of}
use Rattle.droid_upload.specs.Fronts.{EndsEarly, Stands}
use Rattle.droid_upload.specs.Pieces.{ReadAll, ReadPart, ReadOther, joined, piece_deeds, reading_deeds}
use Rattle.droid_upload.specs.Steps.{AbandonedBy, AbandonedOther, Addition, Adds, AreAdded, AreChanged, AreDropping, AreFinishing, AreOpenings, ArePart, AreRest, Declined, Drops, EndsAfter, FinishedBy, FinishedOther, Finishes, Found, Hashes, Leaves, MayAdd, OpensFile, RestOther, RestPart, RestWhole, Sees, SeesEnd, SendsRest, SentRest, StopsEmpty, StopsOther, StopsPart, NothingSent, ReadsWhole, addition_deeds, dropping_deeds, finishing_deeds, missing_deeds, outcome_of_addition, rest_deeds, uploaded_of_addition}
use Rattle.droid_upload.specs.declared.client_fault.ClientFault.TheVariants as client_faults
use Rattle.droid_upload.specs.declared.file_opening.Opened.TheVariants as openeds
use Rattle.droid_upload.specs.declared.file_pieces.Progress.{Progress}
use Rattle.droid_upload.specs.declared.file_pieces.Progress.TheVariants as progresses
use Rattle.droid_upload.specs.declared.file_pieces.Target.{Target}
use Rattle.droid_upload.specs.declared.submission_fault.SubmissionFault.{SubmissionFault}
use Rattle.droid_upload.specs.declared.submission_fault.SubmissionFault.TheVariants as faults
use Rattle.droid_upload.specs.declared.upload.Destination.{Destination}
use Rattle.droid_upload.specs.declared.upload.Upload.{Upload}
use Rattle.droid_upload.specs.declared.upload.Uploaded.{Uploaded}
use Rattle.droid_upload.specs.declared.upload.Uploaded.TheVariants as uploadeds
use Rattle.droid_upload.proofs.Behind.{behind_ends, whole_weaker}
use Rattle.droid_upload.proofs.Early.{memory_ends, over_more, over_one, part_ends}

-- ---- send_rest
module _ (to : Target) (path : List ℕ) (entry : FolderEntry) {T C W : Type 0} (does : Upload T C W → Deed → Upload T C W → Type 0) where
  abbrev begun : Deed
  begun = Informed (Held path (begin_of to.into.piece_size entry.len to.first))

  abbrev Are : List Deed → Type 0
  Are whole = AreRest to.into path entry to.number to.first whole

  module _ (old reported : Upload T C W) (informed : does old begun reported) where
    pub rest_unread : (fault : SubmissionFault) (new : Upload T C W) → EndsEarly does (ArePart to path entry) fault reported new → EndsEarly does Are fault old new
    rest_unread fault new part =
        part_ends does (ArePart to path entry) Are fault (begun ∷ []) old reported new (over_one does old reported begun informed) part
        (λ whole are.
        let rest = dropping_deeds to.into.profile to.number path (reason_of are.1) (AbandonedBy replies.Abandoned) in
        (rest, (RestPart are.0 are.1 (AbandonedBy replies.Abandoned), (are.2, refl), ap (λ (l : List Deed). begun ∷ (l ++ rest)) are.3)))

    -- ---- all was read
    module _ (running running_after : RunningHash) (now : Upload T C W) (reads : ReadsWhole to path entry does running running_after reported now) where
      abbrev all_deeds : List Deed
      all_deeds = reading_deeds to.into.profile to.number to.first path entry (ReadAll reads.pieces)

      pub rest_unfinished : (read : HashValue) (fault : SubmissionFault) (new : Upload T C W) → read ≡ hash to.into.hash (joined reads.pieces)
          → EndsAfter does IsAfterRead (AreFinishing to.into.profile to.number path read) fault now new → EndsEarly does Are fault old new
      rest_unfinished read fault new is ends =
          let before : List Deed = begun ∷ all_deeds in
          let after : IsAfterRead before =
          (begun ∷ piece_deeds to.into.profile to.number to.first path entry 0 0 reads.pieces, Read path entry (length (joined reads.pieces)) 1 [], refl) in
          behind_ends does (AreFinishing to.into.profile to.number path read) Are before fault old new (ends old before after (reported, informed, reads.happened))
          (λ tail are. (
            [],
            (
              RestWhole reads.pieces are.0,
              (reads.may_read, are.1),
              ap (λ (l : List Deed). before ++ l) (append-nil tail ∙ (are.2 ∙ ap (λ (h : HashValue). finishing_deeds to.into.profile to.number path h are.0) is)),
            ),
          ))

      pub rest_finished : (read : HashValue) (uploaded : Uploaded) (new : Upload T C W) → read ≡ hash to.into.hash (joined reads.pieces) → Finishes to.into.profile to.number path does read uploaded now new
          → SendsRest to.into path entry to.number to.first does uploaded old new
      rest_finished read uploaded new is ends =
          let same = subst (λ (h : HashValue). Finishes to.into.profile to.number path does h uploaded now new) is ends in
          record {
            rest = RestWhole reads.pieces same.finishing;
            may_rest = (reads.may_read, same.may_finish);
            happened = (reported, informed, over_more does reported now new all_deeds (finishing_deeds to.into.profile to.number path (hash to.into.hash (joined reads.pieces)) same.finishing) reads.happened same.happened);
            uploaded_is = same.uploaded_is;
          }

    -- ---- the reading ended early
    module _ (why : Skipped) (now : Upload T C W) (stops : StopsPart to path entry does why reported now) where
      abbrev part_deeds : List Deed
      part_deeds = reading_deeds to.into.profile to.number to.first path entry (ReadPart stops.pieces stops.stop)

      pub rest_undropped : (fault : SubmissionFault) (new : Upload T C W) → EndsEarly does (AreDropping to.into.profile to.number path why) fault now new → EndsEarly does Are fault old new
      rest_undropped fault new ends =
          part_ends does (AreDropping to.into.profile to.number path why) Are fault (begun ∷ part_deeds) old now new (reported, informed, stops.happened) ends
          (λ whole are. (
            [],
            (
              RestPart stops.pieces stops.stop are.0,
              (stops.may_read, are.1),
              ap (λ (l : List Deed). (begun ∷ part_deeds) ++ l) (append-nil whole ∙ (are.2 ∙ ap (λ (r : Skipped). dropping_deeds to.into.profile to.number path r are.0) stops.reason)),
            ),
          ))

      pub rest_dropped : (uploaded : Uploaded) (new : Upload T C W) → Drops to.into.profile to.number path does why uploaded now new → SendsRest to.into path entry to.number to.first does uploaded old new
      rest_dropped uploaded new drops =
          let same = subst (λ (r : Skipped). Drops to.into.profile to.number path does r uploaded now new) stops.reason drops in
          record {
            rest = RestPart stops.pieces stops.stop same.dropping;
            may_rest = (stops.may_read, same.may_drop);
            happened = (reported, informed, over_more does reported now new part_deeds (dropping_deeds to.into.profile to.number path (reason_of stops.stop) same.dropping) stops.happened same.happened);
            uploaded_is = same.uploaded_is;
          }

    -- ---- the service has other bytes
    module _ (now : Upload T C W) (stops : StopsOther to path entry does reported now) where
      abbrev seen : Deed
      seen = Observed (Read path entry (length (joined stops.pieces)) (length stops.bytes) stops.bytes)

      abbrev other_deeds : List Deed
      other_deeds = reading_deeds to.into.profile to.number to.first path entry (ReadOther stops.pieces stops.bytes)

      pub rest_unleft : (fault : SubmissionFault) (new : Upload T C W) → EndsAfter does IsAfterCall (AreChanged to.into.profile to.number path) fault now new → EndsEarly does Are fault old new
      rest_unleft fault new ends =
          let before : List Deed = begun ∷ other_deeds in
          let call = Failed 0 (Piece to.into.profile to.number (length stops.pieces) stops.bytes) (client_faults.Piece refusals.NumberReused) in
          let pieces = piece_deeds to.into.profile to.number to.first path entry 0 0 stops.pieces in
          let after : IsAfterCall before = (begun ∷ (pieces ++ seen ∷ []), call, ap (λ (l : List Deed). begun ∷ l) (sym (append_assoc pieces (seen ∷ []) (Called call ∷ [])))) in
          behind_ends does (AreChanged to.into.profile to.number path) Are before fault old new (ends old before after (reported, informed, stops.happened))
          (λ tail are. ([], (RestOther stops.pieces stops.bytes are.0, (stops.may_read, are.1), ap (λ (l : List Deed). before ++ l) (append-nil tail ∙ are.2))))

      pub rest_changed : (uploaded : Uploaded) (new : Upload T C W) → Leaves to.into.profile to.number path does uploaded now new → SendsRest to.into path entry to.number to.first does uploaded old new
      rest_changed uploaded new leaves = record {
        rest = RestOther stops.pieces stops.bytes leaves.left;
        may_rest = (stops.may_read, leaves.may_leave);
        happened = (reported, informed, over_more does reported now new other_deeds (changed_deeds to.into.profile to.number path leaves.left) stops.happened leaves.happened);
        uploaded_is = leaves.uploaded_is;
      }

-- ---- add_file and upload_file
module _ (into : Destination) (path : List ℕ) (entry : FolderEntry) where
  -- an addition is an outcome of the file
  deeds_of_addition : (addition : Addition) → empty_deeds path entry ++ addition_deeds into path entry addition ≡ deeds_of_file into path entry (outcome_of_addition addition)
  deeds_of_addition (NothingSent gone (Declined refusal)) = simp append_assoc
  deeds_of_addition (NothingSent gone (Found number found holding)) = simp append_assoc
  deeds_of_addition (SentRest gone number first (RestWhole pieces (FinishedBy found))) = simp append_assoc
  deeds_of_addition (SentRest gone number first (RestWhole pieces (FinishedOther left))) = simp append_assoc
  deeds_of_addition (SentRest gone number first (RestPart pieces stop (AbandonedBy left))) = simp append_assoc
  deeds_of_addition (SentRest gone number first (RestPart pieces stop (AbandonedOther left))) = simp append_assoc
  deeds_of_addition (SentRest gone number first (RestOther pieces bytes left)) = simp append_assoc

  may_of_addition : (addition : Addition) → MayAdd into path entry addition → MayComeOfFile into entry (outcome_of_addition addition)
  may_of_addition (NothingSent gone (Declined refusal)) may = may
  may_of_addition (NothingSent gone (Found number found holding)) may = may
  may_of_addition (SentRest gone number first (RestWhole pieces (FinishedBy found))) may = may
  may_of_addition (SentRest gone number first (RestWhole pieces (FinishedOther left))) may = may
  may_of_addition (SentRest gone number first (RestPart pieces stop (AbandonedBy left))) may = may
  may_of_addition (SentRest gone number first (RestPart pieces stop (AbandonedOther left))) may = may
  may_of_addition (SentRest gone number first (RestOther pieces bytes left)) may = may

  uploaded_same : (addition : Addition) → uploaded_of_addition into path entry addition ≡ uploaded_of into entry (outcome_of_addition addition)
  uploaded_same (NothingSent gone (Declined refusal)) = refl
  uploaded_same (NothingSent gone (Found number found holding)) = refl
  uploaded_same (SentRest gone number first (RestWhole pieces (FinishedBy found))) = refl
  uploaded_same (SentRest gone number first (RestWhole pieces (FinishedOther left))) = refl
  uploaded_same (SentRest gone number first (RestPart pieces stop (AbandonedBy left))) = refl
  uploaded_same (SentRest gone number first (RestPart pieces stop (AbandonedOther left))) = refl
  uploaded_same (SentRest gone number first (RestOther pieces bytes left)) = refl

  module _ {T C W : Type 0} (does : Upload T C W → Deed → Upload T C W → Type 0) where
    pub add_unopened : (fault : SubmissionFault) (old new : Upload T C W) → EndsEarly does (AreOpenings into path entry) fault old new → EndsEarly does (AreAdded into path entry) fault old new
    add_unopened fault old new = whole_weaker does (AreOpenings into path entry) (AreAdded into path entry) fault old new (λ whole are. (NothingSent are.0 are.1, are.2, are.3))

    pub add_ended : (uploaded : Uploaded) (old new : Upload T C W) → OpensFile into path entry does (openeds.Ended uploaded) old new → Adds into path entry does uploaded old new
    add_ended uploaded old new opens = record { addition = NothingSent opens.gone opens.opening; may_add = opens.may_open; happened = opens.happened; uploaded_is = opens.uploaded_is }

    module _ (number first : ℕ) (old now new : Upload T C W) (opens : OpensFile into path entry does (openeds.Begun number first) old now) where
      abbrev open_deeds : List Deed
      open_deeds = gone_deeds into entry 0 opens.gone ++ missing_deeds into path entry (length opens.gone) number first

      pub add_unsent : (fault : SubmissionFault) → EndsEarly does (AreRest into path entry number first) fault now new → EndsEarly does (AreAdded into path entry) fault old new
      add_unsent fault ends =
          part_ends does (AreRest into path entry number first) (AreAdded into path entry) fault open_deeds old now new opens.happened ends
          (λ whole are. ([], (SentRest opens.gone number first are.0, are.1, ap (λ (l : List Deed). open_deeds ++ l) (append-nil whole ∙ are.2))))

      pub add_sent : (uploaded : Uploaded) → SendsRest into path entry number first does uploaded now new → Adds into path entry does uploaded old new
      add_sent uploaded sends = record {
        addition = SentRest opens.gone number first sends.rest;
        may_add = sends.may_rest;
        happened = over_more does old now new open_deeds (rest_deeds into path entry number first sends.rest) opens.happened sends.happened;
        uploaded_is = sends.uploaded_is;
      }

    -- ---- upload_file

    pub upload_unseen : (fault : SubmissionFault) (old new : Upload T C W) → fault ≡ faults.Memory → Stands fault old new → EndsEarly does (AreOfFile into path entry) fault old new
    upload_unseen fault old new memory stands =
        memory_ends does (AreOfFile into path entry) fault [] (deeds_of_file into path entry (RefusedFile [] refusals.BadName)) old old new memory refl stands (RefusedFile [] refusals.BadName, refl, refl)

    pub upload_unread : (why : Skipped) (old middle new : Upload T C W) → StopsEmpty path entry does why old middle → does middle (Informed (Left path why)) new → Uploads does into path entry uploadeds.Skipped old new
    upload_unread why old middle new stops informed = record {
      outcome = UnreadFile stops.stops.stop;
      may_come = (stops.empty, stops.stops.such);
      happened = (middle, stops.stops.observed, (new, subst (λ (r : Skipped). does middle (Informed (Left path r)) new) stops.stops.reason informed, refl));
      uploaded_is = refl;
    }

    pub upload_added : (uploaded : Uploaded) (old middle new : Upload T C W) → GoesOver does old (empty_deeds path entry) middle → Adds into path entry does uploaded middle new → Uploads does into path entry uploaded old new
    upload_added uploaded old middle new seen adds = record {
      outcome = outcome_of_addition adds.addition;
      may_come = may_of_addition adds.addition adds.may_add;
      happened = subst (λ (l : List Deed). GoesOver does old l new) (deeds_of_addition adds.addition) (over_more does old middle new (empty_deeds path entry) (addition_deeds into path entry adds.addition) seen adds.happened);
      uploaded_is = adds.uploaded_is ∙ uploaded_same adds.addition;
    }

    pub upload_ends : (fault : SubmissionFault) (old middle new : Upload T C W) → GoesOver does old (empty_deeds path entry) middle → EndsEarly does (AreAdded into path entry) fault middle new → EndsEarly does (AreOfFile into path entry) fault old new
    upload_ends fault old middle new seen ends =
        part_ends does (AreAdded into path entry) (AreOfFile into path entry) fault (empty_deeds path entry) old middle new seen ends
        (λ whole are. (
          [],
          (
            outcome_of_addition are.0,
            may_of_addition are.0 are.1,
            ap (λ (l : List Deed). empty_deeds path entry ++ l) (append-nil whole ∙ are.2) ∙ deeds_of_addition are.0,
          ),
        ))

-- ---- the hash of what was read

pub read_hash : (kind : HashKind) (bytes : List ℕ) (fresh running : RunningHash) (read : HashValue) → Hashes bytes fresh running → running_kind fresh ≡ kind → HoldsAll fresh []
    → ((before : List ℕ) → HoldsAll running before → read ≡ hash (running_kind running) before) → read ≡ hash kind bytes
read_hash kind bytes fresh running read hashed is holds value = value bytes (hashed.holds [] holds) ∙ ap (λ (k : HashKind). hash k bytes) (hashed.kind ∙ is)

-- ---- see_empty

pub empty_seen : (path : List ℕ) (entry : FolderEntry) {T C W : Type 0} (does : Upload T C W → Deed → Upload T C W → Type 0) (old new : Upload T C W) → entry.len ≡ 0 → does old (Observed (Read path entry entry.len 1 [])) new
    → GoesOver does old (empty_deeds path entry) new
empty_seen path entry does old new empty seen =
    subst (λ (b : Bool). GoesOver does old (cond b (Observed (Read path entry 0 1 []) ∷ []) []) new) (sym (eq-eqb entry.len 0 empty)) (new, subst (λ n. does old (Observed (Read path entry n 1 [])) new) empty seen, refl)

pub not_empty : (path : List ℕ) (entry : FolderEntry) {T C W : Type 0} (does : Upload T C W → Deed → Upload T C W → Type 0) (old : Upload T C W) → (entry.len ≡ 0 → ⊥) → GoesOver does old (empty_deeds path entry) old
not_empty path entry does old some = subst (λ (b : Bool). GoesOver does old (cond b (Observed (Read path entry 0 1 []) ∷ []) []) old) (sym (ne_eqb entry.len 0 some)) refl

pub empty_stops : (path : List ℕ) (entry : FolderEntry) {T C W : Type 0} (does : Upload T C W → Deed → Upload T C W → Type 0) (why : Skipped) (old new : Upload T C W) → entry.len ≡ 0
    → StopsAt (Sees does) IsPastEnd path entry entry.len why old new → StopsEmpty path entry does why old new
empty_stops path entry does why old new empty stops = record { empty = empty; stops = subst (λ n. StopsAt (Sees does) IsPastEnd path entry n why old new) empty stops }

pub empty_seen_by : (path : List ℕ) (entry : FolderEntry) {T C W : Type 0} (does : Upload T C W → Deed → Upload T C W → Type 0) (progress : Progress) (old new : Upload T C W) → ((why : Skipped) → progress ≡ progresses.Stopped why → ⊥)
    → entry.len ≡ 0 → SeesEnd path entry does progress old new → GoesOver does old (empty_deeds path entry) new
empty_seen_by path entry does progresses.Done old new never empty sees = empty_seen path entry does old new empty sees
empty_seen_by path entry does (progresses.Stopped why) old new never empty sees = absurd (never why refl)
empty_seen_by path entry does progresses.Changed old new never empty sees = absurd sees
