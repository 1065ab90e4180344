-- What comes of pieces, one after the other.
use Rattle.std.proofs.Common.{◌≡◌, inl, inr, ℕ, ◌+◌, ◌<◌, ◌≤◌, Bool, List, [], ◌∷◌, ◌++◌, length, replicate, refl, sym, ap, subst, ◌∙◌, arith, length-append, append_assoc, append-nil}
use Rattle.std.proofs.lemmas.Bool.{le-ltb, lt-ltb}
use Rattle.std.proofs.lemmas.List.{length-replicate}
use Rattle.std.specs.Prelude.{cond}
use Rattle.droid_frame.specs.declared.refusal.Refusal.TheVariants as refusals
use Rattle.droid_frame.specs.declared.request.Request.TheVariants.{Piece}
use Rattle.droid_frame.specs.RunningHashes.{HoldsAll}
use Rattle.droid_frame.specs.declared.running_hash.RunningHash.{RunningHash}
use Rattle.droid_tree.specs.Heard.{TookBytes}
use Rattle.droid_tree.specs.Observation.{Read, Unread, GoesOver}
use Rattle.droid_tree.specs.Reading.{Stop, NoneCame, FewerCame, MoreCame, OtherFile, IsPastEnd, IsShort, IsStop, StopsAt, observed_of_stop}
use Rattle.droid_tree.specs.declared.folder_entry.FolderEntry.{FolderEntry}
use Rattle.droid_tree.specs.declared.skip_reason.Skipped.{Skipped}
use Rattle.droid_upload.specs.Calls.{Failed, Sent}
use Rattle.droid_upload.specs.Deeds.{Deed, Observed, Called, Informed}
use Rattle.droid_upload.specs.Fronts.{ByCall, EndsEarly, Last, Stands}
use Rattle.droid_upload.specs.Pieces.{joined, piece_deeds, sending_deeds}
use Rattle.droid_upload.specs.Steps.{ArePart, ArePassed, FailsPiece, FindsOther, Hashes, PassesAll, PassesFront, PassesOne, PassesPiece, ReadsFile, Sees, SeesEnd, SendsPiece, StopsOther, StopsPart, begin, passed_deeds, piece_request, wanted_at}
use Rattle.droid_upload.specs.declared.client_fault.ClientFault.TheVariants as client_faults
use Rattle.droid_upload.specs.declared.file_pieces.Progress.{Progress}
use Rattle.droid_upload.specs.declared.file_pieces.Progress.TheVariants as progresses
use Rattle.droid_upload.specs.declared.file_pieces.Target.{Target}
use Rattle.droid_upload.specs.declared.submission_fault.SubmissionFault.{SubmissionFault}
use Rattle.droid_upload.specs.declared.submission_fault.SubmissionFault.TheVariants as faults
use Rattle.droid_upload.specs.declared.upload.Upload.{Upload}
use Rattle.droid_upload.proofs.Early.{memory_ends, over_more, over_one, part_ends}
use Rattle.droid_upload.proofs.PieceLists.{begin_more, begin_within, begin_zero, cut_more, joined_more, length_more, pieces_more, requested, short_stop}

-- ---- hashes of bytes after bytes

hashes_none : (running : RunningHash) → Hashes [] running running
hashes_none running = record { kind = refl; holds = λ before held. subst (λ (l : List ℕ). HoldsAll running l) (sym (append-nil before)) held }

hashes_more : (xs ys : List ℕ) (a b c : RunningHash) → Hashes xs a b → Hashes ys b c → Hashes (xs ++ ys) a c
hashes_more xs ys a b c p q =
    record { kind = q.kind ∙ p.kind; holds = λ before held. subst (λ (l : List ℕ). HoldsAll c l) (append_assoc before xs ys) (q.holds (before ++ xs) (p.holds before held)) }

module _ (to : Target) (path : List ℕ) (entry : FolderEntry) where
  sending_here : (index : ℕ) (bytes : List ℕ) → to.first ≤ index → sending_deeds to.into.profile to.number to.first path entry index bytes ≡ Called (Sent (piece_request to index bytes)) ∷ Informed (TookBytes path (length bytes)) ∷ []
  sending_here index bytes behind = ap (λ (b : Bool). cond b [] (Called (Sent (piece_request to index bytes)) ∷ Informed (TookBytes path (length bytes)) ∷ [])) (le-ltb index to.first behind)

  sending_none : (index : ℕ) (bytes : List ℕ) → index < to.first → sending_deeds to.into.profile to.number to.first path entry index bytes ≡ []
  sending_none index bytes held = ap (λ (b : Bool). cond b [] (Called (Sent (piece_request to index bytes)) ∷ Informed (TookBytes path (length bytes)) ∷ [])) (lt-ltb index to.first held)

  passed_here : (index : ℕ) (bytes : List ℕ) → length bytes ≡ wanted_at to path entry index
      → passed_deeds to path entry index bytes ≡ Observed (Read path entry (begin to path entry index) (length bytes) bytes) ∷ sending_deeds to.into.profile to.number to.first path entry index bytes
  passed_here index bytes counted = ap (λ (n : ℕ). Observed (Read path entry (begin to path entry index) n bytes) ∷ sending_deeds to.into.profile to.number to.first path entry index bytes) (sym counted)

  end_stop : (stop : Stop) → IsPastEnd stop → IsStop to.into.piece_size entry.len entry.len stop
  end_stop (NoneCame n) is = inr (refl, is)
  end_stop (FewerCame n bytes) is = absurd is
  end_stop (MoreCame bytes) is = (refl, is)
  end_stop (OtherFile n) is = inr (refl, is)

  module _ {T C W : Type 0} (does : Upload T C W → Deed → Upload T C W → Type 0) where
    -- ---- one piece

    pub piece_unread : (index : ℕ) (fault : SubmissionFault) (old new : Upload T C W) → fault ≡ faults.Memory → Stands fault old new → EndsEarly does (ArePassed to path entry index) fault old new
    piece_unread index fault old new memory stands =
        let bytes = replicate (wanted_at to path entry index) 0 in
        memory_ends does (ArePassed to path entry index) fault [] (passed_deeds to path entry index bytes) old old new memory refl stands (bytes, length-replicate (wanted_at to path entry index) 0, refl)

    module _ (index : ℕ) (bytes : List ℕ) (old middle : Upload T C W) (counted : length bytes ≡ wanted_at to path entry index)
        (read : does old (Observed (Read path entry (begin to path entry index) (wanted_at to path entry index) bytes)) middle) where
      pub piece_held : (running running_after : RunningHash) → Hashes bytes running running_after → index < to.first → PassesPiece to path entry does index progresses.Done running running_after old middle
      piece_held running running_after hashed held = record {
        bytes = bytes;
        counted = counted;
        happened = (middle, read, subst (λ (l : List Deed). GoesOver does middle l middle) (sym (sending_none index bytes held)) refl);
        hashed = hashed;
      }

      pub piece_sent : (progress : Progress) (running running_after : RunningHash) (new : Upload T C W) → Hashes bytes running running_after → to.first ≤ index → SendsPiece does to index path bytes progress middle new
          → PassesPiece to path entry does index progress running running_after old new
      piece_sent progresses.Done running running_after new hashed behind sends = record {
        bytes = bytes;
        counted = counted;
        happened = (middle, read, subst (λ (l : List Deed). GoesOver does middle l new) (sym (sending_here index bytes behind)) sends);
        hashed = hashed;
      }
      piece_sent (progresses.Stopped why) running running_after new hashed behind sends = absurd sends
      piece_sent progresses.Changed running running_after new hashed behind sends = record { bytes = bytes; counted = counted; behind = behind; happened = (middle, read, (new, sends, refl)) }

      pub piece_failed : (fault : SubmissionFault) (new : Upload T C W) → to.first ≤ index → FailsPiece does to index bytes fault middle new → EndsEarly does (ArePassed to path entry index) fault old new
      piece_failed fault new behind fails =
          let seen : Deed = Observed (Read path entry (begin to path entry index) (wanted_at to path entry index) bytes) in
          let request = piece_request to index bytes in
          record {
            deeds = seen ∷ Called (Failed 0 request fails.why) ∷ [];
            whole = passed_deeds to path entry index bytes;
            reached = new;
            happened = (middle, read, (new, fails.called, refl));
            stands = inl refl;
            are = (bytes, counted, refl);
            front = Last (seen ∷ []) (Informed (TookBytes path (length bytes)) ∷ []) (Sent request) (Failed 0 request fails.why) (record { request = refl; attempt = refl })
                (ap (λ (l : List Deed). seen ∷ l) (sending_here index bytes behind)) refl;
            explained = ByCall (seen ∷ []) (Failed 0 request fails.why) refl (λ reused. absurd (fails.other reused)) fails.fault_is;
          }

    -- ---- pieces after pieces

    pub none_passed : (running : RunningHash) (old : Upload T C W) → PassesFront to path entry does 0 running running old old
    none_passed running old = record { pieces = []; counted = refl; length_is = sym (begin_zero to.into.piece_size entry.len); cut = tt; happened = refl; hashed = hashes_none running }

    module _ (index : ℕ) (running running_now : RunningHash) (old now : Upload T C W) (front : PassesFront to path entry does index running running_now old now) (left : begin to path entry index < entry.len) where
      abbrev start : ℕ
      start = begin to path entry index

      total : start ≡ 0 + length (joined front.pieces)
      total = omega (arith, front.length_is)

      abbrev before : List Deed
      before = piece_deeds to.into.profile to.number to.first path entry 0 0 front.pieces

      piece_added : (bytes : List ℕ) → length bytes ≡ wanted_at to path entry index
          → piece_deeds to.into.profile to.number to.first path entry 0 0 (front.pieces ++ bytes ∷ []) ≡ before ++ passed_deeds to path entry index bytes
      piece_added bytes counted =
          pieces_more to.into.profile to.number to.first path entry 0 0 index start front.pieces bytes (omega (arith, front.counted)) total
          ∙ ap (λ (l : List Deed). before ++ l) (sym (passed_here index bytes counted))

      length_with : (bytes : List ℕ) → length bytes ≡ wanted_at to path entry index → length (joined (front.pieces ++ bytes ∷ [])) ≡ begin to path entry (index + 1)
      length_with bytes counted = length_more front.pieces bytes ∙ (ap (λ (n : ℕ). n + length bytes) front.length_is ∙ (ap (λ (n : ℕ). start + n) counted ∙ sym (begin_more to.into.piece_size entry.len index)))

      pub one_more_passed : (running_after : RunningHash) (new : Upload T C W) → PassesOne to path entry does index running_now running_after now new → PassesFront to path entry does (index + 1) running running_after old new
      one_more_passed running_after new one = record {
        pieces = front.pieces ++ one.bytes ∷ [];
        counted = omega (arith, length-append front.pieces (one.bytes ∷ []), front.counted);
        length_is = length_with one.bytes one.counted;
        cut = cut_more to.into.piece_size entry.len 0 start front.pieces one.bytes total left one.counted front.cut;
        happened = subst (λ (l : List Deed). GoesOver does old l new) (sym (piece_added one.bytes one.counted)) (over_more does old now new before (passed_deeds to path entry index one.bytes) front.happened one.happened);
        hashed = subst (λ (l : List ℕ). Hashes l running running_after) (sym (joined_more front.pieces one.bytes)) (hashes_more (joined front.pieces) one.bytes running running_now running_after front.hashed one.hashed);
      }

      pub passing_ends : (fault : SubmissionFault) (new : Upload T C W) → EndsEarly does (ArePassed to path entry index) fault now new → EndsEarly does (ArePart to path entry) fault old new
      passing_ends fault new part =
          part_ends does (ArePassed to path entry index) (ArePart to path entry) fault before old now new front.happened part
          (λ whole are.
          let pieces = front.pieces ++ are.0 ∷ [] in
          let within : length (joined pieces) ≤ entry.len = subst (λ n. n ≤ entry.len) (sym (length_with are.0 are.1)) (begin_within to.into.piece_size entry.len (index + 1)) in
          let next = requested to.into.piece_size entry.len (length (joined pieces)) within in
          let end : List Deed = Observed (observed_of_stop path entry (length (joined pieces)) (NoneCame next.0)) ∷ [] in (
            end,
            (
              pieces,
              NoneCame next.0,
              (cut_more to.into.piece_size entry.len 0 start front.pieces are.0 total left are.1 front.cut, next.1),
              ap (λ (l : List Deed). before ++ (l ++ end)) are.2 ∙ (sym (append_assoc before (passed_deeds to path entry index are.0) end) ∙ ap (λ (l : List Deed). l ++ end) (sym (piece_added are.0 are.1))),
            ),
          ))

      pub piece_stops : (why : Skipped) (new : Upload T C W) → StopsAt (Sees does) (IsShort (wanted_at to path entry index)) path entry start why now new → StopsPart to path entry does why old new
      piece_stops why new stops = record {
        pieces = front.pieces;
        stop = stops.stop;
        may_read = (front.cut, subst (λ n. IsStop to.into.piece_size entry.len n stops.stop) (sym front.length_is) (short_stop to.into.piece_size entry.len start left stops.stop stops.such));
        reason = stops.reason;
        happened = over_more does old now new before (Observed (observed_of_stop path entry (length (joined front.pieces)) stops.stop) ∷ []) front.happened
            (over_one does now new _ (subst (λ n. does now (Observed (observed_of_stop path entry n stops.stop)) new) (sym front.length_is) stops.observed));
      }

      pub piece_changes : (new : Upload T C W) → FindsOther to path entry does index now new → StopsOther to path entry does old new
      piece_changes new other =
          let P = λ (n wanted count : ℕ). GoesOver does now (Observed (Read path entry n wanted other.bytes)
          ∷ Called (Failed 0 (Piece to.into.profile to.number count other.bytes) (client_faults.Piece refusals.NumberReused)) ∷ []) new in
          let found : P (length (joined front.pieces)) (length other.bytes) (length front.pieces) =
          subst (λ n. P n (length other.bytes) (length front.pieces)) (sym front.length_is)
          (subst (λ n. P start n (length front.pieces)) (sym other.counted) (subst (λ n. P start (wanted_at to path entry index) n) (sym front.counted) other.happened)) in
          record {
            pieces = front.pieces;
            bytes = other.bytes;
            may_read = (cut_more to.into.piece_size entry.len 0 start front.pieces other.bytes total left other.counted front.cut, subst (λ n. to.first ≤ n) (sym front.counted) other.behind);
            happened = over_more does old now new before _ front.happened found;
          }

    -- ---- the end of the pieces

    module _ (running running_after : RunningHash) (old now : Upload T C W) (passed : PassesAll to path entry does running running_after old now) where
      whole_length : length (joined passed.front.pieces) ≡ entry.len
      whole_length = passed.front.length_is ∙ passed.all

      pub end_seen : (progress : Progress) (new : Upload T C W) → SeesEnd path entry does progress now new → ReadsFile to path entry does progress running running_after old new
      end_seen progresses.Done new sees = record {
        pieces = passed.front.pieces;
        may_read = (passed.front.cut, whole_length);
        happened = over_more does old now new (piece_deeds to.into.profile to.number to.first path entry 0 0 passed.front.pieces) (Observed (Read path entry (length (joined passed.front.pieces)) 1 []) ∷ []) passed.front.happened
            (over_one does now new _ (subst (λ n. does now (Observed (Read path entry n 1 [])) new) (sym whole_length) sees));
        hashed = passed.front.hashed;
      }
      end_seen (progresses.Stopped why) new sees = record {
        pieces = passed.front.pieces;
        stop = sees.stop;
        may_read = (passed.front.cut, subst (λ n. IsStop to.into.piece_size entry.len n sees.stop) (sym whole_length) (end_stop sees.stop sees.such));
        reason = sees.reason;
        happened = over_more does old now new (piece_deeds to.into.profile to.number to.first path entry 0 0 passed.front.pieces)
            (Observed (observed_of_stop path entry (length (joined passed.front.pieces)) sees.stop) ∷ []) passed.front.happened
            (over_one does now new _ (subst (λ n. does now (Observed (observed_of_stop path entry n sees.stop)) new) (sym whole_length) sees.observed));
      }
      end_seen progresses.Changed new sees = absurd sees

      pub end_unseen : (fault : SubmissionFault) (new : Upload T C W) → fault ≡ faults.Memory → Stands fault now new → EndsEarly does (ArePart to path entry) fault old new
      end_unseen fault new memory stands =
          memory_ends does (ArePart to path entry) fault (piece_deeds to.into.profile to.number to.first path entry 0 0 passed.front.pieces) (Observed (Unread path entry (length (joined passed.front.pieces)) 1) ∷ [])
          old now new memory passed.front.happened stands (passed.front.pieces, NoneCame 1, (passed.front.cut, inr (whole_length, refl)), refl)
