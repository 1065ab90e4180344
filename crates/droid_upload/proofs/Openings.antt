-- Adding a file, under one attempt after the other.
use Rattle.std.proofs.Common.{◌≡◌, inl, inr, ℕ, suc, ◌+◌, true, false, Some, None, List, [], ◌∷◌, ◌++◌, length, refl, sym, ap, subst, ◌∙◌, arith, length-append, append-nil}
use Rattle.droid_frame.specs.declared.refusal.Refusal.{Refusal}
use Rattle.droid_frame.specs.declared.refusal.Refusal.TheVariants as refusals
use Rattle.droid_frame.specs.declared.reply.Reply.{Reply}
use Rattle.droid_frame.specs.declared.reply.Reply.TheVariants as replies
use Rattle.droid_frame.specs.declared.request.Request.TheVariants.{Finish}
use Rattle.droid_tree.specs.Heard.{Left}
use Rattle.droid_tree.specs.Observation.{GoesOver}
use Rattle.droid_tree.specs.declared.folder_entry.FolderEntry.{FolderEntry}
use Rattle.droid_tree.specs.declared.skip_reason.Skipped.TheVariants as reasons
use Rattle.droid_upload.specs.Calls.{Answered}
use Rattle.droid_upload.specs.Deeds.{Deed, Called, Informed}
use Rattle.droid_upload.specs.Faults.{IsAfterLastAttempt, fault_of_reply, is_countable, is_finished, is_node, is_open}
use Rattle.droid_upload.specs.FileOutcomes.{file_request, gone_deeds, holding_deeds}
use Rattle.droid_upload.specs.Fronts.{AsksInVain, EndsEarly}
use Rattle.droid_upload.specs.Steps.{AfterAdd, AreHeld, AreOpening, AreOpenings, Declined, EndsHeld, Found, OpensFile, OpensNode, missing_deeds, opening_deeds}
use Rattle.droid_upload.specs.declared.file_opening.Opened.{Opened}
use Rattle.droid_upload.specs.declared.file_opening.Opened.TheVariants as openeds
use Rattle.droid_upload.specs.declared.submission_fault.SubmissionFault.{SubmissionFault}
use Rattle.droid_upload.specs.declared.submission_fault.SubmissionFault.TheVariants as faults
use Rattle.droid_upload.specs.declared.upload.Destination.{Destination}
use Rattle.droid_upload.specs.declared.upload.Upload.{Upload}
use Rattle.droid_upload.specs.declared.upload.Uploaded.{Uploaded}
use Rattle.droid_upload.specs.declared.upload.Uploaded.TheVariants as uploadeds
use Rattle.droid_upload.proofs.Behind.{answer_alone, vain_alone}
use Rattle.droid_upload.proofs.Early.{answer_ends, just_ends, memory_ends, over_more, over_one, part_ends, vain_ends}
use Rattle.droid_upload.proofs.FileEndings.{some_finished}
use Rattle.droid_upload.proofs.HeldFiles.{some_holding}

module _ (into : Destination) (path : List ℕ) (entry : FolderEntry) {T C W : Type 0} (does : Upload T C W → Deed → Upload T C W → Type 0) where
  -- ---- see_node
  module _ (attempt number : ℕ) where
    abbrev added : List Deed
    added = Called (Answered attempt (file_request into entry) (replies.Node number)) ∷ []

    finish_ends : (fault : SubmissionFault) (first new : Upload T C W) → EndsEarly does (λ whole. whole ≡ added ++ Called (Answered 0 (Finish into.profile number) some_finished) ∷ []) fault first new
        → EndsEarly does (AreOpening into path entry attempt) fault first new
    finish_ends fault first new ends =
        let some = some_holding into entry in
        just_ends does (AreOpening into path entry attempt) fault (added ++ Called (Answered 0 (Finish into.profile number) some_finished) ∷ []) (holding_deeds into path entry number some_finished some.0) first new ends
        (Found number some_finished some.0, (refl, some.1), refl)

    pub node_in_vain : (fault : SubmissionFault) (old new : Upload T C W) → AsksInVain does 0 (Finish into.profile number) fault old new
        → AfterAdd does into entry attempt number (EndsEarly does (AreOpening into path entry attempt) fault) old new
    node_in_vain fault old new vain = λ first was.
        let call = Answered attempt (file_request into entry) (replies.Node number) in
        finish_ends fault first new (vain_ends does added 0 (Finish into.profile number) some_finished fault first old new (over_one does first old (Called call) was) vain (λ reused. ([], call, refl)))

    pub node_refused : (fault : SubmissionFault) (reply : Reply) (old new : Upload T C W) → does old (Called (Answered 0 (Finish into.profile number) reply)) new → is_finished reply ≡ false → is_open reply ≡ false → fault ≡ fault_of_reply reply
        → AfterAdd does into entry attempt number (EndsEarly does (AreOpening into path entry attempt) fault) old new
    node_refused fault reply old new called ends closed is = λ first was.
        finish_ends fault first new (answer_ends does added 0 (Finish into.profile number) some_finished fault first old new reply (over_one does first old _ was) called ends (λ again. absurd cc) is)

    pub node_lost : (reply : Reply) (old new : Upload T C W) → does old (Called (Answered 0 (Finish into.profile number) reply)) new → reply ≡ replies.Refused refusals.NoSuchNode → attempt ≡ 4294967294
        → AfterAdd does into entry attempt number (EndsEarly does (AreOpening into path entry attempt) (faults.Refused refusals.NoSuchNode)) old new
    node_lost reply old new called is last = λ first was.
        let gone = subst (λ (r : Reply). does old (Called (Answered 0 (Finish into.profile number) r)) new) is called in
        let after : IsAfterLastAttempt added =
        ([], file_request into entry, replies.Node number, ap (λ (n : ℕ). Called (Answered n (file_request into entry) (replies.Node number)) ∷ []) last) in
        finish_ends (faults.Refused refusals.NoSuchNode) first new
        (answer_ends does added 0 (Finish into.profile number) some_finished (faults.Refused refusals.NoSuchNode) first old new (replies.Refused refusals.NoSuchNode) (over_one does first old _ was) gone refl (λ again. inr after) refl)

    module _ (reply : Reply) (old middle new : Upload T C W) (called : does old (Called (Answered 0 (Finish into.profile number) reply)) middle) (finished : is_finished reply ≡ true) where
      pub node_held : (uploaded : Uploaded) → EndsHeld into path entry number reply does uploaded middle new → AfterAdd does into entry attempt number (OpensNode into path entry does attempt (Some (openeds.Ended uploaded))) old new
      node_held uploaded held = λ first was.
          record { opening = Found number reply held.holding; may_open = (finished, held.may_hold); happened = (old, was, (middle, called, held.happened)); uploaded_is = held.uploaded_is }

      pub node_unheld : (fault : SubmissionFault) → EndsEarly does (AreHeld into path entry number reply) fault middle new
          → AfterAdd does into entry attempt number (EndsEarly does (AreOpening into path entry attempt) fault) old new
      node_unheld fault ends = λ first was.
          let before : List Deed = added ++ Called (Answered 0 (Finish into.profile number) reply) ∷ [] in
          part_ends does (AreHeld into path entry number reply) (AreOpening into path entry attempt) fault before first middle new (old, was, (middle, called, refl)) ends
          (λ whole are. ([], (Found number reply are.0, (finished, are.1), ap (λ (l : List Deed). before ++ l) (append-nil whole ∙ are.2))))

    pub node_gone : (reply : Reply) (old new : Upload T C W) → does old (Called (Answered 0 (Finish into.profile number) reply)) new → reply ≡ replies.Refused refusals.NoSuchNode
        → AfterAdd does into entry attempt number (OpensNode into path entry does attempt None) old new
    node_gone reply old new called is = λ first was.
        record { number = number; happened = (old, was, (new, subst (λ (r : Reply). does old (Called (Answered 0 (Finish into.profile number) r)) new) is called, refl)) }

    pub node_lacks : (reply : Reply) (missing : ℕ) (old new : Upload T C W) → does old (Called (Answered 0 (Finish into.profile number) reply)) new → reply ≡ replies.Refused (refusals.Incomplete missing)
        → is_countable into.piece_size entry.len ≡ true → AfterAdd does into entry attempt number (OpensNode into path entry does attempt (Some (openeds.Begun number missing))) old new
    node_lacks reply missing old new called is countable = λ first was.
        (countable, (old, was, (new, subst (λ (r : Reply). does old (Called (Answered 0 (Finish into.profile number) r)) new) is called, refl)))

  -- ---- open_node
  module _ (attempt : ℕ) where
    abbrev refused : Deed
    refused = Informed (Left path (reasons.Refused refusals.BadName))

    pub add_in_vain : (fault : SubmissionFault) (old new : Upload T C W) → AsksInVain does attempt (file_request into entry) fault old new → EndsEarly does (AreOpening into path entry attempt) fault old new
    add_in_vain fault old new vain =
        vain_alone does (AreOpening into path entry attempt) attempt (file_request into entry) (replies.Refused refusals.BadName) (refused ∷ []) fault old new vain (λ reused. tt) (Declined refusals.BadName, refl, refl)

    pub add_refused : (fault : SubmissionFault) (reply : Reply) (old new : Upload T C W) → does old (Called (Answered attempt (file_request into entry) reply)) new → is_node (is_countable into.piece_size entry.len) reply ≡ false
        → fault ≡ fault_of_reply reply → EndsEarly does (AreOpening into path entry attempt) fault old new
    add_refused fault reply old new called ends is =
        answer_alone does (AreOpening into path entry attempt) attempt (file_request into entry) (replies.Refused refusals.BadName) (refused ∷ []) fault old new reply called ends (λ again. absurd cc) is (Declined refusals.BadName, refl, refl)

    pub add_declined : (reply : Reply) (refusal : Refusal) (old middle new : Upload T C W) → does old (Called (Answered attempt (file_request into entry) reply)) middle → reply ≡ replies.Refused refusal
        → is_node (is_countable into.piece_size entry.len) reply ≡ true → does middle (Informed (Left path (reasons.Refused refusal))) new → OpensNode into path entry does attempt (Some (openeds.Ended uploadeds.Skipped)) old new
    add_declined reply refusal old middle new called is may informed = record {
      opening = Declined refusal;
      may_open = subst (λ (r : Reply). is_node (is_countable into.piece_size entry.len) r ≡ true) is may;
      happened = (middle, subst (λ (r : Reply). does old (Called (Answered attempt (file_request into entry) r)) middle) is called, (new, informed, refl));
      uploaded_is = refl;
    }

    pub add_counted : (reply : Reply) (number : ℕ) → reply ≡ replies.Node number → is_node (is_countable into.piece_size entry.len) reply ≡ true → is_countable into.piece_size entry.len ≡ true
    add_counted reply number is may = subst (λ (r : Reply). is_node (is_countable into.piece_size entry.len) r ≡ true) is may

    pub add_numbered : (reply : Reply) (number : ℕ) (old new : Upload T C W) → does old (Called (Answered attempt (file_request into entry) reply)) new → reply ≡ replies.Node number
        → does old (Called (Answered attempt (file_request into entry) (replies.Node number))) new
    add_numbered reply number old new called is = subst (λ (r : Reply). does old (Called (Answered attempt (file_request into entry) r)) new) is called

  -- ---- open_file

  -- the nodes so far were found abandoned
  pub record FindsAllGone (attempt : ℕ) (old new : Upload T C W) : Type 0 where
    pub gone : List ℕ
    pub counted : length gone ≡ attempt
    pub happened : GoesOver does old (gone_deeds into entry 0 gone) new

  pub none_gone : (old : Upload T C W) → FindsAllGone 0 old old
  none_gone old = record { gone = []; counted = refl; happened = refl }

  gone_more : (from attempt number : ℕ) (gone : List ℕ) → attempt ≡ from + length gone → gone_deeds into entry from (gone ++ number ∷ []) ≡ gone_deeds into entry from gone ++ gone_deeds into entry attempt (number ∷ [])
  gone_more from attempt number [] is =
      let same : from ≡ attempt = omega arith in
      ap (λ (n : ℕ). gone_deeds into entry n (number ∷ [])) same
  gone_more from attempt number (head ∷ gone) is =
      ap (λ (l : List Deed). Called (Answered from (file_request into entry) (replies.Node head)) ∷ Called (Answered 0 (Finish into.profile head) (replies.Refused refusals.NoSuchNode)) ∷ l)
      (gone_more (suc from) attempt number gone (omega (arith, is)))

  module _ (attempt : ℕ) (old now new : Upload T C W) (all : FindsAllGone attempt old now) where
    pub one_more_gone : OpensNode into path entry does attempt None now new → FindsAllGone (attempt + 1) old new
    one_more_gone one = record {
      gone = all.gone ++ one.number ∷ [];
      counted = omega (arith, length-append all.gone (one.number ∷ []), all.counted);
      happened = subst (λ (l : List Deed). GoesOver does old l new) (sym (gone_more 0 attempt one.number all.gone (omega (arith, all.counted))))
          (over_more does old now new (gone_deeds into entry 0 all.gone) (gone_deeds into entry attempt (one.number ∷ [])) all.happened one.happened);
    }

    pub opened_after : (opened : Opened) → OpensNode into path entry does attempt (Some opened) now new → OpensFile into path entry does opened old new
    opened_after (openeds.Ended uploaded) one = record {
      gone = all.gone;
      opening = one.opening;
      may_open = one.may_open;
      happened = over_more does old now new (gone_deeds into entry 0 all.gone) (opening_deeds into path entry (length all.gone) one.opening) all.happened
          (subst (λ (n : ℕ). GoesOver does now (opening_deeds into path entry n one.opening) new) (sym all.counted) one.happened);
      uploaded_is = one.uploaded_is;
    }
    opened_after (openeds.Begun number missing) one = record {
      gone = all.gone;
      countable = one.0;
      happened = over_more does old now new (gone_deeds into entry 0 all.gone) (missing_deeds into path entry (length all.gone) number missing) all.happened
          (subst (λ (n : ℕ). GoesOver does now (missing_deeds into path entry n number missing) new) (sym all.counted) one.1);
    }

    pub opening_ends : (fault : SubmissionFault) → EndsEarly does (AreOpening into path entry attempt) fault now new → EndsEarly does (AreOpenings into path entry) fault old new
    opening_ends fault part =
        part_ends does (AreOpening into path entry attempt) (AreOpenings into path entry) fault (gone_deeds into entry 0 all.gone) old now new all.happened part
        (λ whole are. (
          [],
          (
            all.gone,
            are.0,
            are.1,
            ap (λ (l : List Deed). gone_deeds into entry 0 all.gone ++ l) (append-nil whole ∙ (are.2 ∙ ap (λ (n : ℕ). opening_deeds into path entry n are.0) (sym all.counted))),
          ),
        ))

  pub unopened : (fault : SubmissionFault) (old : Upload T C W) → fault ≡ faults.Memory → EndsEarly does (AreOpenings into path entry) fault old old
  unopened fault old memory =
      memory_ends does (AreOpenings into path entry) fault [] (opening_deeds into path entry 0 (Declined refusals.BadName)) old old old memory refl (inl refl) ([], Declined refusals.BadName, refl, refl)
