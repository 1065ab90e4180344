-- Events after events, and which facts stand after them.
use Rattle.std.proofs.Common.{◌≡◌, true, List, [], ◌∷◌, ◌++◌, Contains, length, inl, inr, refl, sym, ap, subst, ◌∙◌, append_assoc, length-append, arith}
use Rattle.std.specs.List.{AllByRecursion}
use Rattle.std.proofs.lemmas.Bool.{false≢true}
use Rattle.droid_frame.specs.declared.frame.Frame.{Frame}
use Rattle.droid_frame.specs.declared.reply.Reply.{Reply}
use Rattle.droid_frame.specs.declared.reply.Reply.TheVariants as replies
use Rattle.droid_remote.specs.Answering.{IsAnswered, IsTaken}
use Rattle.droid_remote.specs.Events.{Event, Joined, Alone, Sent, Cut, Came, Lost, Paused, Expired, Started, EndsIn, Fact, Written, facts_after, facts_behind}
use Rattle.droid_remote.specs.Moves.{Goes, Moves, Stops}
use Rattle.droid_remote.specs.Stages.{CountsOn}
use Rattle.droid_remote.specs.TransferFaults.{Explains, is_refusal}
use Rattle.droid_remote.specs.Vouching.{IsVouched, MayAllHappen, MayHappen, MayWrite}
use Rattle.droid_remote.specs.declared.transfer.connection_steps.Stage.{Stage}
use Rattle.droid_remote.specs.declared.transfer.known_requests.KnownRequests.{KnownRequests}
use Rattle.droid_remote.specs.declared.transfer.transfer_fault.TransferFault.{TransferFault}
use Rattle.droid_remote.specs.declared.transfer.transfer_fault.TransferFault.TheVariants.{Memory, Broken, Stranger, Restarted, Refused, Busy}
use Rattle.droid_remote.proofs.Chaining.{over_one, over_more}

pub all_append : {A : Type 0} (P : A → Type 0) (xs ys : List A) → AllByRecursion P xs → AllByRecursion P ys → AllByRecursion P (xs ++ ys)
all_append P [] ys p q = q
all_append P (x ∷ xs) ys p q = (p.0, all_append P xs ys p.1 q)

pub all_in : {A : Type 0} (P Q : A → Type 0) (xs : List A) → ((x : A) → P x → Q x) → AllByRecursion P xs → AllByRecursion Q xs
all_in P Q [] in_it all = tt
all_in P Q (x ∷ xs) in_it all = (in_it x all.0, all_in P Q xs in_it all.1)

pub nothing_in : {A : Type 0} (xs : List A) (x : A) → xs ≡ [] → Contains xs x → ⊥
nothing_in xs x none there = omega (arith, ap length none, there.1)

-- ---- facts

pub facts_append : (facts : List Fact) (xs ys : List Event) → facts_after facts (xs ++ ys) ≡ facts_after (facts_after facts xs) ys
facts_append facts [] ys = refl
facts_append facts (x ∷ xs) ys = facts_append (facts_behind facts x) xs ys

-- ---- what may be written

module _ (known : KnownRequests) (Is Other : Frame → Type 0) (in_it : (frame : Frame) → Is frame → Other frame) where
  may_in : (facts : List Fact) (frame : Frame) → MayWrite known Is facts frame → MayWrite known Other facts frame
  may_in facts frame (inl is) = inl is
  may_in facts frame (inr is) = inr (in_it frame is.0, is.1)

  happens_in : (facts : List Fact) (event : Event) → MayHappen known Is facts event → MayHappen known Other facts event
  happens_in facts (Sent frame) may = may_in facts frame may
  happens_in facts (Cut frame) may = may_in facts frame may
  happens_in facts (Came frame) may = tt
  happens_in facts Joined may = tt
  happens_in facts Alone may = tt
  happens_in facts Lost may = tt
  happens_in facts Paused may = tt
  happens_in facts Expired may = tt
  happens_in facts Started may = tt

  pub only_in : (facts : List Fact) (events : List Event) → MayAllHappen known Is facts events → MayAllHappen known Other facts events
  only_in facts [] only = tt
  only_in facts (event ∷ events) only = (happens_in facts event only.0, only_in (facts_behind facts event) events only.1)

pub only_append : (known : KnownRequests) (Is : Frame → Type 0) (facts : List Fact) (xs ys : List Event) → MayAllHappen known Is facts xs → MayAllHappen known Is (facts_after facts xs) ys → MayAllHappen known Is facts (xs ++ ys)
only_append known Is facts [] ys first second = second
only_append known Is facts (x ∷ xs) ys first second = (first.0, only_append known Is (facts_behind facts x) xs ys first.1 second)

-- ---- what came stays there

module _ (known : KnownRequests) (facts : List Fact) (xs ys : List Event) where
  pub answered_before : (frame : Frame) (reply : Reply) → IsAnswered known facts xs frame reply → IsAnswered known facts (xs ++ ys) frame reply
  answered_before frame reply is = record {
    came = is.came;
    before = is.before;
    later = is.later ++ ys;
    cut = ap (λ (l : List Event). l ++ ys) is.cut ∙ append_assoc is.before (Came is.came ∷ is.later) ys;
    was_written = is.was_written;
    vouched = is.vouched;
    is_reply = is.is_reply;
  }

  pub answered_after : (frame : Frame) (reply : Reply) → IsAnswered known (facts_after facts xs) ys frame reply → IsAnswered known facts (xs ++ ys) frame reply
  answered_after frame reply is = record {
    came = is.came;
    before = xs ++ is.before;
    later = is.later;
    cut = ap (λ (l : List Event). xs ++ l) is.cut ∙ sym (append_assoc xs is.before (Came is.came ∷ is.later));
    was_written = subst (λ (l : List Fact). Contains l (Written frame)) (sym (facts_append facts xs is.before)) is.was_written;
    vouched = subst (λ (l : List Fact). IsVouched known l) (sym (facts_append facts xs is.before)) is.vouched;
    is_reply = is.is_reply;
  }

  pub taken_before : (frame : Frame) → IsTaken known facts xs frame → IsTaken known facts (xs ++ ys) frame
  taken_before frame is = (is.0, answered_before frame (replies.Taken is.0) is.1)

  pub taken_after : (frame : Frame) → IsTaken known (facts_after facts xs) ys frame → IsTaken known facts (xs ++ ys) frame
  taken_after frame is = (is.0, answered_after frame (replies.Taken is.0) is.1)

  pub all_taken_before : (frames : List Frame) → AllByRecursion (IsTaken known facts xs) frames → AllByRecursion (IsTaken known facts (xs ++ ys)) frames
  all_taken_before frames all = all_in (IsTaken known facts xs) (IsTaken known facts (xs ++ ys)) frames taken_before all

  pub all_taken_after : (frames : List Frame) → AllByRecursion (IsTaken known (facts_after facts xs) ys) frames → AllByRecursion (IsTaken known facts (xs ++ ys)) frames
  all_taken_after frames all = all_in (IsTaken known (facts_after facts xs) ys) (IsTaken known facts (xs ++ ys)) frames taken_after all

-- ---- what a fault says

pub ends_after : (xs ys last : List Event) → EndsIn ys last → EndsIn (xs ++ ys) last
ends_after xs ys last ends = (xs ++ ends.0, ap (λ (l : List Event). xs ++ l) ends.1 ∙ sym (append_assoc xs ends.0 last))

module _ (known : KnownRequests) (Is Other : Frame → Type 0) (pieces more : List Frame) (in_it : (frame : Frame) → Is frame → Other frame) (in_more : (frame : Frame) → Contains pieces frame → Contains more frame)
    (facts : List Fact) (xs ys : List Event) where
  pub explains_after : (fault : TransferFault) → Explains fault known Is pieces (facts_after facts xs) ys → Explains fault known Other more facts (xs ++ ys)
  explains_after Memory why = tt
  explains_after Broken why = elim why [
    | inl over ↦ inl (ends_after xs ys (Expired ∷ []) over)
    | inr many ↦ inr (omega (arith, length-append xs ys, many))
  ]
  explains_after Stranger why = record { frame = why.frame; came = why.came; is = in_it why.frame why.is; last = ends_after xs ys (Came why.came ∷ []) why.last; no_reply = why.no_reply }
  explains_after Restarted why = record { known = why.known; came = why.came; is = why.is; last = ends_after xs ys (Sent why.known.request ∷ Came why.came ∷ []) why.last; other = why.other }
  explains_after (Refused refusal) why = record { frame = why.frame; is = in_more why.frame why.is; answered = answered_after known facts xs ys why.frame (replies.Refused refusal) why.answered; reason = why.reason }
  explains_after Busy why = absurd why

-- a refusal stays one, whatever comes later
pub explains_before : (known : KnownRequests) (Is : Frame → Type 0) (pieces : List Frame) (facts : List Fact) (xs ys : List Event) (fault : TransferFault) → is_refusal fault ≡ true → Explains fault known Is pieces facts xs → Explains fault known Is pieces facts (xs ++ ys)
explains_before known Is pieces facts xs ys (Refused refusal) refused why =
    record { frame = why.frame; is = why.is; answered = answered_before known facts xs ys why.frame (replies.Refused refusal) why.answered; reason = why.reason }
explains_before known Is pieces facts xs ys Memory refused why = tt
explains_before known Is pieces facts xs ys Broken refused why = absurd (false≢true refused)
explains_before known Is pieces facts xs ys Stranger refused why = absurd (false≢true refused)
explains_before known Is pieces facts xs ys Restarted refused why = absurd (false≢true refused)
explains_before known Is pieces facts xs ys Busy refused why = absurd (false≢true refused)

-- ---- on a connection

module _ {C : Type 0} (does : C → Event → C → Type 0) (known : KnownRequests) where
  abbrev pub goes_none : (Is : Frame → Type 0) (facts : List Fact) (old : C) → Goes does known Is facts old old
  goes_none Is facts old = record { events = []; happened = refl; only = tt }

  abbrev pub goes_one : (Is : Frame → Type 0) (facts : List Fact) (old new : C) (event : Event) → does old event new → MayHappen known Is facts event → Goes does known Is facts old new
  goes_one Is facts old new event happened may = record { events = event ∷ []; happened = over_one does old new event happened; only = (may, tt) }

  abbrev pub goes_on : (Is : Frame → Type 0) (facts : List Fact) (old now new : C) (first : Goes does known Is facts old now) → Goes does known Is (facts_after facts first.events) now new → Goes does known Is facts old new
  goes_on Is facts old now new first second = record {
    events = first.events ++ second.events;
    happened = over_more does old now new first.events second.events first.happened second.happened;
    only = only_append known Is facts first.events second.events first.only second.only;
  }

  abbrev pub goes_in : (Is Other : Frame → Type 0) (facts : List Fact) (old new : C) → ((frame : Frame) → Is frame → Other frame) → Goes does known Is facts old new → Goes does known Other facts old new
  goes_in Is Other facts old new in_it goes = record { events = goes.events; happened = goes.happened; only = only_in known Is Other in_it facts goes.events goes.only }

  abbrev pub moves_none : (Is : Frame → Type 0) (facts : List Fact) (stage : Stage) (waiting : List Frame) (old : C) → CountsOn stage known waiting facts → Moves does known Is facts stage waiting old old
  moves_none Is facts stage waiting old counts = record { goes = goes_none Is facts old; counts = counts }

  abbrev pub moves_one : (Is : Frame → Type 0) (facts : List Fact) (stage : Stage) (waiting : List Frame) (old new : C) (event : Event) → does old event new → MayHappen known Is facts event → CountsOn stage known waiting (facts_behind facts event) → Moves does known Is facts stage waiting old new
  moves_one Is facts stage waiting old new event happened may counts = record { goes = goes_one Is facts old new event happened may; counts = counts }

  abbrev pub moves_on : (Is : Frame → Type 0) (facts : List Fact) (stage : Stage) (waiting : List Frame) (old now new : C) (first : Goes does known Is facts old now) → Moves does known Is (facts_after facts first.events) stage waiting now new → Moves does known Is facts stage waiting old new
  moves_on Is facts stage waiting old now new first second = record {
    goes = goes_on Is facts old now new first second.goes;
    counts = subst (λ (l : List Fact). CountsOn stage known waiting l) (sym (facts_append facts first.events second.goes.events)) second.counts;
  }

  abbrev pub stops_on : (Is : Frame → Type 0) (fault : TransferFault) (facts : List Fact) (old now new : C) (first : Goes does known Is facts old now) → Stops does known Is [] fault (facts_after facts first.events) now new → Stops does known Is [] fault facts old new
  stops_on Is fault facts old now new first second = record {
    goes = goes_on Is facts old now new first second.goes;
    explained = explains_after known Is Is [] [] (λ frame is. is) (λ frame is. is) facts first.events second.goes.events fault second.explained;
  }
