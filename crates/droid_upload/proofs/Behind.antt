-- Parts of a run that follow others and end early.
use Rattle.std.proofs.Common.{◌≡◌, ◌⊎◌, ℕ, true, false, List, [], ◌∷◌, ◌++◌, refl, sym, ap, subst, ◌∙◌, append_assoc}
use Rattle.droid_frame.specs.declared.refusal.Refusal.{Refusal}
use Rattle.droid_frame.specs.declared.refusal.Refusal.TheVariants as refusals
use Rattle.droid_frame.specs.declared.reply.Reply.{Reply}
use Rattle.droid_frame.specs.declared.request.Request.{Request}
use Rattle.droid_tree.specs.Observation.{GoesOver}
use Rattle.droid_upload.specs.Calls.{Answered, Failed}
use Rattle.droid_upload.specs.Deeds.{Deed, Called}
use Rattle.droid_upload.specs.Faults.{IsAfterLastAttempt, IsAfterRead, MayBeOfOther, asks_for_more, fault_of_client, fault_of_refusal, fault_of_reply, goes_on}
use Rattle.droid_upload.specs.Fronts.{AsksInVain, Unsent, Unfit, Unanswered, EndsEarly}
use Rattle.droid_upload.specs.Steps.{IsBehind}
use Rattle.droid_upload.specs.declared.client_fault.ClientFault.{ClientFault}
use Rattle.droid_upload.specs.declared.client_fault.ClientFault.TheVariants as client_faults
use Rattle.droid_upload.specs.declared.submission_fault.SubmissionFault.{SubmissionFault}
use Rattle.droid_upload.specs.declared.submission_fault.SubmissionFault.TheVariants as faults
use Rattle.droid_upload.specs.declared.upload.Upload.{Upload}
use Rattle.droid_upload.proofs.Early.{answer_ends, just_ends, part_ends, vain_ends}

-- only a piece that was refused with NumberReused gives this fault
refusal_reused : (refusal : Refusal) → fault_of_refusal refusal ≡ faults.Refused refusals.NumberReused → refusal ≡ refusals.NumberReused
refusal_reused refusals.Memory is = cc
refusal_reused refusal is = cc

client_reused : (why : ClientFault) → fault_of_client why ≡ faults.Refused refusals.NumberReused → why ≡ client_faults.Piece refusals.NumberReused
client_reused (client_faults.Piece refusal) is = ap client_faults.Piece (refusal_reused refusal is)
client_reused client_faults.Ended is = cc

module _ {T C W : Type 0} (does : Upload T C W → Deed → Upload T C W → Type 0) where
  pub vain_reused : (attempt : ℕ) (request : Request) (fault : SubmissionFault) (old new : Upload T C W) → AsksInVain does attempt request fault old new → fault ≡ faults.Refused refusals.NumberReused
      → does old (Called (Failed attempt request (client_faults.Piece refusals.NumberReused))) new
  vain_reused attempt request fault old new (Unsent memory same) is = absurd cc
  vain_reused attempt request fault old new (Unfit long unfit same) is = absurd cc
  vain_reused attempt request fault old new (Unanswered why called gives) is =
      subst (λ (w : ClientFault). does old (Called (Failed attempt request w)) new) (client_reused why (sym gives ∙ is)) called

  -- the whole may be said otherwise
  pub whole_weaker : (Are These : List Deed → Type 0) (fault : SubmissionFault) (old new : Upload T C W) → ((whole : List Deed) → Are whole → These whole) → EndsEarly does Are fault old new → EndsEarly does These fault old new
  whole_weaker Are These fault old new weaker part = record {
    deeds = part.deeds;
    whole = part.whole;
    reached = part.reached;
    happened = part.happened;
    stands = part.stands;
    are = weaker part.whole part.are;
    front = part.front;
    explained = part.explained;
  }

  -- a part behind these deeds is part of a longer whole
  pub behind_ends : (Are Whole : List Deed → Type 0) (before : List Deed) (fault : SubmissionFault) (first new : Upload T C W) → EndsEarly does (IsBehind before Are) fault first new
      → ((tail : List Deed) → Are tail → (rest : List Deed) × Whole (before ++ (tail ++ rest))) → EndsEarly does Whole fault first new
  behind_ends Are Whole before fault first new part longer =
      part_ends does (IsBehind before Are) Whole fault [] first first new refl part
      (λ whole are.
      let more = longer are.0 are.1 in
      (more.0, subst Whole (sym (ap (λ (l : List Deed). l ++ more.0) are.2 ∙ append_assoc before are.0 more.0)) more.1))

  -- no reply to a request came
  pub vain_alone : (Whole : List Deed → Type 0) (attempt : ℕ) (request : Request) (expected : Reply) (rest : List Deed) (fault : SubmissionFault) (old new : Upload T C W) → AsksInVain does attempt request fault old new
      → (fault ≡ faults.Refused refusals.NumberReused → MayBeOfOther [] request) → Whole (Called (Answered attempt request expected) ∷ rest) → EndsEarly does Whole fault old new
  vain_alone Whole attempt request expected rest fault old new vain other are =
      just_ends does Whole fault (Called (Answered attempt request expected) ∷ []) rest old new (vain_ends does [] attempt request expected fault old old new refl vain other) are

  -- a reply came from which no run goes on
  pub answer_alone : (Whole : List Deed → Type 0) (attempt : ℕ) (request : Request) (expected : Reply) (rest : List Deed) (fault : SubmissionFault) (old new : Upload T C W) (reply : Reply)
      → does old (Called (Answered attempt request reply)) new → goes_on request reply ≡ false → (asks_for_more request reply ≡ true → ⊥) → fault ≡ fault_of_reply reply
      → Whole (Called (Answered attempt request expected) ∷ rest) → EndsEarly does Whole fault old new
  answer_alone Whole attempt request expected rest fault old new reply called ends again is are =
      just_ends does Whole fault (Called (Answered attempt request expected) ∷ []) rest old new (answer_ends does [] attempt request expected fault old old new reply refl called ends (λ more. absurd (again more)) is) are

  module _ (Are : List Deed → Type 0) (before : List Deed) (attempt : ℕ) (request : Request) (expected : Reply) (rest : List Deed) (fault : SubmissionFault) (first old new : Upload T C W) where
    pub vain_behind : GoesOver does first before old → AsksInVain does attempt request fault old new → (fault ≡ faults.Refused refusals.NumberReused → MayBeOfOther before request)
        → Are (Called (Answered attempt request expected) ∷ rest) → EndsEarly does (IsBehind before Are) fault first new
    vain_behind over vain other are =
        just_ends does (IsBehind before Are) fault (before ++ Called (Answered attempt request expected) ∷ []) rest first new (vain_ends does before attempt request expected fault first old new over vain other)
        (Called (Answered attempt request expected) ∷ rest, are, append_assoc before (Called (Answered attempt request expected) ∷ []) rest)

    pub answer_behind : (reply : Reply) → GoesOver does first before old → does old (Called (Answered attempt request reply)) new → goes_on request reply ≡ false
        → (asks_for_more request reply ≡ true → IsAfterRead before ⊎ IsAfterLastAttempt before) → fault ≡ fault_of_reply reply
        → Are (Called (Answered attempt request expected) ∷ rest) → EndsEarly does (IsBehind before Are) fault first new
    answer_behind reply over called ends again is are =
        just_ends does (IsBehind before Are) fault (before ++ Called (Answered attempt request expected) ∷ []) rest first new (answer_ends does before attempt request expected fault first old new reply over called ends again is)
        (Called (Answered attempt request expected) ∷ rest, are, append_assoc before (Called (Answered attempt request expected) ∷ []) rest)
