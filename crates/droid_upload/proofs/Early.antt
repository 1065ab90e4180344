-- Runs that ended early, in the middle of longer ones.
use Rattle.std.proofs.Common.{◌≡◌, ◌⊎◌, inl, inr, ℕ, ◌+◌, arith, true, false, List, [], ◌∷◌, ◌++◌, refl, sym, ap, subst, ◌∙◌, append_assoc}
use Rattle.std.specs.Prelude.{cond, count_by}
use Rattle.std.proofs.lemmas.List.Sums.{sum_by-append}
use Rattle.droid_frame.specs.declared.refusal.Refusal.TheVariants as refusals
use Rattle.droid_frame.specs.declared.reply.Reply.{Reply}
use Rattle.droid_frame.specs.declared.request.Request.{Request}
use Rattle.droid_frame.specs.declared.request.Request.TheVariants.{CreateProfile, AddFolder, AddFile, Piece, Finish, Abandon, Status, Export}
use Rattle.droid_tree.specs.Observation.{GoesOver}
use Rattle.droid_upload.specs.Calls.{Call, Answered, Failed, Sent}
use Rattle.droid_upload.specs.Deeds.{Deed, Called}
use Rattle.droid_upload.specs.Faults.{IsAfterCall, IsAfterLastAttempt, IsAfterRead, IsEnd, MayBeOfOther, asks_for_more, fault_of_client, fault_of_reply, goes_on}
use Rattle.droid_upload.specs.Fronts.{AreJust, AsksInVain, Unsent, Unfit, Unanswered, EndsEarly, Explains, NoMemory, Long, ManyFolders, ByCall, IsFront, Front, Last, Stands, is_listing}
use Rattle.droid_upload.specs.declared.submission_fault.SubmissionFault.{SubmissionFault}
use Rattle.droid_upload.specs.declared.submission_fault.SubmissionFault.TheVariants as faults
use Rattle.droid_upload.specs.declared.upload.Upload.{Upload}

-- ---- steps after steps

pub over_one : {S A : Type 0} (step : S → A → S → Type 0) (first last : S) (item : A) → step first item last → GoesOver step first (item ∷ []) last
over_one step first last item does = (last, does, refl)

pub over_more : {S A : Type 0} (step : S → A → S → Type 0) (first middle last : S) (xs ys : List A) → GoesOver step first xs middle → GoesOver step middle ys last → GoesOver step first (xs ++ ys) last
over_more {S} {A} step first middle last [] ys p q = subst (λ (s : S). GoesOver step s ys last) p q
over_more {S} {A} step first middle last (x ∷ xs) ys p q = (p.0, p.1, over_more step p.0 middle last xs ys p.2 q)

-- ---- a part of a longer run

front_within : (done deeds whole rest : List Deed) → IsFront deeds whole → IsFront (done ++ deeds) (done ++ (whole ++ rest))
front_within done deeds whole rest (Front more is) = Front (more ++ rest) (rw is (simp append_assoc))
front_within done deeds whole rest (Last front more expected call same is last) = Last (done ++ front) (more ++ rest) expected call same (rw is (simp append_assoc)) (rw last (simp append_assoc))

read_within : (done before : List Deed) → IsAfterRead before → IsAfterRead (done ++ before)
read_within done before after = (done ++ after.0, after.1, let is = after.2 in rw is (simp append_assoc))

call_within : (done before : List Deed) → IsAfterCall before → IsAfterCall (done ++ before)
call_within done before after = (done ++ after.0, after.1, let is = after.2 in rw is (simp append_assoc))

last_within : (done before : List Deed) → IsAfterLastAttempt before → IsAfterLastAttempt (done ++ before)
last_within done before after = (done ++ after.0, after.1, after.2, let is = after.3 in rw is (simp append_assoc))

either_within : (done before : List Deed) → IsAfterRead before ⊎ IsAfterLastAttempt before → IsAfterRead (done ++ before) ⊎ IsAfterLastAttempt (done ++ before)
either_within done before (inl after) = inl (read_within done before after)
either_within done before (inr after) = inr (last_within done before after)

other_within : (done before : List Deed) (request : Request) → MayBeOfOther before request → MayBeOfOther (done ++ before) request
other_within done before (CreateProfile scan_limit match_all hash) may = tt
other_within done before (AddFolder profile parent modified name) may = tt
other_within done before (AddFile profile parent modified size piece_size name) may = tt
other_within done before (Piece profile file index bytes) may = absurd may
other_within done before (Finish profile file) may = call_within done before may
other_within done before (Abandon profile file) may = call_within done before may
other_within done before (Status profile file) may = tt
other_within done before (Export profile from max filter) may = tt

end_within : (done before : List Deed) (call : Call) → IsEnd before call → IsEnd (done ++ before) call
end_within done before (Answered attempt request reply) is_end = (is_end.0, λ more. either_within done before (is_end.1 more))
end_within done before (Sent request) is_end = absurd is_end
end_within done before (Failed attempt request fault) is_end = λ reused. other_within done before request (is_end reused)

explained_within : (fault : SubmissionFault) (done deeds whole rest : List Deed) → Explains fault deeds whole → Explains fault (done ++ deeds) (done ++ (whole ++ rest))
explained_within fault done deeds whole rest (NoMemory is) = NoMemory is
explained_within fault done deeds whole rest (Long call more is cut unfit) = Long call (more ++ rest) is (rw cut (simp append_assoc)) unfit
explained_within fault done deeds whole rest (ManyFolders is many) =
    let counted : count_by is_listing (done ++ deeds) ≡ count_by is_listing done + count_by is_listing deeds = sum_by-append (λ (deed : Deed). cond (is_listing deed) 1 0) done deeds in
    ManyFolders is (omega (arith, many, counted))
explained_within fault done deeds whole rest (ByCall before call cut is_end is) = ByCall (done ++ before) call (rw cut (simp append_assoc)) (end_within done before call is_end) is

module _ {T C W : Type 0} (does : Upload T C W → Deed → Upload T C W → Type 0) where
  -- a part ended early, after these deeds; what it was to do is part of a longer whole
  pub part_ends : (Part Whole : List Deed → Type 0) (fault : SubmissionFault) (done : List Deed) (old middle new : Upload T C W) → GoesOver does old done middle → EndsEarly does Part fault middle new
      → ((whole : List Deed) → Part whole → (rest : List Deed) × Whole (done ++ (whole ++ rest))) → EndsEarly does Whole fault old new
  part_ends Part Whole fault done old middle new over part longer =
      let more = longer part.whole part.are in
      record {
        deeds = done ++ part.deeds;
        whole = done ++ (part.whole ++ more.0);
        reached = part.reached;
        happened = over_more does old middle part.reached done part.deeds over part.happened;
        stands = part.stands;
        are = more.1;
        front = front_within done part.deeds part.whole more.0 part.front;
        explained = explained_within fault done part.deeds part.whole more.0 part.explained;
      }

  -- the part was to do exactly these deeds
  pub just_ends : (Whole : List Deed → Type 0) (fault : SubmissionFault) (deeds rest : List Deed) (old new : Upload T C W) → EndsEarly does (AreJust deeds) fault old new → Whole (deeds ++ rest) → EndsEarly does Whole fault old new
  just_ends Whole fault deeds rest old new part are = part_ends (AreJust deeds) Whole fault [] old old new refl part (λ whole is. (rest, subst (λ (l : List Deed). Whole (l ++ rest)) (sym is) are))

  -- memory ran out after these deeds
  pub memory_ends : (Whole : List Deed → Type 0) (fault : SubmissionFault) (done rest : List Deed) (old middle new : Upload T C W) → fault ≡ faults.Memory → GoesOver does old done middle → Stands fault middle new
      → Whole (done ++ rest) → EndsEarly does Whole fault old new
  memory_ends Whole fault done rest old middle new memory over stands are =
      record { deeds = done; whole = done ++ rest; reached = middle; happened = over; stands = stands; are = are; front = Front rest refl; explained = NoMemory memory }

  module _ (before : List Deed) (attempt : ℕ) (request : Request) (expected : Reply) (fault : SubmissionFault) (old middle new : Upload T C W) where
    -- no reply to the request behind these deeds came
    pub vain_ends : GoesOver does old before middle → AsksInVain does attempt request fault middle new → (fault ≡ faults.Refused refusals.NumberReused → MayBeOfOther before request)
        → EndsEarly does (AreJust (before ++ Called (Answered attempt request expected) ∷ [])) fault old new
    vain_ends over (Unsent is same) other = record {
      deeds = before;
      whole = before ++ Called (Answered attempt request expected) ∷ [];
      reached = middle;
      happened = over;
      stands = inl same;
      are = refl;
      front = Front (Called (Answered attempt request expected) ∷ []) refl;
      explained = NoMemory is;
    }
    vain_ends over (Unfit is unfit same) other = record {
      deeds = before;
      whole = before ++ Called (Answered attempt request expected) ∷ [];
      reached = middle;
      happened = over;
      stands = inl same;
      are = refl;
      front = Front (Called (Answered attempt request expected) ∷ []) refl;
      explained = Long (Answered attempt request expected) [] is refl unfit;
    }
    vain_ends over (Unanswered why called is) other = record {
      deeds = before ++ Called (Failed attempt request why) ∷ [];
      whole = before ++ Called (Answered attempt request expected) ∷ [];
      reached = new;
      happened = over_more does old middle new before (Called (Failed attempt request why) ∷ []) over (over_one does middle new (Called (Failed attempt request why)) called);
      stands = inl refl;
      are = refl;
      front = Last before [] (Answered attempt request expected) (Failed attempt request why) (record { request = refl; attempt = refl }) refl refl;
      explained = ByCall before (Failed attempt request why) refl (λ reused. other (is ∙ ap fault_of_client reused)) is;
    }

    -- a reply to the request behind these deeds came, from which no run goes on
    pub answer_ends : (reply : Reply) → GoesOver does old before middle → does middle (Called (Answered attempt request reply)) new → goes_on request reply ≡ false
        → (asks_for_more request reply ≡ true → IsAfterRead before ⊎ IsAfterLastAttempt before) → fault ≡ fault_of_reply reply → EndsEarly does (AreJust (before ++ Called (Answered attempt request expected) ∷ [])) fault old new
    answer_ends reply over called ends again is = record {
      deeds = before ++ Called (Answered attempt request reply) ∷ [];
      whole = before ++ Called (Answered attempt request expected) ∷ [];
      reached = new;
      happened = over_more does old middle new before (Called (Answered attempt request reply) ∷ []) over (over_one does middle new (Called (Answered attempt request reply)) called);
      stands = inl refl;
      are = refl;
      front = Last before [] (Answered attempt request expected) (Answered attempt request reply) (record { request = refl; attempt = refl }) refl refl;
      explained = ByCall before (Answered attempt request reply) refl (ends, again) is;
    }
