-- Which frames in flight count as written, and what they count on.
use Rattle.std.proofs.Common.{◌≡◌, ◌<◌, ◌==◌, ℕ, suc, zero, ◌+◌, Bool, true, false, cond, List, [], ◌∷◌, ◌++◌, Contains, take, drop, length, get_or, Some, inl, inr, refl, sym, ap, subst, ◌∙◌, add-one, arith}
use Rattle.std.proofs.lemmas.List.{take_more, take-append-drop}
use Rattle.std.proofs.lemmas.List.Elements.{Contains-append_left, Contains-append_right, Contains-push, Contains-push_cases}
use Rattle.droid_frame.specs.declared.frame.Frame.{Frame}
use Rattle.droid_frame.specs.declared.reply.Reply.{Reply}
use Rattle.droid_frame.specs.declared.reply.Reply.TheVariants.{Made, Node, Taken, Finished, Abandoned, Progress, Part, Refused}
use Rattle.droid_remote.specs.Events.{Fact, Written, Received}
use Rattle.droid_remote.specs.Stages.{AreIn, CountsOn, HasFirst, counted}
use Rattle.droid_remote.specs.Vouching.{IsRepeated, IsVouched, adds_newest, remember_as}
use Rattle.droid_remote.specs.declared.transfer.connection_steps.Stage.TheVariants.{Nowhere, First, Answered, All}
use Rattle.droid_remote.specs.declared.transfer.known_requests.Known.{Known}
use Rattle.droid_remote.specs.declared.transfer.known_requests.KnownRequests.{KnownRequests}
use Rattle.droid_remote.proofs.Going.{nothing_in}

first_in : (first : Frame) (more : List Frame) → Contains (first ∷ more) first
first_in first more = (0, omega arith, refl)

pub first_first : (waiting : List Frame) → HasFirst First waiting
first_first waiting stands first more is = subst (λ (l : List Frame). Contains (take 1 l) first) (sym is) (first_in first [])

pub first_all : (waiting : List Frame) → HasFirst All waiting
first_all waiting stands first more is = subst (λ (l : List Frame). Contains l first) (sym is) (first_in first more)

-- the first of them was written
pub only_first : (waiting : List Frame) (frame : Frame) → frame ≡ get_or waiting 0 frame → AreIn (take 1 waiting) (frame ∷ [])
only_first [] frame is other there = absurd (omega (arith, there.1))
only_first (first ∷ more) frame is other there = subst (λ (f : Frame). Contains (f ∷ []) other) (sym is) there

-- one more of them was written
pub one_more : (waiting : List Frame) (place : ℕ) (frame : Frame) → place < length waiting → frame ≡ get_or waiting place frame → AreIn (take (place + 1) waiting) (take place waiting ++ frame ∷ [])
one_more waiting place frame below is other there =
    subst (λ (l : List Frame). Contains l other) (take_more waiting place frame below ∙ ap (λ (f : Frame). take place waiting ++ f ∷ []) (sym is)) there

-- a frame that was looked up in a list is in it
pub among : (frames : List Frame) (place count : ℕ) (frame : Frame) → count ≡ length frames → place < count → frame ≡ get_or frames place frame → Contains frames frame
among frames place count frame counted below is = (place, omega (arith, counted, below), sym is)

-- ---- fronts and rests

take_next : {A : Type 0} (count : ℕ) (xs : List A) → take count xs ++ take 1 (drop count xs) ≡ take (suc count) xs
take_next zero [] = refl
take_next zero (x ∷ xs) = refl
take_next (suc count) [] = refl
take_next {A} (suc count) (x ∷ xs) = ap (λ (l : List A). x ∷ l) (take_next count xs)

pub take_on : {A : Type 0} (count : ℕ) (xs : List A) → take count xs ++ take 1 (drop count xs) ≡ take (count + 1) xs
take_on count xs = rw add-one (take_next count xs)

pub in_rest : (count : ℕ) (xs : List Frame) → AreIn (drop count xs) xs
in_rest count xs frame there = subst (λ (l : List Frame). Contains l frame) (take-append-drop count xs) (Contains-append_right (take count xs) (drop count xs) frame there)

pub in_front : (count : ℕ) (xs : List Frame) → AreIn (take count xs) xs
in_front count xs frame there = subst (λ (l : List Frame). Contains l frame) (take-append-drop count xs) (Contains-append_left (take count xs) (drop count xs) frame there)

-- ---- what is counted on

pub none_in : (all : List Frame) → AreIn [] all
none_in all frame there = absurd (nothing_in [] frame refl there)

module _ (known : KnownRequests) where
  pub vouched_more : (facts : List Fact) (fact : Fact) → IsVouched known facts → IsVouched known (facts ++ fact ∷ [])
  vouched_more facts fact vouched one is = record {
    written = Contains-append_left facts (fact ∷ []) (Written one.request) (vouched one is).written;
    received = Contains-append_left facts (fact ∷ []) (Received one.reply) (vouched one is).received;
  }

  pub counts_nowhere : (waiting : List Frame) (facts : List Fact) → CountsOn Nowhere known waiting facts
  counts_nowhere waiting facts = record { written = λ frame there. absurd (nothing_in [] frame refl there); vouched = λ stands. absurd stands }

  pub counts_answered : (waiting : List Frame) (facts : List Fact) → IsVouched known facts → CountsOn Answered known waiting facts
  counts_answered waiting facts vouched = record { written = λ frame there. absurd (nothing_in [] frame refl there); vouched = λ stands. vouched }

  pub counts_none : (facts : List Fact) → IsVouched known facts → CountsOn All known [] facts
  counts_none facts vouched = record { written = λ frame there. absurd (nothing_in [] frame refl there); vouched = λ stands. vouched }

  -- one frame more was written
  pub counts_sent : (waiting : List Frame) (frame : Frame) (facts : List Fact) → CountsOn All known waiting facts → CountsOn All known (waiting ++ frame ∷ []) (facts ++ Written frame ∷ [])
  counts_sent waiting frame facts counts = record {
    written = λ other there. elim (Contains-push_cases waiting frame other there) [
      | inl before ↦ Contains-append_left facts (Written frame ∷ []) (Written other) (counts.written other before)
      | inr same ↦ subst (λ (f : Frame). Contains (facts ++ Written frame ∷ []) (Written f)) same (Contains-push facts (Written frame))
    ];
    vouched = λ stands. vouched_more facts (Written frame) (counts.vouched tt);
  }

  pub counts_fewer : (fewer waiting : List Frame) (facts : List Fact) → AreIn fewer waiting → CountsOn All known waiting facts → CountsOn All known fewer facts
  counts_fewer fewer waiting facts are counts = record { written = λ frame there. counts.written frame (are frame there); vouched = counts.vouched }

  -- the first frame was written
  pub counts_first : (waiting : List Frame) (frame : Frame) (facts : List Fact) → frame ≡ get_or waiting 0 frame → IsVouched known facts → CountsOn First known waiting (facts ++ Written frame ∷ [])
  counts_first waiting frame facts is vouched =
      let all : CountsOn All known (frame ∷ []) (facts ++ Written frame ∷ []) = counts_sent [] frame facts (counts_none facts vouched) in
      record { written = λ other there. all.written other (only_first waiting frame is other there); vouched = all.vouched }

  -- a frame that is appended to others is not the first
  pub counts_behind : (waiting more : List Frame) (facts : List Fact) → (waiting ≡ [] → ⊥) → CountsOn First known waiting facts → CountsOn First known (waiting ++ more) facts
  counts_behind [] more facts some counts = absurd (some refl)
  counts_behind (first ∷ waiting) more facts some counts = record { written = counts.written; vouched = counts.vouched }

  -- ---- what becomes known

  vouched_profile : (facts : List Fact) (answer : Known) (is : Bool) → IsVouched known facts → IsRepeated facts answer
      → IsVouched (cond is (record { profile = Some answer; change = known.change; newest = known.newest }) known) facts
  vouched_profile facts answer false vouched repeated one is = vouched one is
  vouched_profile facts answer true vouched repeated one (inl is) = subst (λ (k : Known). IsRepeated facts k) (cc) repeated
  vouched_profile facts answer true vouched repeated one (inr is) = vouched one (inr is)

  vouched_change : (facts : List Fact) (answer : Known) (newest : ℕ) (is : Bool) → IsVouched known facts → IsRepeated facts answer
      → IsVouched (cond is (record { profile = known.profile; change = Some answer; newest = newest }) known) facts
  vouched_change facts answer newest false vouched repeated one is = vouched one is
  vouched_change facts answer newest true vouched repeated one (inl is) = vouched one (inl is)
  vouched_change facts answer newest true vouched repeated one (inr is) = subst (λ (k : Known). IsRepeated facts k) (cc) repeated

  pub vouched_known : (facts : List Fact) (answer : Known) (reply : Reply) → IsVouched known facts → IsRepeated facts answer → IsVouched (remember_as known answer reply) facts
  vouched_known facts answer (Made profile) vouched repeated = vouched_profile facts answer _ vouched repeated
  vouched_known facts answer (Node number) vouched repeated = vouched_change facts answer number (adds_newest answer.request.kind number known.newest) vouched repeated
  vouched_known facts answer (Taken held) vouched repeated = vouched
  vouched_known facts answer (Finished method mismatch hash puids) vouched repeated = vouched_change facts answer known.newest (answer.request.kind == 5) vouched repeated
  vouched_known facts answer Abandoned vouched repeated = vouched_change facts answer known.newest (answer.request.kind == 6) vouched repeated
  vouched_known facts answer (Progress held missing) vouched repeated = vouched
  vouched_known facts answer (Part as_of total bytes) vouched repeated = vouched
  vouched_known facts answer (Refused refusal) vouched repeated = vouched
