-- What a Finished's body is answered, step by step.
use Rattle.std.proofs.Common.{◌≡◌, ℕ, List, [], ◌∷◌, Option, Some, None, refl, sym, ap, ◌∙◌}
use Rattle.std.specs.Prelude.{IsSome}
use Rattle.std.specs.Option.{option_map}
use Rattle.droid_frame.specs.declared.reading.replies.finished.FinishedHead.{FinishedHead}
use Rattle.droid_frame.specs.declared.body_fault.BodyFault.{BodyFault}
use Rattle.droid_frame.specs.declared.body_fault.BodyFault.TheVariants.{Malformed, Memory}
use Rattle.droid_frame.specs.Limits.{puid_limit}
use Rattle.droid_frame.specs.declared.reply.Reply.{Reply}
use Rattle.droid_frame.specs.declared.reply.Reply.TheVariants.{Finished}
use Rattle.droid_frame.specs.Outcomes.{Fails}
use Rattle.droid_frame.specs.Reading.{◌>>=◌, whole}
use Rattle.droid_frame.specs.ReplySteps.{ArePuids, IsFaultOf}
use Rattle.droid_frame.specs.ReplyValues.{finished_head_at, finished_value}
use Rattle.droid_frame.specs.TextListFields.{texts_at}
use Rattle.droid_frame.proofs.FieldLaws.{some_is}

-- a field that takes all the bytes, where it takes them all
whole_some : {A B : Type 0} (o : Option (A × List ℕ)) (make : A → B) → option_map (λ x. x.1) o ≡ Some [] → (value : A) × (o ≡ Some (value, [])) × ((o >>= λ x. whole x.1 (make x.0)) ≡ Some (make value))
unfolding whole
whole_some None make all = absurd cc
whole_some (Some (value, [])) make all = (value, refl, refl)
whole_some (Some (value, b ∷ rest)) make all = absurd cc

whole_none : {A B : Type 0} (o : Option (A × List ℕ)) (make : A → B) → (option_map (λ x. x.1) o ≡ Some [] → ⊥) → (o >>= λ x. whole x.1 (make x.0)) ≡ None
unfolding whole
whole_none None make not_all = refl
whole_none (Some (value, [])) make not_all = absurd (not_all refl)
whole_none (Some (value, b ∷ rest)) make not_all = refl

pub no_head : (version : ℕ) (body : List ℕ) → finished_head_at version body ≡ None → finished_value version body ≡ None
unfolding finished_value
no_head version body none = rw none refl

-- the head was read, and these bytes follow it
pub record HasHead (version : ℕ) (body : List ℕ) (head : FinishedHead) (rest : List ℕ) : Type 0 where
  pub head_is : finished_head_at version body ≡ Some (head, rest)

abbrev made_of : FinishedHead → List (List ℕ) → Reply
made_of head puids = Finished head.method head.mismatch head.hash puids

pub no_puids : (version : ℕ) (body : List ℕ) (head : FinishedHead) (rest : List ℕ) → HasHead version body head rest → (ArePuids head.count rest → ⊥) → finished_value version body ≡ None
unfolding finished_value
no_puids version body head rest has not_all =
    rw has.head_is (whole_none (texts_at head.count 1 puid_limit rest) (made_of head) not_all)

puids_are : (version : ℕ) (body : List ℕ) (head : FinishedHead) (rest : List ℕ) → HasHead version body head rest → ArePuids head.count rest → (puids : List (List ℕ)) × (texts_at head.count 1 puid_limit rest ≡ Some (puids, [])) × (finished_value version body ≡ Some (made_of head puids))
unfolding finished_value
puids_are version body head rest has all =
    let some = whole_some (texts_at head.count 1 puid_limit rest) (made_of head) all in
    (some.0, some.1, rw has.head_is some.2)

pub is_finished : (version : ℕ) (body : List ℕ) (head : FinishedHead) (rest : List ℕ) (puids : List (List ℕ)) (after : List ℕ) → HasHead version body head rest → ArePuids head.count rest → texts_at head.count 1 puid_limit rest ≡ Some (puids, after) → finished_value version body ≡ Some (made_of head puids)
is_finished version body head rest puids after has all read =
    let some = puids_are version body head rest has all in
    let same : some.0 ≡ puids = ap (λ (x : List (List ℕ) × List ℕ). x.0) (some_is (some.0, []) (puids, after) (sym some.1 ∙ read)) in
    some.2 ∙ ap (λ (p : List (List ℕ)). Some (made_of head p)) same

is_some_at : (value : Option Reply) (reply : Reply) → value ≡ Some reply → IsSome value
is_some_at value reply e = rw e refl

pub fault_is : (version : ℕ) (body : List ℕ) (head : FinishedHead) (rest : List ℕ) (fault : BodyFault) → HasHead version body head rest → ArePuids head.count rest → Fails fault (texts_at head.count 1 puid_limit rest) → IsFaultOf 132 (finished_value version body) fault
fault_is version body head rest Malformed has all read =
    let some = puids_are version body head rest has all in
    absurd (let both = sym some.1 ∙ read in cc)
fault_is version body head rest Memory has all read =
    let some = puids_are version body head rest has all in
    (refl, is_some_at (finished_value version body) (made_of head some.0) some.2)
