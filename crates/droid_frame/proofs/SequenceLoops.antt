-- So many of one field, as a loop goes over them.
use Rattle.std.proofs.Common.{◌≡◌, ℕ, suc, ◌-◌, ◌+◌, ◌≤◌, ◌<◌, List, [], ◌∷◌, ◌++◌, Option, Some, None, refl, sym, ap, ◌∙◌, append_assoc, arith}
use Rattle.std.specs.Option.{option_map}
use Rattle.std.proofs.lemmas.List.{append-nil}
use Rattle.droid_frame.specs.declared.body_fault.BodyFault.{BodyFault}
use Rattle.droid_frame.specs.declared.body_fault.BodyFault.TheVariants.{Malformed, Memory}
use Rattle.droid_frame.specs.Outcomes.{Fails}
use Rattle.droid_frame.specs.Reading.{◌>>=◌}
use Rattle.droid_frame.specs.SequenceFields.{sequence_at}

-- the bytes after what is read
abbrev pub rest_of : {A : Type 0} → Option (A × List ℕ) → Option (List ℕ)
rest_of read = option_map (λ x. x.1) read

-- what was read before, and what is still read
abbrev pub with_front : {A : Type 0} → List A → Option (List A × List ℕ) → Option (List A × List ℕ)
with_front front read = read >>= λ x. Some (front ++ x.0, x.1)

regroup : {A : Type 0} (front : List A) (value : A) (read : Option (List A × List ℕ)) → with_front front (read >>= λ x. Some (value ∷ x.0, x.1)) ≡ with_front (front ++ value ∷ []) read
regroup {A} front value (Some x) = ap (λ (values : List A). Some (values, x.1)) (simp append_assoc)
regroup front value None = refl

pub goes_on : {A : Type 0} (at : List ℕ → Option (A × List ℕ)) (front : List A) (count i : ℕ) (bytes : List ℕ) (value : A) (after : List ℕ) (total : Option (List A × List ℕ)) → i < count → at bytes ≡ Some (value, after)
    → with_front front (sequence_at at (count - i) bytes) ≡ total → with_front (front ++ value ∷ []) (sequence_at at (count - (i + 1)) after) ≡ total
unfolding sequence_at
goes_on at front count i bytes value after total lt h so_far =
    let k : count - i ≡ suc (count - (i + 1)) = omega arith in
    let one : with_front front (sequence_at at (count - i) bytes) ≡ with_front (front ++ value ∷ []) (sequence_at at (count - (i + 1)) after) = rw (k, h) (regroup front value (sequence_at at (count - (i + 1)) after)) in
    sym one ∙ so_far

pub ends : {A : Type 0} (at : List ℕ → Option (A × List ℕ)) (fault : BodyFault) (front : List A) (count i : ℕ) (bytes : List ℕ) (total : Option (List A × List ℕ)) → i < count → Fails fault (at bytes)
    → with_front front (sequence_at at (count - i) bytes) ≡ total → Fails fault total
unfolding sequence_at
ends at Memory front count i bytes total lt h so_far = tt
ends at Malformed front count i bytes total lt h so_far =
    let k : count - i ≡ suc (count - (i + 1)) = omega arith in
    let one : with_front front (sequence_at at (count - i) bytes) ≡ None = rw (k, h) refl in
    sym so_far ∙ one

pub is_done : {A : Type 0} (at : List ℕ → Option (A × List ℕ)) (front : List A) (count i : ℕ) (bytes : List ℕ) (total : Option (List A × List ℕ)) → count ≤ i
    → with_front front (sequence_at at (count - i) bytes) ≡ total → total ≡ Some (front, bytes)
unfolding sequence_at
is_done {A} at front count i bytes total le so_far =
    let k : count - i ≡ 0 = omega arith in
    let one : with_front front (sequence_at at (count - i) bytes) ≡ Some (front, bytes) = rw k (ap (λ (values : List A). Some (values, bytes)) (append-nil front)) in
    sym so_far ∙ one

-- ---- where only the bytes after them count

rest_of-cons : {A : Type 0} (value : A) (read : Option (List A × List ℕ)) → rest_of (read >>= λ x. Some (value ∷ x.0, x.1)) ≡ rest_of read
rest_of-cons value (Some x) = refl
rest_of-cons value None = refl

-- the rest of one is the rest that all the others begin with
rest_of-step : {A : Type 0} (at : List ℕ → Option (A × List ℕ)) (read : Option (A × List ℕ)) (count : ℕ) (after : List ℕ) → rest_of read ≡ Some after
    → rest_of (read >>= λ v. sequence_at at count v.1 >>= λ vs. Some (v.0 ∷ vs.0, vs.1)) ≡ rest_of (sequence_at at count after)
rest_of-step at None count after e = absurd cc
rest_of-step at (Some v) count after e =
    let same : v.1 ≡ after = cc in
    rw (← same) (rest_of-cons v.0 (sequence_at at count v.1))

rest_of-none : {A B : Type 0} (read : Option (A × List ℕ)) (next : A × List ℕ → Option (B × List ℕ)) → rest_of read ≡ None → rest_of (read >>= next) ≡ None
rest_of-none None next e = refl
rest_of-none (Some v) next e = absurd cc

pub rest_goes_on : {A : Type 0} (at : List ℕ → Option (A × List ℕ)) (count i : ℕ) (bytes after : List ℕ) (total : Option (List ℕ)) → i < count → rest_of (at bytes) ≡ Some after
    → rest_of (sequence_at at (count - i) bytes) ≡ total → rest_of (sequence_at at (count - (i + 1)) after) ≡ total
unfolding sequence_at
rest_goes_on at count i bytes after total lt h so_far =
    let k : count - i ≡ suc (count - (i + 1)) = omega arith in
    let one : rest_of (sequence_at at (count - i) bytes) ≡ rest_of (sequence_at at (count - (i + 1)) after) = rw k (rest_of-step at (at bytes) (count - (i + 1)) after h) in
    sym one ∙ so_far

pub rest_ends : {A : Type 0} (at : List ℕ → Option (A × List ℕ)) (count i : ℕ) (bytes : List ℕ) (total : Option (List ℕ)) → i < count → rest_of (at bytes) ≡ None
    → rest_of (sequence_at at (count - i) bytes) ≡ total → total ≡ None
unfolding sequence_at
rest_ends at count i bytes total lt h so_far =
    let k : count - i ≡ suc (count - (i + 1)) = omega arith in
    let one : rest_of (sequence_at at (count - i) bytes) ≡ None = rw k (rest_of-none (at bytes) (λ v. sequence_at at (count - (i + 1)) v.1 >>= λ vs. Some (v.0 ∷ vs.0, vs.1)) h) in
    sym so_far ∙ one

pub rest_is_done : {A : Type 0} (at : List ℕ → Option (A × List ℕ)) (count i : ℕ) (bytes : List ℕ) (total : Option (List ℕ)) → count ≤ i
    → rest_of (sequence_at at (count - i) bytes) ≡ total → total ≡ Some bytes
unfolding sequence_at
rest_is_done at count i bytes total le so_far =
    let k : count - i ≡ 0 = omega arith in
    let one : rest_of (sequence_at at (count - i) bytes) ≡ Some bytes = rw k refl in
    sym so_far ∙ one
