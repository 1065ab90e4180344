-- What a writer holds after the parts of a frame so far.
use Rattle.std.proofs.Common.{◌≡◌, ℕ, ◌+◌, ◌-◌, List, [], ◌++◌, length, take, Option, Result, Ok, Err, OnOk, IfErr, sym, ap, subst, ◌∙◌, arith}
use Rattle.std.specs.Prelude.{IsErrAnd}
use Rattle.std.specs.Io.KnownBytes.{Appends}
use Rattle.std.proofs.KnownBytes.{Appends-nil, Appends-trans}
use Rattle.std.proofs.Math.Seq.{take-append-add}
use Rattle.std.proofs.lemmas.List.{take-append-le, length-append}
use Rattle.droid_frame.specs.StreamWrites.{Stops}
use Rattle.droid_frame.specs.Writes.{StopsWithin}

-- ---- the parts of a frame, one after the other

-- since the start the known bytes grew by `front`, which has `written` bytes
pub record Sent (start now : Option (List ℕ)) (front : List ℕ) (written : ℕ) : Type 0 where
  pub counted : written ≡ length front
  pub appended : Appends start now front

pub sent_nothing : (start : Option (List ℕ)) (written : ℕ) → written ≡ 0 → Sent start start [] written
sent_nothing start written none = record { counted = none; appended = Appends-nil start }

-- after one part more
pub sent_more : (start mid now : Option (List ℕ)) (front part : List ℕ) (before after : ℕ)
    → Sent start mid front before → Appends mid now part → after ≡ before + length part → Sent start now (front ++ part) after
sent_more start mid now front part before after sent more counts = record {
  counted = omega (arith, counts, sent.counted, length-append front part);
  appended = Appends-trans start mid now front part sent.appended more;
}

-- where a write stopped within a part, whatever was to follow it
pub stops_after : (start mid now : Option (List ℕ)) (front part rest all : List ℕ) (before count : ℕ)
    → Sent start mid front before → StopsWithin mid now part before count → all ≡ front ++ (part ++ rest) → Stops start now all count
stops_after start mid now front part rest all before count sent stops is_all =
    let more = count - before in
    let place : count ≡ length front + more = omega (arith, sent.counted, stops.counts_on) in
    let first : take count all ≡ front ++ take more part =
    ap (take count) is_all ∙ (ap (λ (n : ℕ). take n (front ++ (part ++ rest))) place ∙ (take-append-add front (part ++ rest) more ∙ ap (λ (l : List ℕ). front ++ l) (take-append-le more part rest (omega (arith, stops.some_left))))) in
    record {
      some_left = rw is_all (omega (arith, place, stops.some_left, length-append front (part ++ rest), length-append part rest));
      front = rw first (Appends-trans start mid now front (take more part) sent.appended stops.front);
    }

-- ---- what follows where a call succeeded, and where it failed

pub on_ok : {T E : Type 0} (r : Result T E) (P Q : Type 0) → (P → Q) → OnOk r P → OnOk r Q
on_ok (Ok x) P Q f p = f p
on_ok (Err e) P Q f p = tt

pub if_err : {T E : Type 0} (r : Result T E) (P Q : E → Type 0) → ((e : E) → P e → Q e) → IfErr r P → IfErr r Q
if_err (Ok x) P Q f p = tt
if_err (Err e) P Q f p = f e p

-- a fault that `?` passes on
pub passed_on : {T E : Type 0} (r : Result T E) (fault : E) (P : E → Type 0) → IsErrAnd r (λ e. e ≡ fault) → P fault → IfErr r P
passed_on (Ok x) fault P is p = tt
passed_on (Err e) fault P is p = subst P (sym is) p
