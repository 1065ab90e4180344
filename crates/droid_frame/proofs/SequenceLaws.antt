-- So many of one field, one after the other: what is read is what is spelled, and what is spelled is read again.
use Rattle.std.proofs.Common.{◌≡◌, ℕ, zero, suc, List, [], ◌∷◌, ◌++◌, length, Option, Some, refl, sym, ap, subst, ◌∙◌, append_assoc}
use Rattle.std.specs.List.{flat_map, AllByRecursion}
use Rattle.std.proofs.lemmas.List.Concat.{flat_map-cons}
use Rattle.droid_frame.specs.Fields.{IsBytes}
use Rattle.droid_frame.specs.Reading.{◌>>=◌}
use Rattle.droid_frame.specs.SequenceFields.{sequence_at}
use Rattle.droid_frame.proofs.FieldLaws.{IsField, IsFront, bind_some, some_is}

-- a field at the front, and then another
pub front_then : (bytes first middle second rest : List ℕ) → IsFront bytes first middle → IsFront middle second rest → IsFront bytes (first ++ second) rest
front_then bytes first middle second rest a b = record {
  parts = a.parts ∙ (ap (λ (x : List ℕ). first ++ x) b.parts ∙ sym (append_assoc first second rest));
  bytes_follow = b.bytes_follow;
}

-- `count` values, each of which has a spelling
abbrev pub AreMany : {A : Type 0} → (A → Type 0) → ℕ → List A → Type 0
AreMany HasOne count values = (length values ≡ count) × AllByRecursion HasOne values

-- what the values' spellings leave of the bytes
abbrev Leaves : {A : Type 0} → (A → List ℕ) → (A → Type 0) → ℕ → List ℕ → List A × List ℕ → Type 0
Leaves spelled HasOne count bytes x = IsFront bytes (flat_map spelled x.0) x.1 × AreMany HasOne count x.0

sequence_reads : {A : Type 0} (at : List ℕ → Option (A × List ℕ)) (spelled : A → List ℕ) (HasOne : A → Type 0) → IsField at spelled HasOne
    → (count : ℕ) (bytes : List ℕ) (x : List A × List ℕ) → IsBytes bytes → sequence_at at count bytes ≡ Some x → Leaves spelled HasOne count bytes x
unfolding sequence_at
sequence_reads at spelled HasOne field zero bytes x are e =
    subst (Leaves spelled HasOne 0 bytes) (some_is ([], bytes) x e) (record { parts = refl; bytes_follow = are }, (refl, tt))
sequence_reads {A} at spelled HasOne field (suc count) bytes x are e =
    let first = bind_some (at bytes) (λ v. sequence_at at count v.1 >>= λ vs. Some (v.0 ∷ vs.0, vs.1)) x e in
    let others = bind_some (sequence_at at count first.0.1) (λ vs. Some (first.0.0 ∷ vs.0, vs.1)) x first.2 in
    let one = field.reads bytes first.0 are first.1 in
    let more = sequence_reads at spelled HasOne field count first.0.1 others.0 one.0.bytes_follow others.1 in
    let value : List A × List ℕ = (first.0.0 ∷ others.0.0, others.0.1) in
    let front = front_then bytes (spelled first.0.0) first.0.1 (flat_map spelled others.0.0) others.0.1 one.0 more.0 in
    subst (Leaves spelled HasOne (suc count) bytes) (some_is value x others.2) (rw flat_map-cons front, (ap suc more.1.0, (one.1, more.1.1)))

sequence_again : {A : Type 0} (at : List ℕ → Option (A × List ℕ)) (spelled : A → List ℕ) (HasOne : A → Type 0) → IsField at spelled HasOne
    → (values : List A) (rest : List ℕ) → AllByRecursion HasOne values → sequence_at at (length values) (flat_map spelled values ++ rest) ≡ Some (values, rest)
unfolding sequence_at
sequence_again at spelled HasOne field [] rest are = refl
sequence_again at spelled HasOne field (value ∷ values) rest are =
    let regrouped : flat_map spelled (value ∷ values) ++ rest ≡ spelled value ++ (flat_map spelled values ++ rest) = ap (λ (x : List ℕ). x ++ rest) (flat_map-cons spelled value values) ∙ append_assoc (spelled value) (flat_map spelled values) rest in
    ap (sequence_at at (suc (length values))) regrouped ∙ rw (field.again value (flat_map spelled values ++ rest) are.0, sequence_again at spelled HasOne field values rest are.1) refl

pub sequence_field : {A : Type 0} (at : List ℕ → Option (A × List ℕ)) (spelled : A → List ℕ) (HasOne : A → Type 0) → IsField at spelled HasOne
    → (count : ℕ) → IsField (sequence_at at count) (flat_map spelled) (AreMany HasOne count)
sequence_field at spelled HasOne field count = record {
  reads = sequence_reads at spelled HasOne field count;
  again = λ values rest are. ap (λ (n : ℕ). sequence_at at n (flat_map spelled values ++ rest)) (sym are.0) ∙ sequence_again at spelled HasOne field values rest are.1;
}
