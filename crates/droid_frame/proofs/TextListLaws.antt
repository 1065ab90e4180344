-- Texts after their lengths: what is read is what is spelled, and what is spelled is read again.
use Rattle.std.proofs.Common.{◌≡◌, ℕ, ◌≤◌, Bool, true, false, cond, ltb, List, [], ◌∷◌, ◌++◌, length, take, drop, Option, Some, None, refl, sym, ap, subst, arith}
use Rattle.std.proofs.lemmas.Bool.{ltb-false, le-ltb}
use Rattle.std.proofs.lemmas.List.{take_at, drop_at, take-append-drop, length-append, length-take}
use Rattle.droid_frame.specs.Fields.{IsBytes}
use Rattle.droid_frame.specs.Reading.{◌>>=◌, text_at}
use Rattle.droid_frame.specs.TextListFields.{sized_at, sized_text_at, texts_at}
use Rattle.droid_frame.specs.TextLists.{sized_bytes, texts_bytes, IsSizedText}
use Rattle.droid_frame.proofs.FieldLaws.{IsField, IsFront, IsBytes-drop, IsBytes-rest, bind_some, some_is, unless_some, text_reads}
use Rattle.droid_frame.proofs.SequenceLaws.{AreMany, sequence_field}
use Rattle.droid_frame.proofs.Utf8.{text_at-utf8}

unless_none : {A : Type 0} (b : Bool) (next : Option A) (y : A) → cond b None next ≡ Some y → (b ≡ false) × (next ≡ Some y)
unless_none true next y e = absurd cc
unless_none false next y e = (refl, e)

record IsSized (least most : ℕ) (bytes text rest : List ℕ) : Type 0 where
  pub front : IsFront bytes (sized_bytes text) rest
  pub at_least : least ≤ length text
  pub at_most : length text ≤ most

sized_reads : (least most : ℕ) (bytes : List ℕ) (x : List ℕ × List ℕ) → IsBytes bytes → sized_at least most bytes ≡ Some x → IsSized least most bytes x.0 x.1
unfolding sized_at
sized_reads least most [] x are e = absurd cc
sized_reads least most (size ∷ rest) x are e =
    let value : List ℕ × List ℕ = (take size rest, drop size rest) in
    let low = unless_none (ltb size least) (cond (ltb most size) None (cond (ltb (length rest) size) None (Some value))) x e in
    let high = unless_none (ltb most size) (cond (ltb (length rest) size) None (Some value)) x low.1 in
    let long = unless_some (ltb (length rest) size) value x high.1 in
    let enough : size ≤ length rest = ltb-false _ _ long.0 in
    let same : length (take size rest) ≡ size = omega (arith, length-take size rest) in
    let at_least : least ≤ size = ltb-false _ _ low.0 in
    let at_most : size ≤ most = ltb-false _ _ high.0 in
    let front : IsFront (size ∷ rest) (sized_bytes (take size rest)) (drop size rest) = record {
      parts = rw same (ap (λ (r : List ℕ). size ∷ r) (sym (take-append-drop size rest)));
      bytes_follow = IsBytes-drop size rest (IsBytes-rest size rest are);
    } in
    let made : IsSized least most (size ∷ rest) value.0 value.1 = record { front = front; at_least = rw same at_least; at_most = rw same at_most } in
    subst (λ (y : List ℕ × List ℕ). IsSized least most (size ∷ rest) y.0 y.1) long.1 made

sized_text_reads : (least most : ℕ) (bytes : List ℕ) (x : List ℕ × List ℕ) → IsBytes bytes → sized_text_at least most bytes ≡ Some x → IsFront bytes (sized_bytes x.0) x.1 × IsSizedText least most x.0
unfolding sized_text_at
sized_text_reads least most bytes x are e =
    let sized = bind_some (sized_at least most bytes) (λ s. text_at s.0 >>= λ t. Some (t, s.1)) x e in
    let text = bind_some (text_at sized.0.0) (λ t. Some (t, sized.0.1)) x sized.2 in
    let is_sized = sized_reads least most bytes sized.0 are sized.1 in
    let is_text = text_reads sized.0.0 text.0 text.1 in
    let value : List ℕ × List ℕ = (text.0, sized.0.1) in
    let as_text : IsSized least most bytes text.0 sized.0.1 = subst (λ (t : List ℕ). IsSized least most bytes t sized.0.1) is_text.0 is_sized in
    subst (λ (y : List ℕ × List ℕ). IsFront bytes (sized_bytes y.0) y.1 × IsSizedText least most y.0) (some_is value x text.2)
    (as_text.front, record { utf8 = is_text.1; at_least = as_text.at_least; at_most = as_text.at_most })

sized_again : (least most : ℕ) (text rest : List ℕ) → least ≤ length text → length text ≤ most → sized_at least most (sized_bytes text ++ rest) ≡ Some (text, rest)
unfolding sized_at
sized_again least most text rest at_least at_most =
    let low : ltb (length text) least ≡ false = le-ltb _ _ at_least in
    let high : ltb most (length text) ≡ false = le-ltb _ _ at_most in
    let long : ltb (length (text ++ rest)) (length text) ≡ false = le-ltb _ _ (omega (arith, length-append text rest)) in
    rw (low, high, long, take_at text rest (length text) refl, drop_at text rest (length text) refl) refl

sized_text_again : (least most : ℕ) (text rest : List ℕ) → IsSizedText least most text → sized_text_at least most (sized_bytes text ++ rest) ≡ Some (text, rest)
unfolding sized_text_at
sized_text_again least most text rest is =
    rw (sized_again least most text rest is.at_least is.at_most, text_at-utf8 text is.utf8) refl

-- one text
pub sized_text_field : (least most : ℕ) → IsField (sized_text_at least most) sized_bytes (IsSizedText least most)
sized_text_field least most = record { reads = sized_text_reads least most; again = sized_text_again least most }

-- `count` texts, each of `least` to `most` bytes
abbrev pub AreTexts : ℕ → ℕ → ℕ → List (List ℕ) → Type 0
AreTexts count least most texts = AreMany (IsSizedText least most) count texts

-- `count` texts, one after the other
pub texts_field : (count least most : ℕ) → IsField (texts_at count least most) texts_bytes (AreTexts count least most)
texts_field count least most = sequence_field (sized_text_at least most) sized_bytes (IsSizedText least most) (sized_text_field least most) count
