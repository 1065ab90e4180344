-- A signature and the combinations of choices of its byte sequences.
use Rattle.std.proofs.Common.{◌≡◌, ◌↔◌, ◌⊎◌, ℕ, List, [], ◌∷◌, ◌++◌, map, inl, inr, ⊎_elim, refl, sym, subst}
use Rattle.std.specs.List.{AllByRecursion}
use Rattle.droid_pronom.specs.Found.{Hits}
use Rattle.droid_pronom.specs.Registry.{AnyOf}
use Rattle.droid_pronom.specs.declared.rows.ByteSequence.{ByteSequence}
use Rattle.droid_signature_file.specs.Records.{ByteSequenceRecord}
use Rattle.droid_signature_file.specs.Meaning.{SequenceHits}
use Rattle.droid_signature_file.specs.Sequences.{choices, each_before, combinations, AreChoicesOf}
use Rattle.droid_signature_file.proofs.Choices.{choices_hit}

-- some item of two lists
pub AnyOf-append : {X : Type 0} (P : X → Type 0) (xs ys : List X) → AnyOf P (xs ++ ys) ↔ (AnyOf P xs ⊎ AnyOf P ys)
AnyOf-append P [] ys = (λ h. inr h, λ h. ⊎_elim (λ none. absurd none) (λ x. x) h)
AnyOf-append P (x ∷ xs) ys =
    let more = AnyOf-append P xs ys in (
      λ h. ⊎_elim (λ a. inl (inl a)) (λ b. ⊎_elim (λ c. inl (inr c)) (λ d. inr d) (more.0 b)) h,
      λ h. ⊎_elim (λ w. ⊎_elim (λ a. inl a) (λ c. inr (more.1 (inl c))) w) (λ d. inr (more.1 (inr d))) h,
    )

-- the combinations that begin with one choice
with_choice : (H : ByteSequence → Type 0) (choice : ByteSequence) (lists : List (List ByteSequence))
    → AnyOf (AllByRecursion H) (map (λ list. choice ∷ list) lists) ↔ (H choice × AnyOf (AllByRecursion H) lists)
with_choice H choice [] = (λ none. absurd none, λ h. absurd h.1)
with_choice H choice (list ∷ lists) =
    let more = with_choice H choice lists in (
      λ h. ⊎_elim (λ one. (one.0, inl one.1)) (λ other. let w = more.0 other in (w.0, inr w.1)) h,
      λ (hit, h). ⊎_elim (λ one. inl (hit, one)) (λ other. inr (more.1 (hit, other))) h,
    )

with_choices : (H : ByteSequence → Type 0) (first : List ByteSequence) (lists : List (List ByteSequence))
    → AnyOf (AllByRecursion H) (each_before first lists) ↔ (AnyOf H first × AnyOf (AllByRecursion H) lists)
with_choices H [] lists = (λ none. absurd none, λ h. absurd h.0)
with_choices H (choice ∷ first) lists =
    let split = AnyOf-append (AllByRecursion H) (map (λ list. choice ∷ list) lists) (each_before first lists) in
    let here = with_choice H choice lists in
    let more = with_choices H first lists in (
      λ h. ⊎_elim (λ one. let w = here.0 one in (inl w.0, w.1)) (λ other. let w = more.0 other in (inr w.0, w.1)) (split.0 h),
      λ (some, h). split.1 (⊎_elim (λ one. inl (here.1 (one, h))) (λ other. inr (more.1 (other, h))) some),
    )

pub combinations_hit : (sequences : List ByteSequenceRecord) (all : List (List ByteSequence)) (file : List ℕ) (scan_limit : ℕ) → AreChoicesOf sequences all
    → AnyOf (AllByRecursion (Hits file scan_limit)) (combinations all) ↔ AllByRecursion (SequenceHits file scan_limit) sequences
combinations_hit [] [] file scan_limit are = (λ _. tt, λ _. inl tt)
combinations_hit [] (first ∷ more) file scan_limit are = absurd are
combinations_hit (sequence ∷ sequences) [] file scan_limit are = absurd are
combinations_hit (sequence ∷ sequences) (first ∷ more) file scan_limit ((offsets, patterns, stand, is), are) =
    let both = with_choices (Hits file scan_limit) first (combinations more) in
    let here = choices_hit sequence offsets patterns file scan_limit stand in
    let rest = combinations_hit sequences more file scan_limit are in (
      λ h. let w = both.0 h in (here.0 (rw is at w.0), rest.0 w.1),
      λ (one, others). both.1 (rw is (here.1 one), rest.1 others),
    )
