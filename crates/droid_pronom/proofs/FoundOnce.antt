-- What is found is found once: whatever byte sequences hit, at most one answer meets the rules.
use Rattle.std.proofs.Common.{◌≡◌, ◌⊎◌, ◌↔◌, ℕ, suc, Bool, true, false, IsTrue, List, [], ◌∷◌, refl, ap, sym, ◌∙◌, inl, inr, rules}
use Rattle.droid_frame.specs.declared.method.Method.{Method}
use Rattle.droid_pronom.specs.Found.{extension_of, IsLeft, IsNamed, IsMismatch, IsFoundBy, Chosen, end, chosen, passed}
use Rattle.droid_pronom.specs.Registry.{Contents}
use Rattle.droid_pronom.specs.declared.identification.Found.{Found}
use Rattle.droid_pronom.specs.declared.format.Format.{Format}
use Rattle.droid_pronom.specs.declared.rows.ByteSequence.{ByteSequence}

-- the first of the formats is chosen or passed
abbrev Splits : (ℕ → Type 0) → ℕ → List Format → List (List ℕ) → Type 0
Splits P k [] puids = puids ≡ []
Splits P k (format ∷ formats) puids =
    (P k × ((more : List (List ℕ)) × (puids ≡ format.puid ∷ more) × Chosen P (suc k) formats more)) ⊎ ((P k → ⊥) × Chosen P (suc k) formats puids)

splits : (P : ℕ → Type 0) (k : ℕ) (formats : List Format) (puids : List (List ℕ)) → Chosen P k formats puids → Splits P k formats puids
splits P k formats puids end = refl
splits P k formats puids (chosen p more) = inl (p, (_, refl, more))
splits P k formats puids (passed n more) = inr (n, more)

chosen_once : (P : ℕ → Type 0) (k : ℕ) (formats : List Format) (one other : List (List ℕ)) → Chosen P k formats one → Chosen P k formats other → one ≡ other
chosen_once P k [] one other a b = splits P k [] one a ∙ sym (splits P k [] other b)
chosen_once P k (format ∷ formats) one other a b = elim (splits P k (format ∷ formats) one a) [
  | inl p ↦ elim (splits P k (format ∷ formats) other b) [
    | inl q ↦ p.1.1 ∙ ap (λ (xs : List (List ℕ)). format.puid ∷ xs) (chosen_once P (suc k) formats p.1.0 q.1.0 p.1.2 q.1.2) ∙ sym q.1.1
    | inr q ↦ absurd (q.0 p.0)
  ]
  | inr p ↦ elim (splits P k (format ∷ formats) other b) [
    | inl q ↦ absurd (p.0 q.0)
    | inr q ↦ chosen_once P (suc k) formats one other p.1 q.1
  ]
]

-- two truth values that say the same
said_once : (a b : Bool) (Q : Type 0) → (IsTrue a ↔ Q) → (IsTrue b ↔ Q) → a ≡ b
said_once true true Q e f = refl
said_once true false Q e f = let t : IsTrue false = f.1 (e.0 (search rules)) in cc
said_once false true Q e f = let t : IsTrue false = e.1 (f.0 (search rules)) in cc
said_once false false Q e f = refl

same_found : (one other : Found) → one.method ≡ other.method → one.mismatch ≡ other.mismatch → one.puids ≡ other.puids → one ≡ other
same_found one other m s p =
    ap (λ (x : Method). let f : Found = record { method = x; mismatch = one.mismatch; puids = one.puids } in f) m
    ∙ ap (λ (x : Bool). let f : Found = record { method = other.method; mismatch = x; puids = one.puids } in f) s
    ∙ ap (λ (x : List (List ℕ)). let f : Found = record { method = other.method; mismatch = other.mismatch; puids = x } in f) p

module _ (H : ByteSequence → Type 0) (registry : Contents) (name : List ℕ) (match_all : Bool) where
  left_once : (one other : List (List ℕ)) → Chosen (IsLeft H registry) 0 registry.formats one → Chosen (IsLeft H registry) 0 registry.formats other → one ≡ other
  left_once = chosen_once (IsLeft H registry) 0 registry.formats

  named_once : (one other : List (List ℕ)) → Chosen (IsNamed registry (extension_of name) match_all) 0 registry.formats one → Chosen (IsNamed registry (extension_of name) match_all) 0 registry.formats other → one ≡ other
  named_once = chosen_once (IsNamed registry (extension_of name) match_all) 0 registry.formats

  pub found_once : (one other : Found) → IsFoundBy H registry name match_all one → IsFoundBy H registry name match_all other → one ≡ other
  found_once one other a b = elim a [
    | inl s ↦ elim b [
      | inl t ↦ same_found one other (s.method ∙ sym t.method) (said_once one.mismatch other.mismatch (IsMismatch H registry (extension_of name)) s.mismatch t.mismatch) (left_once one.puids other.puids s.left t.left)
      | inr c ↦ elim c [ inl t ↦ absurd (s.some (left_once one.puids [] s.left t.left)) | inr t ↦ absurd (s.some (left_once one.puids [] s.left t.left)) ]
    ]
    | inr d ↦ elim d [
      | inl s ↦ elim b [
        | inl t ↦ absurd (t.some (left_once other.puids [] t.left s.left))
        | inr c ↦ elim c [
          | inl t ↦ same_found one other (s.method ∙ sym t.method) (s.mismatch ∙ sym t.mismatch) (named_once one.puids other.puids s.named t.named)
          | inr t ↦ absurd (s.some (named_once one.puids [] s.named t.named))
        ]
      ]
      | inr s ↦ elim b [
        | inl t ↦ absurd (t.some (left_once other.puids [] t.left s.left))
        | inr c ↦ elim c [
          | inl t ↦ absurd (t.some (named_once other.puids [] t.named s.named))
          | inr t ↦ same_found one other (s.method ∙ sym t.method) (s.mismatch ∙ sym t.mismatch) (s.none ∙ sym t.none)
        ]
      ]
    ]
  ]
