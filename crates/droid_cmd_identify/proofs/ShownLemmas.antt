-- One more format that is printed.
use Rattle.std.proofs.Common.{◌≡◌, ◌⊎◌, ℕ, zero, suc, ◌+◌, Bool, List, [], ◌∷◌, ◌++◌, drop, Option, Some, None, refl, ap, sym, ◌∙◌, inl, inr, append_assoc, arith}
use Rattle.std.proofs.Math.Seq.{drop-nil}
use Rattle.std.specs.List.{slice_get, AllByRecursion}
use Rattle.droid_frame.specs.declared.method.Method.TheVariants as methods
use Rattle.droid_pronom.specs.Registry.{Contents, IsRegistry, place_of}
use Rattle.droid_pronom.specs.Found.{Chosen, IsFound, end, chosen, passed}
use Rattle.droid_pronom.specs.declared.format.Format.{Format}
use Rattle.droid_pronom.specs.declared.identification.Found.{Found}
use Rattle.droid_identity.specs.Identities.{AreBases, HasBasis}
use Rattle.droid_identity.specs.declared.hit_signature.SignatureBasis.{SignatureBasis}
use Rattle.droid_cmd_identify.specs.ShownFormats.{AreShownByExtension, AreShownBySignature, IsNamedBy, IsShownBy}
use Rattle.droid_cmd_identify.specs.declared.forms.shown_format.ShownFormat.{ShownFormat}

-- ---- what is left of a list

pub at_drop : {X : Type 0} (xs : List X) (k : ℕ) (x : X) (ys : List X) → drop k xs ≡ x ∷ ys → (slice_get xs k ≡ Some x) × (drop (k + 1) xs ≡ ys)
at_drop [] k x ys e = let bad : [] ≡ x ∷ ys = sym (drop-nil k) ∙ e in cc
at_drop (y ∷ more) zero x ys e = (cc, cc)
at_drop (y ∷ more) (suc k) x ys e =
    let rest = at_drop more k x ys e in
    let one : suc k + 1 ≡ suc (k + 1) = omega arith in
    (rest.0, rw one rest.1)

-- ---- formats that signatures give

abbrev FirstBasis : (ℕ → SignatureBasis → Type 0) → List Format → List ℕ → List (List ℕ) → List SignatureBasis → Type 0
FirstBasis B formats puid puids [] = ⊥
FirstBasis B formats puid puids (basis ∷ bases) = HasBasis B formats puid basis × AreBases B formats puids bases

some_place : {X : Type 0} {x : X} {o : Option X} → o ≡ Some x → o ≡ None → ⊥
some_place e none = cc

module _ (B : ℕ → SignatureBasis → Type 0) (formats : List Format) (mismatch : Bool) where
  first_basis : (puid : List ℕ) (puids : List (List ℕ)) (bases : List SignatureBasis) → AreBases B formats (puid ∷ puids) bases
      → (basis : SignatureBasis) × (more : List SignatureBasis) × (bases ≡ basis ∷ more) × HasBasis B formats puid basis × AreBases B formats puids more
  first_basis puid puids [] are = absurd are
  first_basis puid puids (basis ∷ more) are = (basis, more, refl, are.0, are.1)

  -- the format is known, and the basis at this place is its own
  pub basis_at : (puid : List ℕ) (more rest : List (List ℕ)) (bases : List SignatureBasis) (k : ℕ) → rest ≡ puid ∷ more → AreBases B formats rest (drop k bases)
      → (basis : SignatureBasis) × (slice_get bases k ≡ Some basis) × (place_of puid formats ≡ None → ⊥) × (drop k bases ≡ basis ∷ drop (k + 1) bases) × AreBases B formats more (drop (k + 1) bases)
  basis_at puid more rest bases k e are =
      let (basis, left, is, has, others) = first_basis puid more (drop k bases) (rw e at are) in
      let there = at_drop bases k basis left is in
      (basis, there.0, some_place has.named, is ∙ ap (λ (l : List SignatureBasis). basis ∷ l) (sym there.1), rw there.1 others)

  pub shown_more : (all rest more : List (List ℕ)) (bases left_bases more_bases : List SignatureBasis) (puid : List ℕ) (basis : SignatureBasis) (found : List ShownFormat) (its : ShownFormat)
      → rest ≡ puid ∷ more → left_bases ≡ basis ∷ more_bases → IsShownBy formats mismatch puid basis its
      → ((left : List ShownFormat) → AreShownBySignature formats mismatch rest left_bases left → AreShownBySignature formats mismatch all bases (found ++ left))
      → (left : List ShownFormat) → AreShownBySignature formats mismatch more more_bases left → AreShownBySignature formats mismatch all bases ((found ++ its ∷ []) ++ left)
  shown_more all rest more bases left_bases more_bases puid basis found its e b is inv left h = rw append_assoc (inv (its ∷ left) (rw (e, b) (is, h)))

-- ---- formats that the extension gives

pub named_more : (formats : List Format) (extension : List ℕ) (mismatch : Bool) (all rest more : List (List ℕ)) (puid : List ℕ) (found : List ShownFormat) (its : ShownFormat)
    → rest ≡ puid ∷ more → IsNamedBy formats extension mismatch puid its
    → ((left : List ShownFormat) → AreShownByExtension formats extension mismatch rest left → AreShownByExtension formats extension mismatch all (found ++ left))
    → (left : List ShownFormat) → AreShownByExtension formats extension mismatch more left → AreShownByExtension formats extension mismatch all ((found ++ its ∷ []) ++ left)
named_more formats extension mismatch all rest more puid found its e is inv left h = rw append_assoc (inv (its ∷ left) (rw e (is, h)))

-- ---- the formats that were found are known

abbrev Splits : (ℕ → Type 0) → ℕ → List Format → List (List ℕ) → Type 0
Splits P k [] puids = puids ≡ []
Splits P k (format ∷ formats) puids =
    ((more : List (List ℕ)) × (puids ≡ format.puid ∷ more) × Chosen P (suc k) formats more) ⊎ Chosen P (suc k) formats puids

splits : (P : ℕ → Type 0) (k : ℕ) (formats : List Format) (puids : List (List ℕ)) → Chosen P k formats puids → Splits P k formats puids
splits P k formats puids end = refl
splits P k formats puids (chosen p more) = inl (_, refl, more)
splits P k formats puids (passed n more) = inr more

module _ (registry : Contents) (rules : IsRegistry registry) where
  chosen_known : (P : ℕ → Type 0) (i : ℕ) (rest : List Format) (puids : List (List ℕ)) → ((j : ℕ) (f : Format) → slice_get rest j ≡ Some f → slice_get registry.formats (i + j) ≡ Some f)
      → Chosen P i rest puids → AllByRecursion (λ puid. place_of puid registry.formats ≡ None → ⊥) puids
  chosen_known P i [] puids inside c = rw (splits P i [] puids c) tt
  chosen_known P i (format ∷ formats) puids inside c =
      let at : i + 0 ≡ i = omega arith in
      let here : slice_get registry.formats i ≡ Some format = ap (λ (n : ℕ). slice_get registry.formats n) (sym at) ∙ inside 0 format refl in
      let on : (j : ℕ) (f : Format) → slice_get formats j ≡ Some f → slice_get registry.formats (suc i + j) ≡ Some f =
      λ j f is. let next : suc i + j ≡ i + suc j = omega arith in ap (λ (n : ℕ). slice_get registry.formats n) next ∙ inside (suc j) f is in
      elim (splits P i (format ∷ formats) puids c) [
        | inl p ↦ rw p.1 (some_place (rules.distinct i format here), chosen_known P (suc i) formats p.0 on p.2)
        | inr q ↦ chosen_known P (suc i) formats puids on q
      ]

  -- formats that the extension gives
  pub named_known : (name file : List ℕ) (scan_limit : ℕ) (match_all : Bool) (found : Found) → IsFound registry name file scan_limit match_all found → found.method ≡ methods.Extension
      → AllByRecursion (λ puid. place_of puid registry.formats ≡ None → ⊥) found.puids
  named_known name file scan_limit match_all found is by =
      elim is [
        | inl s ↦ let m = s.method in cc
        | inr b ↦ elim b [ inl e ↦ chosen_known _ 0 registry.formats found.puids (λ j f there. let at : 0 + j ≡ j = omega arith in ap (λ (n : ℕ). slice_get registry.formats n) at ∙ there) e.named | inr n ↦ let m = n.method in cc ]
      ]
