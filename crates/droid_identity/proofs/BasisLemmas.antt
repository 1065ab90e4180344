-- The formats that were found hit, and one more basis.
use Rattle.std.proofs.Common.{◌≡◌, ◌⊎◌, ℕ, suc, ◌+◌, Bool, List, [], ◌∷◌, ◌++◌, Option, Some, None, refl, ap, sym, ◌∙◌, inl, inr, append_assoc, arith, MatchOption, IsSomeAnd}
use Rattle.std.specs.List.{slice_get, AllByRecursion}
use Rattle.droid_frame.specs.declared.method.Method.TheVariants as methods
use Rattle.droid_pronom.specs.Registry.{AnyOf, Contents, IsRegistry, Signed, place_of}
use Rattle.droid_pronom.specs.Found.{Hits, IsHit, IsLeft, IsFoundBy, Chosen, end, chosen, passed}
use Rattle.droid_pronom.specs.declared.format.Format.{Format}
use Rattle.droid_pronom.specs.declared.identification.Found.{Found}
use Rattle.droid_pronom.specs.declared.rows.ByteSequence.{ByteSequence}
use Rattle.droid_pronom.proofs.Flags.{all_more, any_more}
use Rattle.droid_identity.specs.Matches.{AreEnds, HitsEnds, IsNearestOfEnds}
use Rattle.droid_identity.specs.Bases.{IsBasis}
use Rattle.droid_identity.specs.declared.hit_signature.SignatureBasis.{SignatureBasis}
use Rattle.droid_identity.proofs.FileLemmas.{basis_same, hits_same}
use Rattle.droid_identity.specs.Identities.{AreBases, HasBasis, HitsPuid, IsBasisIn}

some_same : {X : Type 0} {x y : X} → Some x ≡ Some y → x ≡ y
some_same e = cc

-- ---- the formats of a list of PUIDs

-- the first of the formats is chosen or passed
abbrev Splits : (ℕ → Type 0) → ℕ → List Format → List (List ℕ) → Type 0
Splits P k [] puids = puids ≡ []
Splits P k (format ∷ formats) puids =
    (P k × ((more : List (List ℕ)) × (puids ≡ format.puid ∷ more) × Chosen P (suc k) formats more)) ⊎ ((P k → ⊥) × Chosen P (suc k) formats puids)

splits : (P : ℕ → Type 0) (k : ℕ) (formats : List Format) (puids : List (List ℕ)) → Chosen P k formats puids → Splits P k formats puids
splits P k formats puids end = refl
splits P k formats puids (chosen p more) = inl (p, (_, refl, more))
splits P k formats puids (passed n more) = inr (n, more)

module _ (H : ByteSequence → Type 0) (registry : Contents) (rules : IsRegistry registry) where
  -- each format that is chosen hits
  chosen_hit : (i : ℕ) (rest : List Format) (puids : List (List ℕ)) → ((j : ℕ) (f : Format) → slice_get rest j ≡ Some f → slice_get registry.formats (i + j) ≡ Some f)
      → Chosen (IsLeft H registry) i rest puids → AllByRecursion (HitsPuid H registry) puids
  chosen_hit i [] puids inside c = rw (splits (IsLeft H registry) i [] puids c) tt
  chosen_hit i (format ∷ formats) puids inside c =
      let at : i + 0 ≡ i = omega arith in
      let here : slice_get registry.formats i ≡ Some format = ap (λ (n : ℕ). slice_get registry.formats n) (sym at) ∙ inside 0 format refl in
      let on : (j : ℕ) (f : Format) → slice_get formats j ≡ Some f → slice_get registry.formats (suc i + j) ≡ Some f =
      λ j f is. let next : suc i + j ≡ i + suc j = omega arith in ap (λ (n : ℕ). slice_get registry.formats n) next ∙ inside (suc j) f is in
      elim (splits (IsLeft H registry) i (format ∷ formats) puids c) [
        | inl p ↦ rw p.1.1 (record { place = i; named = rules.distinct i format here; hit = p.0.0 }, chosen_hit (suc i) formats p.1.0 on p.1.2)
        | inr q ↦ chosen_hit (suc i) formats puids on q.1
      ]

  -- formats that signatures give hit
  pub found_hit : (name : List ℕ) (match_all : Bool) (found : Found) → IsFoundBy H registry name match_all found → found.method ≡ methods.Signature → AllByRecursion (HitsPuid H registry) found.puids
  found_hit name match_all found is by =
      elim is [
        | inl a ↦ chosen_hit 0 registry.formats found.puids (λ j f there. let at : 0 + j ≡ j = omega arith in ap (λ (n : ℕ). slice_get registry.formats n) at ∙ there) a.left
        | inr b ↦ elim b [ inl e ↦ let m = e.method in cc | inr n ↦ let m = n.method in cc ]
      ]

-- ---- one basis more

pub based_more : (B : ℕ → SignatureBasis → Type 0) (formats : List Format) (all rest more : List (List ℕ)) (puid : List ℕ) (found : List SignatureBasis) (its : SignatureBasis)
    → rest ≡ puid ∷ more → HasBasis B formats puid its → ((left : List SignatureBasis) → AreBases B formats rest left → AreBases B formats all (found ++ left))
    → (left : List SignatureBasis) → AreBases B formats more left → AreBases B formats all ((found ++ its ∷ []) ++ left)
based_more B formats all rest more puid found its e h inv left bases = rw append_assoc (inv (its ∷ left) (rw e (h, bases)))

-- ---- the basis of one format

-- A format that hits in the file has a basis: what was found in the ends.
module _ (registry : Contents) (puid file first last : List ℕ) (limit : ℕ) (ends : AreEnds file limit first last) (h : HitsPuid (Hits file limit) registry puid) where
  pub basis_there : (place : ℕ) (found : Option SignatureBasis) → place_of puid registry.formats ≡ Some place
      → MatchOption found (¬ (AnyOf (λ signature. (signature.place ≡ place) × AllByRecursion (HitsEnds first last) signature.sequences) registry.signatures)) (IsBasis (IsNearestOfEnds first last) (HitsEnds first last) registry.signatures place)
      → IsSomeAnd found (HasBasis (IsBasisIn registry file limit) registry.formats puid)
  basis_there place None named none =
      let same : h.place ≡ place = some_same (sym h.named ∙ named) in
      let hit : IsHit (Hits file limit) registry place = rw same at h.hit in
      absurd (none (any_more _ _ (λ (signature : Signed) its. (its.0, all_more (Hits file limit) (HitsEnds first last) (λ q. (hits_same file first last limit ends q).1) signature.sequences its.1)) registry.signatures hit))
  basis_there place (Some basis) named is = record { place = place; named = named; its = basis_same file first last limit ends registry.signatures place basis is }

  pub none_there : {R : Type 0} → place_of puid registry.formats ≡ None → R
  none_there none = let e = sym h.named ∙ none in cc
