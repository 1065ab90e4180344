-- A byte sequence has at most one nearest match, and a format at most one basis.
use Rattle.std.proofs.Common.{◌≡◌, ℕ, ◌<◌, List, [], ◌∷◌, Some, ap, sym, ◌∙◌, inl, inr, arith, refl}
use Rattle.std.specs.List.{slice_get, AllByRecursion}
use Rattle.std.proofs.lemmas.Bool.{cases_order}
use Rattle.droid_pronom.specs.Found.{Hits}
use Rattle.droid_pronom.specs.Registry.{Signed}
use Rattle.droid_pronom.specs.declared.rows.Anchor.{Anchor}
use Rattle.droid_pronom.specs.declared.rows.ByteSequence.{ByteSequence}
use Rattle.droid_identity.specs.declared.found_match.Match.{Match}
use Rattle.droid_identity.specs.declared.hit_signature.SignatureBasis.{SignatureBasis}
use Rattle.droid_identity.specs.Matches.{IsNearest}
use Rattle.droid_identity.specs.Bases.{AreMatches, IsBasis}
use Rattle.droid_identity.proofs.FileLemmas.{hit_is_match}

same_match : (one other : Match) → one.anchor ≡ other.anchor → one.offset ≡ other.offset → one.count ≡ other.count → one ≡ other
same_match one other a o c =
    ap (λ (x : Anchor). let m : Match = record { anchor = x; offset = one.offset; count = one.count } in m) a
    ∙ ap (λ (x : ℕ). let m : Match = record { anchor = other.anchor; offset = x; count = one.count } in m) o
    ∙ ap (λ (x : ℕ). let m : Match = record { anchor = other.anchor; offset = other.offset; count = x } in m) c

some_same : {X : Type 0} {x y : X} → Some x ≡ Some y → x ≡ y
some_same e = cc

module _ (file : List ℕ) (limit : ℕ) where
  pub one_match : (q : ByteSequence) (one other : Match) → IsNearest file limit q one → IsNearest file limit q other → one ≡ other
  one_match q one other a b =
      let low = a.nearest other.offset other.count b.is in
      let high = b.nearest one.offset one.count a.is in
      let at : one.offset ≡ other.offset = omega (arith, low, high) in
      let short = a.shortest other.count (rw at b.is) in
      let long = b.shortest one.count (rw (sym at) a.is) in
      same_match one other (a.anchor ∙ sym b.anchor) at (omega (arith, short, long))

  -- each byte sequence that has its match hits
  matches_hit : (qs : List ByteSequence) (found : List Match) → AreMatches (IsNearest file limit) qs found → AllByRecursion (Hits file limit) qs
  matches_hit [] found h = tt
  matches_hit (q ∷ qs) [] h = absurd h
  matches_hit (q ∷ qs) (its ∷ more) h = ((hit_is_match q file limit).0 (record { offset = its.offset; count = its.count; is = h.0.is }), matches_hit qs more h.1)

  one_list : (qs : List ByteSequence) (one other : List Match) → AreMatches (IsNearest file limit) qs one → AreMatches (IsNearest file limit) qs other → one ≡ other
  one_list [] [] [] a b = refl
  one_list [] [] (m ∷ ms) a b = absurd b
  one_list [] (m ∷ ms) other a b = absurd a
  one_list (q ∷ qs) [] other a b = absurd a
  one_list (q ∷ qs) (m ∷ ms) [] a b = absurd b
  one_list (q ∷ qs) (m ∷ ms) (n ∷ ns) a b =
      ap (λ (x : Match). x ∷ ms) (one_match q m n a.0 b.0) ∙ ap (λ (xs : List Match). n ∷ xs) (one_list qs ms ns a.1 b.1)

  module _ (signatures : List Signed) (place : ℕ) where
    abbrev Basis : SignatureBasis → Type 0
    Basis its = IsBasis (IsNearest file limit) (Hits file limit) signatures place its

    -- no basis has an earlier signature than another
    not_before : (one other : SignatureBasis) → Basis one → Basis other → one.signature < other.signature → ⊥
    not_before one other a b before =
        b.first one.signature a.signature before a.there a.its (matches_hit a.signature.sequences one.matches.items a.matches)

    pub one_basis : (one other : SignatureBasis) → Basis one → Basis other → (one.signature ≡ other.signature) × (one.matches.items ≡ other.matches.items)
    one_basis one other a b =
        elim (cases_order one.signature other.signature) [
          | inl at ↦
              let same : a.signature ≡ b.signature = some_same (sym a.there ∙ (ap (λ (k : ℕ). slice_get signatures k) at ∙ b.there)) in
              (at, one_list a.signature.sequences one.matches.items other.matches.items a.matches (rw same b.matches))
          | inr apart ↦ elim apart [ inl before ↦ absurd (not_before one other a b before) | inr after ↦ absurd (not_before other one b a after) ]
        ]
