-- Windows are enough: a match in the first or last bytes is a match in the file, and so are the nearest one and a basis.
use Rattle.std.proofs.Common.{◌≡◌, ◌↔◌, ℕ, ◌+◌, ◌≤◌, List, [], ◌∷◌, length, refl, ap, sym, ◌∙◌, arith}
use Rattle.droid_pronom.specs.Finding.{part}
use Rattle.droid_pronom.specs.Found.{Hits, HitsFrom}
use Rattle.droid_pronom.specs.Registry.{Signed}
use Rattle.droid_pronom.specs.declared.rows.Anchor.{Anchor}
use Rattle.droid_pronom.specs.declared.rows.Anchor.TheVariants.{Bof, Eof}
use Rattle.droid_pronom.specs.declared.rows.ByteSequence.{ByteSequence}
use Rattle.droid_pronom.proofs.Flags.{all_more}
use Rattle.droid_identity.specs.declared.found_match.Match.{Match}
use Rattle.droid_identity.specs.declared.hit_signature.SignatureBasis.{SignatureBasis}
use Rattle.droid_identity.specs.Matches.{AreEnds, IsMatch, HitsIn, HitsEnds, IsNearest, IsNearestOfEnds, window_of}
use Rattle.droid_identity.specs.Bases.{AreMatches, IsBasis}
use Rattle.droid_identity.specs.Spans.{near}
use Rattle.droid_identity.proofs.SpanLemmas.{part_near}

-- ---- a hit is a match

hit_from : (anchor : Anchor) (q : ByteSequence) (file : List ℕ) (limit : ℕ) → q.offsets.anchor ≡ anchor → HitsIn file limit q ↔ HitsFrom anchor q file limit
hit_from Bof q file limit e = (
  λ h. record { offset = h.offset; count = h.count; from_min = h.is.from_min; to_max = h.is.to_max; inside = h.is.inside; matched = rw e at h.is.matched },
  λ h. record { offset = h.offset; count = h.count; is = record { from_min = h.from_min; to_max = h.to_max; inside = h.inside; matched = rw e h.matched } },
)
hit_from Eof q file limit e = (
  λ h. record { offset = h.offset; count = h.count; from_min = h.is.from_min; to_max = h.is.to_max; inside = h.is.inside; matched = rw e at h.is.matched },
  λ h. record { offset = h.offset; count = h.count; is = record { from_min = h.from_min; to_max = h.to_max; inside = h.inside; matched = rw e h.matched } },
)

pub hit_is_match : (q : ByteSequence) (file : List ℕ) (limit : ℕ) → HitsIn file limit q ↔ Hits file limit q
hit_is_match q file limit = hit_from q.offsets.anchor q file limit refl

-- ---- the windows of a file

-- both windows are small: so is that of each anchor
pub window_small : (anchor : Anchor) (first last : List ℕ) (most : ℕ) → length first ≤ most → length last ≤ most → length (window_of anchor first last) ≤ most
window_small Bof first last most a b = a
window_small Eof first last most a b = b

module _ (file first last : List ℕ) (limit : ℕ) (ends : AreEnds file limit first last) where
  inside_file : length first ≤ length file
  inside_file = omega (arith, ends.reached)

  window_is : (anchor : Anchor) → window_of anchor first last ≡ near anchor file (length first)
  window_is Bof = sym ends.begins
  window_is Eof = sym ends.ends

  window_length : (anchor : Anchor) → length (window_of anchor first last) ≡ length first
  window_length Bof = refl
  window_length Eof = sym ends.same

  pub match_same : (q : ByteSequence) (o c : ℕ) → IsMatch (window_of q.offsets.anchor first last) (length (window_of q.offsets.anchor first last)) q o c ↔ IsMatch file limit q o c
  match_same q o c =
      let long = window_length q.offsets.anchor in
      let same : o + c ≤ length first → part q.offsets.anchor (window_of q.offsets.anchor first last) o c ≡ part q.offsets.anchor file o c =
      λ inside. ap (λ (xs : List ℕ). part q.offsets.anchor xs o c) (window_is q.offsets.anchor) ∙ part_near q.offsets.anchor file (length first) o c inside inside_file in (
        λ h.
            let inside : o + c ≤ length first = omega (arith, h.inside, long) in
            record { from_min = h.from_min; to_max = h.to_max; inside = omega (arith, inside, ends.reached); matched = rw (same inside) at h.matched },
        λ h.
            let inside : o + c ≤ length first = omega (arith, h.inside, ends.reached) in
            record { from_min = h.from_min; to_max = h.to_max; inside = omega (arith, inside, long); matched = rw (same inside) h.matched },
      )

  pub hits_same : (q : ByteSequence) → HitsEnds first last q ↔ Hits file limit q
  hits_same q = (
    λ h. (hit_is_match q file limit).0 (record { offset = h.offset; count = h.count; is = (match_same q h.offset h.count).0 h.is }),
    λ h. let its = (hit_is_match q file limit).1 h in record { offset = its.offset; count = its.count; is = (match_same q its.offset its.count).1 its.is },
  )

  pub nearest_same : (q : ByteSequence) (its : Match) → IsNearestOfEnds first last q its → IsNearest file limit q its
  nearest_same q its n = record {
    anchor = n.anchor;
    is = (match_same q its.offset its.count).0 n.is;
    nearest = λ offset count is. n.nearest offset count ((match_same q offset count).1 is);
    shortest = λ count is. n.shortest count ((match_same q its.offset count).1 is);
  }

  matches_same : (sequences : List ByteSequence) (found : List Match) → AreMatches (IsNearestOfEnds first last) sequences found → AreMatches (IsNearest file limit) sequences found
  matches_same [] [] h = tt
  matches_same [] (its ∷ more) h = absurd h
  matches_same (q ∷ qs) [] h = absurd h
  matches_same (q ∷ qs) (its ∷ more) h = (nearest_same q its h.0, matches_same qs more h.1)

  pub basis_same : (signatures : List Signed) (place : ℕ) (basis : SignatureBasis) → IsBasis (IsNearestOfEnds first last) (HitsEnds first last) signatures place basis → IsBasis (IsNearest file limit) (Hits file limit) signatures place basis
  basis_same signatures place basis b = record {
    signature = b.signature;
    there = b.there;
    its = b.its;
    matches = matches_same b.signature.sequences basis.matches.items b.matches;
    first = λ before other below there its all. b.first before other below there its (all_more (Hits file limit) (HitsEnds first last) (λ q. (hits_same q).1) other.sequences all);
  }
