-- The match that the two searches find, and the matches of a signature.
use Rattle.std.proofs.Common.{◌≡◌, ℕ, zero, suc, ◌+◌, ◌-◌, ◌≤◌, ◌<◌, List, [], ◌∷◌, ◌++◌, length, Some, refl, inl, inr, append_assoc, arith}
use Rattle.std.specs.List.{slice_get, AllByRecursion}
use Rattle.droid_pronom.specs.Registry.{AnyOf}
use Rattle.droid_pronom.specs.declared.rows.ByteSequence.{ByteSequence}
use Rattle.droid_identity.specs.declared.found_match.Match.{Match}
use Rattle.droid_identity.specs.Matches.{IsMatch, HitsIn, IsNearest}
use Rattle.droid_identity.specs.Bases.{AreMatches}
use Rattle.droid_identity.specs.Spans.{IsAt, Between, IsFirst, IsReach, beyond}
use Rattle.droid_identity.proofs.SpanLemmas.{at_beyond, beyond_at}

-- ---- one byte sequence

module _ (bytes : List ℕ) (q : ByteSequence) where
  pub match_at : (o c : ℕ) → IsMatch bytes (length bytes) q o c → IsAt q.offsets.anchor q.pattern bytes o c
  match_at o c is = record { inside = omega (arith, is.inside); matched = is.matched }

  pub hit_between : HitsIn bytes (length bytes) q → Between q.offsets.anchor q.pattern bytes q.offsets.min q.offsets.max
  hit_between h = record { offset = h.offset; count = h.count; from_low = h.is.from_min; to_high = h.is.to_max; there = match_at h.offset h.count h.is }

  -- the first match, and the shortest one where it begins
  pub nearest_found : (o c : ℕ) → o ≤ length bytes → IsFirst q.offsets.anchor q.pattern bytes q.offsets.min q.offsets.max o → IsReach q.offsets.anchor q.pattern (beyond q.offsets.anchor bytes o) 0 c
      → IsNearest bytes (length bytes) q (record { anchor = q.offsets.anchor; offset = o; count = c })
  nearest_found o c fits first reach =
      let same : o + 0 ≡ o = omega arith in
      let all : c - 0 ≡ c = omega arith in
      let here : IsAt q.offsets.anchor q.pattern bytes o c = rw same at (at_beyond q.offsets.anchor q.pattern bytes o fits 0 c (rw all at reach.there)) in record {
        anchor = refl;
        is = record { from_min = first.from_low; to_max = first.to_high; inside = omega (arith, here.inside); matched = here.matched };
        nearest = λ offset count is. first.least offset count is.from_min (match_at offset count is);
        shortest = λ count is. let far = reach.least count (beyond_at q.offsets.anchor q.pattern bytes o fits 0 count (rw same (match_at o count is))) in omega (arith, far);
      }

-- ---- the byte sequences of a signature

-- one more byte sequence and its match
pub matched_more : (N : ByteSequence → Match → Type 0) (all rest more : List ByteSequence) (x : ByteSequence) (found : List Match) (its : Match)
    → rest ≡ x ∷ more → N x its → ((left : List Match) → AreMatches N rest left → AreMatches N all (found ++ left))
    → (left : List Match) → AreMatches N more left → AreMatches N all ((found ++ its ∷ []) ++ left)
matched_more N all rest more x found its e n inv left h = rw append_assoc (inv (its ∷ left) (rw e (n, h)))

-- what holds of each item of what is left holds of its first
pub first_left : {X : Type 0} (P : X → Type 0) (rest more : List X) (x : X) → rest ≡ x ∷ more → AllByRecursion P rest → P x × AllByRecursion P more
first_left P rest more x e h = rw e at h

-- ---- the signatures of a format

-- one of the items, with its place
pub any_at : {X : Type 0} (P : X → Type 0) (xs : List X) → AnyOf P xs → (k : ℕ) × (x : X) × (k < length xs) × (slice_get xs k ≡ Some x) × P x
any_at P [] h = absurd h
any_at P (y ∷ ys) h =
    elim h [
      | inl p ↦ (zero, y, omega arith, refl, p)
      | inr rest ↦ let (k, x, below, is, p) = any_at P ys rest in (suc k, x, omega (arith, below), is, p)
    ]
