-- Bytes at one end of others, and the steps of the two searches.
use Rattle.std.proofs.Common.{◌≡◌, ◌↔◌, ℕ, ◌+◌, ◌-◌, ◌≤◌, ◌<◌, min, List, length, take, drop, ap, sym, ◌∙◌, inl, inr, arith}
use Rattle.std.proofs.lemmas.Bool.{cases_lt}
use Rattle.std.proofs.lemmas.List.{drop-drop, take-take, drop-take, length-take-le, length-drop}
use Rattle.droid_pattern.specs.Patterns.{Element}
use Rattle.droid_pronom.specs.Finding.{part}
use Rattle.droid_pronom.specs.declared.rows.Anchor.{Anchor}
use Rattle.droid_pronom.specs.declared.rows.Anchor.TheVariants.{Bof, Eof}
use Rattle.droid_identity.specs.Spans.{IsAt, Between, IsFirst, IsLeast, Reaches, IsLeastReach, IsReach, beyond, near}

-- ---- a part of the bytes at one end is a part of all

pub length_near : (anchor : Anchor) (bytes : List ℕ) (reach : ℕ) → reach ≤ length bytes → length (near anchor bytes reach) ≡ reach
length_near Bof bytes reach fits = length-take-le reach bytes fits
length_near Eof bytes reach fits = let e = length-drop (length bytes - reach) bytes in omega (arith, e)

pub part_near : (anchor : Anchor) (bytes : List ℕ) (reach o c : ℕ) → o + c ≤ reach → reach ≤ length bytes → part anchor (near anchor bytes reach) o c ≡ part anchor bytes o c
part_near Bof bytes reach o c inside fits =
    let e : reach ≡ o + (reach - o) = omega arith in
    ap (λ (n : ℕ). take c (drop o (take n bytes))) e ∙ ap (λ (xs : List ℕ). take c xs) (drop-take o (reach - o) bytes) ∙ take-take c (reach - o) (drop o bytes) (omega arith)
part_near Eof bytes reach o c inside fits =
    let e : (length bytes - reach) + (reach - (o + c)) ≡ length bytes - (o + c) = omega arith in
    ap (λ (n : ℕ). take c (drop (n - (o + c)) (drop (length bytes - reach) bytes))) (length_near Eof bytes reach fits)
    ∙ ap (λ (xs : List ℕ). take c xs) (drop-drop (reach - (o + c)) (length bytes - reach) bytes ∙ ap (λ (n : ℕ). drop n bytes) e)

module _ (anchor : Anchor) (es : List Element) (bytes : List ℕ) (reach : ℕ) (fits : reach ≤ length bytes) where
  pub at_near : (o c : ℕ) → IsAt anchor es (near anchor bytes reach) o c → (o + c ≤ reach) × IsAt anchor es bytes o c
  at_near o c h =
      let inside : o + c ≤ reach = omega (arith, h.inside, length_near anchor bytes reach fits) in
      (inside, record { inside = omega (arith, inside, fits); matched = rw (part_near anchor bytes reach o c inside fits) at h.matched })

  pub near_at : (o c : ℕ) → o + c ≤ reach → IsAt anchor es bytes o c → IsAt anchor es (near anchor bytes reach) o c
  near_at o c inside h =
      record { inside = omega (arith, inside, length_near anchor bytes reach fits); matched = rw (part_near anchor bytes reach o c inside fits) h.matched }

  pub between_reaches : (offset : ℕ) → Between anchor es (near anchor bytes reach) offset offset ↔ Reaches anchor es bytes offset reach
  between_reaches offset = (
    λ b.
        let e : b.offset ≡ offset = omega (arith, b.from_low, b.to_high) in
        let there = at_near b.offset b.count b.there in
        record { count = b.count; within = omega (arith, there.0, e); there = rw e at there.1 },
    λ r. record { offset = offset; count = r.count; from_low = omega arith; to_high = omega arith; there = near_at offset r.count r.within r.there },
  )

module _ (anchor : Anchor) (es : List Element) (bytes : List ℕ) where
  -- ---- the least offset

  -- no match lies in the lower part: one lies in the upper part, and none below that
  pub above : (low middle high : ℕ) → Between anchor es bytes low high → (Between anchor es bytes low middle → ⊥) → Between anchor es bytes (middle + 1) high
  above low middle high b none =
      elim (cases_lt middle b.offset) [
        | inl over ↦ record { offset = b.offset; count = b.count; from_low = omega (arith, over); to_high = b.to_high; there = b.there }
        | inr under ↦ absurd (none (record { offset = b.offset; count = b.count; from_low = b.from_low; to_high = under; there = b.there }))
      ]

  pub least_above : (from low middle : ℕ) → IsLeast anchor es bytes from low → (Between anchor es bytes low middle → ⊥) → IsLeast anchor es bytes from (middle + 1)
  least_above from low middle least none other count begun is =
      let after = least other count begun is in
      elim (cases_lt middle other) [
        | inl over ↦ omega (arith, over)
        | inr under ↦ absurd (none (record { offset = other; count = count; from_low = after; to_high = under; there = is }))
      ]

  -- ---- the least reach

  -- a match at one offset reaches no further than all the bytes
  pub reaches_all : (offset : ℕ) → Between anchor es bytes offset offset → Reaches anchor es bytes offset (length bytes)
  reaches_all offset b =
      let e : b.offset ≡ offset = omega (arith, b.from_low, b.to_high) in
      record { count = b.count; within = omega (arith, b.there.inside, e); there = rw e at b.there }

  pub reach_above : (offset low middle : ℕ) → IsLeastReach anchor es bytes offset low → (Reaches anchor es bytes offset middle → ⊥) → IsLeastReach anchor es bytes offset (middle + 1)
  reach_above offset low middle least none count is =
      elim (cases_lt middle (offset + count)) [
        | inl over ↦ omega (arith, over)
        | inr under ↦ absurd (none (record { count = count; within = under; there = is }))
      ]

  pub reach_found : (offset reach : ℕ) → Reaches anchor es bytes offset reach → IsLeastReach anchor es bytes offset reach → IsReach anchor es bytes offset reach
  reach_found offset reach r least =
      let far = least r.count r.there in
      let e : r.count ≡ reach - offset = omega (arith, far, r.within) in
      record { beyond = omega (arith, far, r.within); there = rw e at r.there; least = least }

-- ---- a part of the bytes behind an offset is a part of all

length_beyond : (anchor : Anchor) (bytes : List ℕ) (low : ℕ) → length (beyond anchor bytes low) ≡ length bytes - low
length_beyond Bof bytes low = length-drop low bytes
length_beyond Eof bytes low = length-take-le (length bytes - low) bytes (omega arith)

part_beyond : (anchor : Anchor) (bytes : List ℕ) (low o c : ℕ) → low + (o + c) ≤ length bytes → part anchor (beyond anchor bytes low) o c ≡ part anchor bytes (low + o) c
part_beyond Bof bytes low o c inside = ap (λ (xs : List ℕ). take c xs) (drop-drop o low bytes)
part_beyond Eof bytes low o c inside =
    let before : ℕ = length bytes - ((low + o) + c) in
    let same : (length bytes - low) - (o + c) ≡ before = omega arith in
    let whole : length bytes - low ≡ before + (o + c) = omega (arith, inside) in
    ap (λ (n : ℕ). take c (drop (n - (o + c)) (take (length bytes - low) bytes))) (length_beyond Eof bytes low)
    ∙ ap (λ (n : ℕ). take c (drop n (take (length bytes - low) bytes))) same
    ∙ ap (λ (n : ℕ). take c (drop before (take n bytes))) whole
    ∙ ap (λ (xs : List ℕ). take c xs) (drop-take before (o + c) bytes)
    ∙ take-take c (o + c) (drop before bytes) (omega arith)

module _ (anchor : Anchor) (es : List Element) (bytes : List ℕ) (low : ℕ) (fits : low ≤ length bytes) where
  pub at_beyond : (o c : ℕ) → IsAt anchor es (beyond anchor bytes low) o c → IsAt anchor es bytes (low + o) c
  at_beyond o c h =
      let inside : low + (o + c) ≤ length bytes = omega (arith, h.inside, length_beyond anchor bytes low, fits) in
      record { inside = omega (arith, inside); matched = rw (part_beyond anchor bytes low o c inside) at h.matched }

  pub beyond_at : (o c : ℕ) → IsAt anchor es bytes (low + o) c → IsAt anchor es (beyond anchor bytes low) o c
  beyond_at o c h =
      let inside : low + (o + c) ≤ length bytes = omega (arith, h.inside) in
      record { inside = omega (arith, inside, length_beyond anchor bytes low, fits); matched = rw (part_beyond anchor bytes low o c inside) h.matched }

  -- the same, for an offset that is not below the first one
  beyond_from : (o c : ℕ) → low ≤ o → IsAt anchor es bytes o c → IsAt anchor es (beyond anchor bytes low) (o - low) c
  beyond_from o c from h = let e : o ≡ low + (o - low) = omega (arith, from) in beyond_at (o - low) c (rw (sym e) h)

  -- no match begins at the offset or at one of the next ones
  pub none_beyond : (most : ℕ) → (Between anchor es (beyond anchor bytes low) 0 most → ⊥) → Between anchor es bytes low (low + most) → ⊥
  none_beyond most none b = none (record {
    offset = b.offset - low;
    count = b.count;
    from_low = omega arith;
    to_high = omega (arith, b.from_low, b.to_high);
    there = beyond_from b.offset b.count b.from_low b.there;
  })

  pub between_beyond : (k : ℕ) → Between anchor es (beyond anchor bytes low) k k → Between anchor es bytes (low + k) (low + k)
  between_beyond k b = record {
    offset = low + b.offset;
    count = b.count;
    from_low = omega (arith, b.from_low);
    to_high = omega (arith, b.to_high);
    there = at_beyond b.offset b.count b.there;
  }

  -- a match at the offset is one at the beginning of the bytes behind it
  pub begins_beyond : Between anchor es bytes low low → Between anchor es (beyond anchor bytes low) 0 0
  begins_beyond b = record {
    offset = b.offset - low;
    count = b.count;
    from_low = omega arith;
    to_high = omega (arith, b.to_high);
    there = beyond_from b.offset b.count b.from_low b.there;
  }

  -- the first match from the offset on is the first of all, if no match is before that
  pub first_beyond : (from high k most : ℕ) → from ≤ low → low + most ≤ high → IsLeast anchor es bytes from low → IsFirst anchor es (beyond anchor bytes low) 0 most k
      → IsFirst anchor es bytes from high (low + k)
  first_beyond from high k most begun under least f = record {
    from_low = omega (arith, begun);
    to_high = omega (arith, under, f.to_high);
    there = between_beyond k f.there;
    least = λ other count after is.
        let behind = least other count after is in
        let far = f.least (other - low) count (omega arith) (beyond_from other count behind is) in
        omega (arith, behind, far);
  }

-- no match at an offset that may be: none from the first on, or the first one lies behind the last
pub none_up_to : (anchor : Anchor) (es : List Element) (bytes : List ℕ) (low high first : ℕ) → IsLeast anchor es bytes low first → min high (length bytes) < first → Between anchor es bytes low high → ⊥
none_up_to anchor es bytes low high first least over b =
    let far = least b.offset b.count b.from_low b.there in
    omega (arith, far, over, b.to_high, b.there.inside)
