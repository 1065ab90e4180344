-- A byte sequence and the registry's that stand for it.
use Rattle.std.proofs.Common.{◌≡◌, ◌↔◌, ◌⊎◌, ℕ, ◌+◌, ◌-◌, ◌≤◌, min, List, [], ◌∷◌, length, take, drop, Option, Some, None, inl, inr, ⊎_elim, refl, sym, subst}
use Rattle.std.specs.Prelude.{IfSome}
use Rattle.droid_pattern.specs.Patterns.{Element, Lang}
use Rattle.droid_pronom.specs.Found.{Hits, HitsFromStart, HitsFromEnd}
use Rattle.droid_pronom.specs.Registry.{AnyOf}
use Rattle.droid_pronom.specs.declared.rows.Anchor.{Anchor}
use Rattle.droid_pronom.specs.declared.rows.Anchor.TheVariants.{Bof, Eof}
use Rattle.droid_pronom.specs.declared.rows.ByteSequence.{ByteSequence}
use Rattle.droid_pronom.specs.declared.rows.Offsets.{Offsets}
use Rattle.droid_signature_file.specs.Records.{SubSequenceRecord, ByteSequenceRecord}
use Rattle.droid_signature_file.specs.declared.sequence.Reference.{Reference}
use Rattle.droid_signature_file.specs.declared.sequence.Reference.TheVariants.{Beginning, End, Other}
use Rattle.droid_signature_file.specs.Expansions.{MatchesAny}
use Rattle.droid_signature_file.specs.Meaning.{HitsFirst, HitsLast, PartsHit, SequenceHits, PartMatches, RowMatches, lowest}
use Rattle.droid_signature_file.specs.Sequences.{StandFor, choices, ArePatternsOf, IsAnchorOf, WholeMatches}

-- some bytes at one of the offsets from the beginning satisfy P
record MatchesFirst (P : List ℕ → Type 0) (low high : ℕ) (file : List ℕ) (scan_limit : ℕ) : Type 0 where
  offset : ℕ
  count : ℕ
  from_low : low ≤ offset
  to_high : offset ≤ high
  inside : offset + count ≤ min scan_limit (length file)
  matched : P (take count (drop offset file))

-- some bytes at one of the offsets from the end satisfy P
record MatchesLast (P : List ℕ → Type 0) (low high : ℕ) (file : List ℕ) (scan_limit : ℕ) : Type 0 where
  offset : ℕ
  count : ℕ
  from_low : low ≤ offset
  to_high : offset ≤ high
  inside : offset + count ≤ min scan_limit (length file)
  matched : P (take count (drop (length file - (offset + count)) file))

first_choices : (low high : ℕ) (patterns : List (List Element)) (file : List ℕ) (scan_limit : ℕ)
    → AnyOf (Hits file scan_limit) (choices (record { anchor = Bof; min = low; max = high }) patterns) ↔ MatchesFirst (MatchesAny patterns) low high file scan_limit
first_choices low high [] file scan_limit = (λ none. absurd none, λ (m : MatchesFirst (MatchesAny []) low high file scan_limit). absurd m.matched)
first_choices low high (es ∷ patterns) file scan_limit =
    let more = first_choices low high patterns file scan_limit in (
      λ h. ⊎_elim
          (λ (one : HitsFromStart (record { offsets = record { anchor = Bof; min = low; max = high }; pattern = es }) file scan_limit).
          record { offset = one.offset; count = one.count; from_low = one.from_min; to_high = one.to_max; inside = one.inside; matched = inl one.matched })
          (λ other. let m : MatchesFirst (MatchesAny patterns) low high file scan_limit = more.0 other in
          record { offset = m.offset; count = m.count; from_low = m.from_low; to_high = m.to_high; inside = m.inside; matched = inr m.matched }) h,
      λ (m : MatchesFirst (MatchesAny (es ∷ patterns)) low high file scan_limit). ⊎_elim
          (λ one. inl (record { offset = m.offset; count = m.count; from_min = m.from_low; to_max = m.to_high; inside = m.inside; matched = one }))
          (λ other. inr (more.1 (record { offset = m.offset; count = m.count; from_low = m.from_low; to_high = m.to_high; inside = m.inside; matched = other }))) m.matched,
    )

last_choices : (low high : ℕ) (patterns : List (List Element)) (file : List ℕ) (scan_limit : ℕ)
    → AnyOf (Hits file scan_limit) (choices (record { anchor = Eof; min = low; max = high }) patterns) ↔ MatchesLast (MatchesAny patterns) low high file scan_limit
last_choices low high [] file scan_limit = (λ none. absurd none, λ (m : MatchesLast (MatchesAny []) low high file scan_limit). absurd m.matched)
last_choices low high (es ∷ patterns) file scan_limit =
    let more = last_choices low high patterns file scan_limit in (
      λ h. ⊎_elim
          (λ (one : HitsFromEnd (record { offsets = record { anchor = Eof; min = low; max = high }; pattern = es }) file scan_limit).
          record { offset = one.offset; count = one.count; from_low = one.from_min; to_high = one.to_max; inside = one.inside; matched = inl one.matched })
          (λ other. let m : MatchesLast (MatchesAny patterns) low high file scan_limit = more.0 other in
          record { offset = m.offset; count = m.count; from_low = m.from_low; to_high = m.to_high; inside = m.inside; matched = inr m.matched }) h,
      λ (m : MatchesLast (MatchesAny (es ∷ patterns)) low high file scan_limit). ⊎_elim
          (λ one. inl (record { offset = m.offset; count = m.count; from_min = m.from_low; to_max = m.to_high; inside = m.inside; matched = one }))
          (λ other. inr (more.1 (record { offset = m.offset; count = m.count; from_low = m.from_low; to_high = m.to_high; inside = m.inside; matched = other }))) m.matched,
    )

-- an upper offset that is there
top : (o : Option ℕ) (high n : ℕ) → o ≡ Some high → IfSome o (λ most. n ≤ most) ↔ (n ≤ high)
top o high n is = (λ h. (rw is at h), λ h. rw is h)

by_first : (part : SubSequenceRecord) (further : List SubSequenceRecord) (low high : ℕ) (patterns : List (List Element)) (file : List ℕ) (scan_limit : ℕ)
    → low ≡ lowest part.offsets → part.offsets.max ≡ Some high → ArePatternsOf (RowMatches part further) patterns
    → MatchesFirst (MatchesAny patterns) low high file scan_limit ↔ HitsFirst part further file scan_limit
by_first part further low high patterns file scan_limit bottom is says = (
  λ (m : MatchesFirst (MatchesAny patterns) low high file scan_limit). record {
    offset = m.offset;
    count = m.count;
    within = (rw (sym bottom) m.from_low, (top part.offsets.max high m.offset is).1 m.to_high);
    inside = m.inside;
    matched = (says (take m.count (drop m.offset file))).0 m.matched;
  },
  λ (m : HitsFirst part further file scan_limit). record {
    offset = m.offset;
    count = m.count;
    from_low = rw bottom m.within.0;
    to_high = (top part.offsets.max high m.offset is).0 m.within.1;
    inside = m.inside;
    matched = (says (take m.count (drop m.offset file))).1 m.matched;
  },
)

by_last : (part : SubSequenceRecord) (low high : ℕ) (patterns : List (List Element)) (file : List ℕ) (scan_limit : ℕ)
    → low ≡ lowest part.offsets → part.offsets.max ≡ Some high → ArePatternsOf (PartMatches part) patterns
    → MatchesLast (MatchesAny patterns) low high file scan_limit ↔ HitsLast part file scan_limit
by_last part low high patterns file scan_limit bottom is says = (
  λ (m : MatchesLast (MatchesAny patterns) low high file scan_limit). record {
    offset = m.offset;
    count = m.count;
    within = (rw (sym bottom) m.from_low, (top part.offsets.max high m.offset is).1 m.to_high);
    inside = m.inside;
    matched = (says (take m.count (drop (length file - (m.offset + m.count)) file))).0 m.matched;
  },
  λ (m : HitsLast part file scan_limit). record {
    offset = m.offset;
    count = m.count;
    from_low = rw bottom m.within.0;
    to_high = (top part.offsets.max high m.offset is).0 m.within.1;
    inside = m.inside;
    matched = (says (take m.count (drop (length file - (m.offset + m.count)) file))).1 m.matched;
  },
)

-- the choices of subsequences hit as they do
parts_hit : (reference : Reference) (part : SubSequenceRecord) (further : List SubSequenceRecord) (anchor : Anchor) (low high : ℕ) (patterns : List (List Element))
    (file : List ℕ) (scan_limit : ℕ) → IsAnchorOf reference anchor → low ≡ lowest part.offsets → part.offsets.max ≡ Some high → ArePatternsOf (WholeMatches reference part further) patterns
    → AnyOf (Hits file scan_limit) (choices (record { anchor = anchor; min = low; max = high }) patterns) ↔ PartsHit reference (part ∷ further) file scan_limit
parts_hit Beginning part further anchor low high patterns file scan_limit from bottom is says =
    let here = first_choices low high patterns file scan_limit in
    let there = by_first part further low high patterns file scan_limit bottom is says in (
      λ h. there.0 (here.0 (rw from at h)),
      λ h. rw from (here.1 (there.1 h)),
    )
parts_hit End part [] anchor low high patterns file scan_limit from bottom is says =
    let here = last_choices low high patterns file scan_limit in
    let there = by_last part low high patterns file scan_limit bottom is says in (
      λ h. there.0 (here.0 (rw from at h)),
      λ h. rw from (here.1 (there.1 h)),
    )
parts_hit End part (another ∷ more) anchor low high patterns file scan_limit from bottom is says =
    let here = last_choices low high patterns file scan_limit in (
      λ h. let m : MatchesLast (MatchesAny patterns) low high file scan_limit = here.0 (rw from at h) in
          (says (take m.count (drop (length file - (m.offset + m.count)) file))).0 m.matched,
      λ none. absurd none,
    )
parts_hit Other part further anchor low high patterns file scan_limit none bottom is says = absurd none

pub choices_hit : (sequence : ByteSequenceRecord) (offsets : Offsets) (patterns : List (List Element)) (file : List ℕ) (scan_limit : ℕ)
    → StandFor sequence offsets patterns → AnyOf (Hits file scan_limit) (choices offsets patterns) ↔ SequenceHits file scan_limit sequence
choices_hit sequence offsets patterns file scan_limit s =
    let all = parts_hit sequence.reference s.part s.further offsets.anchor offsets.min offsets.max patterns file scan_limit s.anchor s.from_min s.to_max s.matched in
    let P : List SubSequenceRecord → Type 0 = λ parts. AnyOf (Hits file scan_limit) (choices offsets patterns) ↔ PartsHit sequence.reference parts file scan_limit in
    subst P (sym s.parts) all
