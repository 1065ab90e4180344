-- Streams over one item after another.
use Rattle.std.proofs.Common.{◌≡◌, ℕ, ◌+◌, List, [], ◌∷◌, ◌++◌, length, refl, sym, ap, subst, arith, inl, inr, length-append}
use Rattle.droid_frame.specs.Seen.{IsSound, Lasts}
use Rattle.droid_frame.specs.declared.io.stream_record.Seen.{Seen}
use Rattle.droid_frame.specs.InTurn.{Effect, GoesOver, ReportsFaultInOne, ReportsFaultInTurn}

-- one more
over_more : {S A : Type 0} (seen : S → Seen) (effect : Effect S A) (first : S) (items : List A) (middle : S) (item : A) (last : S)
    → GoesOver seen effect first items middle → effect.whole item middle last → Lasts (seen middle).interruptions (seen last)
    → GoesOver seen effect first (items ++ item ∷ []) last
over_more {S} {A} seen effect first [] middle item last over does lasts =
    (last, subst (λ (s : S). effect.whole item s last) over does, subst (λ (s : S). Lasts (seen s).interruptions (seen last)) over lasts, refl)
over_more {S} {A} seen effect first (x ∷ items) middle item last over does lasts =
    (over.0, over.1, over.2, over_more seen effect over.0 items middle item last over.3 does lasts)

-- a stream did `count` items whole, and hasn't failed
pub record OverItems {S A : Type 0} (seen : S → Seen) (effect : Effect S A) (first now : S) (count : ℕ) : Type 0 where
  pub items : List A
  pub counted : length items ≡ count
  pub over : GoesOver seen effect first items now
  pub sound : IsSound (seen now)

pub over_none : {S A : Type 0} (seen : S → Seen) (effect : Effect S A) (first : S) (count : ℕ) → count ≡ 0 → IsSound (seen first) → OverItems seen effect first first count
over_none {S} {A} seen effect first count none sound = record { items = []; counted = sym none; over = refl; sound = sound }

pub over_next : {S A : Type 0} (seen : S → Seen) (effect : Effect S A) (first now later : S) (count next : ℕ) (item : A) → next ≡ count + 1
    → OverItems seen effect first now count → effect.whole item now later → Lasts (seen now).interruptions (seen later) → OverItems seen effect first later next
over_next {S} {A} seen effect first now later count next item one so_far does lasts = record {
  items = so_far.items ++ item ∷ [];
  counted = omega (arith, one, so_far.counted, length-append so_far.items (item ∷ []));
  over = over_more seen effect first so_far.items now item later so_far.over does lasts;
  sound = lasts.sound;
}

-- a stream that wasn't used lasts
lasts_unused : (old new : Seen) → IsSound old → new ≡ old → Lasts old.interruptions new
lasts_unused old new sound same = subst (λ (s : Seen). Lasts old.interruptions s) (sym same) (record { sound = sound; counted = omega arith; within = omega arith })

-- without the fault the stream lasts in an item
pub lasts_in_one : {S A : Type 0} (seen : S → Seen) (effect : Effect S A) (old new : S) (P : Type 0)
    → IsSound (seen old) → ReportsFaultInOne seen effect old new P → (P → ⊥) → Lasts (seen old).interruptions (seen new)
lasts_in_one {S} {A} seen effect old new P sound (inl whole) not = whole.2
lasts_in_one {S} {A} seen effect old new P sound (inr (inl unused)) not = lasts_unused (seen old) (seen new) sound (ap seen unused.0)
lasts_in_one {S} {A} seen effect old new P sound (inr (inr part)) not = part.1.otherwise not

-- the same fault of one item by another name
pub one_reported_as : {S A : Type 0} (seen : S → Seen) (effect : Effect S A) (old new : S) (P Q : Type 0)
    → ReportsFaultInOne seen effect old new Q → (P → Q) → (Q → P) → ReportsFaultInOne seen effect old new P
one_reported_as {S} {A} seen effect old new P Q (inl whole) to from = inl (whole.0, whole.1, whole.2, λ p. whole.3 (to p))
one_reported_as {S} {A} seen effect old new P Q (inr (inl unused)) to from = inr (inl (unused.0, λ p. unused.1 (to p)))
one_reported_as {S} {A} seen effect old new P Q (inr (inr part)) to from =
    inr (inr (part.0, record { fault = λ p. part.1.fault (to p); otherwise = λ not. part.1.otherwise (λ q. not (from q)) }))

-- after `count` items the stream wasn't used
pub reported_idle : {S A : Type 0} (seen : S → Seen) (effect : Effect S A) (MayBe : ℕ → Type 0) (first now : S) (count : ℕ) (P : Type 0)
    → OverItems seen effect first now count → MayBe count → (P → ⊥) → ReportsFaultInTurn seen effect MayBe first now P
reported_idle {S} {A} seen effect MayBe first now count P so_far may not =
    record { items = so_far.items; middle = now; over = so_far.over; ends = inl (subst MayBe (sym so_far.counted) may, refl, not) }

-- after `count` items, at most one more
pub reported_next : {S A : Type 0} (seen : S → Seen) (effect : Effect S A) (MayBe : ℕ → Type 0) (first now last : S) (count : ℕ) (P Q : Type 0)
    → OverItems seen effect first now count → MayBe count → MayBe (count + 1) → ReportsFaultInOne seen effect now last Q → (P → Q) → (Q → P)
    → ReportsFaultInTurn seen effect MayBe first last P
reported_next {S} {A} seen effect MayBe first now last count P Q so_far none may (inl whole) to from =
    reported_idle seen effect MayBe first last (count + 1) P (over_next seen effect first now last count (count + 1) whole.0 refl so_far whole.1 whole.2) may (λ p. whole.3 (to p))
reported_next {S} {A} seen effect MayBe first now last count P Q so_far none may (inr (inl unused)) to from =
    subst (λ (s : S). ReportsFaultInTurn seen effect MayBe first s P) (sym unused.0) (reported_idle seen effect MayBe first now count P so_far none (λ p. unused.1 (to p)))
reported_next {S} {A} seen effect MayBe first now last count P Q so_far none may (inr (inr part)) to from = record {
  items = so_far.items;
  middle = now;
  over = so_far.over;
  ends = inr (
    subst (λ (n : ℕ). MayBe (n + 1)) (sym so_far.counted) may,
    part.0,
    record {
      fault = λ p. part.1.fault (to p);
      otherwise = λ not. part.1.otherwise (λ q. not (from q));
    },
  );
}

-- the same fault by another name
pub reported_as : {S A : Type 0} (seen : S → Seen) (effect : Effect S A) (MayBe : ℕ → Type 0) (first last : S) (P Q : Type 0)
    → ReportsFaultInTurn seen effect MayBe first last Q → (P → Q) → (Q → P) → ReportsFaultInTurn seen effect MayBe first last P
reported_as {S} {A} seen effect MayBe first last P Q reported to from = record {
  items = reported.items;
  middle = reported.middle;
  over = reported.over;
  ends = elim reported.ends [
    | inl unused ↦ inl (unused.0, unused.1, λ p. unused.2 (to p))
    | inr next ↦ inr (next.0, next.1, record { fault = λ p. next.2.fault (to p); otherwise = λ not. next.2.otherwise (λ q. not (from q)) })
  ];
}

-- of as many by another name
pub reported_within : {S A : Type 0} (seen : S → Seen) (effect : Effect S A) (MayBe CanBe : ℕ → Type 0) (first last : S) (P : Type 0)
    → ReportsFaultInTurn seen effect MayBe first last P → ((count : ℕ) → MayBe count → CanBe count) → ReportsFaultInTurn seen effect CanBe first last P
reported_within {S} {A} seen effect MayBe CanBe first last P reported can = record {
  items = reported.items;
  middle = reported.middle;
  over = reported.over;
  ends = elim reported.ends [
    | inl unused ↦ inl (can (length reported.items) unused.0, unused.1, unused.2)
    | inr next ↦ inr (can (length reported.items + 1) next.0, next.1, next.2)
  ];
}
