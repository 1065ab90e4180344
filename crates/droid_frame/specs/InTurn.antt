-- Streams over several frames, replies or lines, one after another. In each of them 64 interruptions are tried again
-- (this project's own rule).
use Rattle.std.specs.Prelude.{◌≡◌, ℕ, ◌+◌, ◌⊎◌, List, [], ◌∷◌, length, ◌≤◌, Option, IfSome}
use Rattle.droid_frame.specs.declared.io.stream_record.Seen.{Seen}
use Rattle.droid_frame.specs.Seen.{Lasts, ReportsFault}

-- What an item (a frame, a reply or a line) does to a stream: `whole` relates the stream before and after all of this
-- item, `part` the stream before and after less than one item.
pub record Effect (S A : Type 0) : Type 1 where
  pub whole : A → S → S → Type 0
  pub part : S → S → Type 0

-- The stream did these items one after another, each of them whole. In each it lasted: it didn't fail, and was
-- interrupted at most 64 times.
abbrev pub GoesOver : {S A : Type 0} → (S → Seen) → Effect S A → S → List A → S → Type 0
GoesOver {S} {A} seen effect first [] last = last ≡ first
GoesOver {S} {A} seen effect first (item ∷ items) last =
    (middle : S) × effect.whole item first middle × Lasts (seen first).interruptions (seen middle)
    × GoesOver seen effect middle items last

-- A call reports the fault exactly where the stream is given up in one item: there it failed or was interrupted for the
-- 65th time. The stream did some items whole, and lasted in each. After them the call didn't use the stream and doesn't
-- report the fault; or it did less than one item more, and reports the fault exactly where the stream is given up in
-- that one. `MayBe` says how many items there may be.
pub record ReportsFaultInTurn {S A : Type 0} (seen : S → Seen) (effect : Effect S A) (MayBe : ℕ → Type 0)
    (first last : S) (is_fault : Type 0) : Type 0 where
  pub items : List A
  pub middle : S
  pub over : GoesOver seen effect first items middle
  pub ends : (MayBe (length items) × (last ≡ middle) × (is_fault → ⊥))
      ⊎ (MayBe (length items + 1) × effect.part middle last
      × ReportsFault (seen middle).interruptions (seen last) is_fault)

-- The same for at most one item: it was done whole, and the stream lasted; or the stream wasn't used; or less than the
-- item was done.
abbrev pub ReportsFaultInOne : {S A : Type 0} → (S → Seen) → Effect S A → S → S → Type 0 → Type 0
ReportsFaultInOne {S} {A} seen effect old new is_fault =
    ((item : A) × effect.whole item old new × Lasts (seen old).interruptions (seen new) × (is_fault → ⊥))
    ⊎ ((new ≡ old) × (is_fault → ⊥))
    ⊎ (effect.part old new × ReportsFault (seen old).interruptions (seen new) is_fault)

-- the bytes, where they are known, allow at most `most` of them
abbrev pub AtMost : Option (List ℕ) → (List ℕ → ℕ) → ℕ → Type 0
AtMost known most count = IfSome known (λ bytes. count ≤ most bytes)
