-- What a reader sees of a journal of which one byte was changed (this project's own).
use Rattle.std.specs.Prelude.{◌≡◌, ◌≢◌, ◌≤◌, ℕ, List, ◌∷◌, ◌++◌, length}
use Rattle.droid_journal.specs.Chains.{Chain, NotByChance, ShowsDamage, checked, journal_bytes}
use Rattle.droid_journal.specs.Fronts.{IsFront}
use Rattle.droid_journal.specs.Records.{Record}

-- the other bytes are these with another byte at one place: so a changed bit is one
pub record IsChanged (bytes other : List ℕ) (place : ℕ) : Type 0 where
  pub front : List ℕ
  pub back : List ℕ
  pub was : ℕ
  pub is : ℕ
  pub size : length front ≡ place
  pub bytes_are : bytes ≡ front ++ was ∷ back
  pub other_are : other ≡ front ++ is ∷ back
  pub differ : was ≢ is

-- The premise, on check values alone. In the changed file no other header of this size has a right check value, and no
-- record but the next that was written has one behind records that were written.
pub record ChecksHold (front : List ℕ) (its : List Record) (other : List ℕ) : Type 0 where
  pub header : (begun : List ℕ) → length begun ≡ length front → IsFront (checked begun) other → begun ≡ front
  pub records : NotByChance (checked front) its other

-- What a reader sees of the changed file: no header, damage, or all records as they were.
pub data Sees (front : List ℕ) (its : List Record) (other : List ℕ) (place : ℕ) : Type 0 where
  NoHeader : (none : (begun : List ℕ) → length begun ≡ length front → IsFront (checked begun) other → ⊥)
      → Sees front its other place
  Damaged : (shows : (read : List Record) (rest : List ℕ) → Chain (checked front) other read rest
      → ShowsDamage (checked front) read rest)
      → Sees front its other place
  -- the change lies in the mark behind the last answered turn
  Unanswered : (behind : length (journal_bytes (checked front) its) ≤ place)
      (same : (read : List Record) (rest : List ℕ) → Chain (checked front) other read rest → read ≡ its)
      → Sees front its other place
