-- What a reader of lines returns of a script, one line at a time (this project's own rule).
use Rattle.std.specs.Prelude.{◌≡◌, ℕ, Bool, true, false, List, [], ◌∷◌, ◌++◌, Option, Some, None}
use Rattle.std.specs.List.{AllByRecursion}
use Rattle.droid_frame.specs.Seen.{Counts, GivesUp}
use Rattle.droid_frame.specs.declared.io.stream_record.Seen.{Seen}
use Rattle.droid_lines.specs.Lines.{is_line_feed, lines_of}

-- the next line of the rest of a script was returned, and this is left after it; or no line was left
abbrev pub GivesLine : List ℕ → Option (List ℕ) → Option (List ℕ) → Type 0
GivesLine script left None = (lines_of script ≡ []) × (left ≡ Some [])
GivesLine script left (Some line) = (rest : List ℕ) × (left ≡ Some rest) × (lines_of script ≡ line ∷ lines_of rest)

-- a line, unless it is empty
abbrev pub where_some : List ℕ → Option (List ℕ)
where_some [] = None
where_some (byte ∷ bytes) = Some (byte ∷ bytes)

-- a fault of the reader is returned exactly where it is given up; otherwise the count of its interruptions continues
pub record CountsUnless (start : ℕ) (seen : Seen) (count : ℕ) (is_fault : Type 0) : Type 0 where
  pub fault : is_fault → GivesUp start seen
  pub otherwise : (is_fault → ⊥) → Counts start seen count

-- ---- for inner clauses and proofs: the parts of a line

-- no line feed is among them
abbrev pub HasNoFeed : List ℕ → Type 0
HasNoFeed bytes = AllByRecursion (λ byte. is_line_feed byte ≡ false) bytes

-- the bytes before the first line feed were moved, and it was dropped
pub record MovesToFeed (old new before after : List ℕ) : Type 0 where
  pub front : List ℕ
  pub plain : HasNoFeed front
  pub cut : old ≡ front ++ 10 ∷ new
  pub moved : after ≡ before ++ front

-- there was no line feed, and all bytes were moved
pub record MovesAll (old new before after : List ℕ) : Type 0 where
  pub plain : HasNoFeed old
  pub none_left : new ≡ []
  pub moved : after ≡ before ++ old

-- either, by whether there was a line feed
abbrev pub Moves : Bool → List ℕ → List ℕ → List ℕ → List ℕ → Type 0
Moves true old new before after = MovesToFeed old new before after
Moves false old new before after = MovesAll old new before after
