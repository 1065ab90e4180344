-- Where a byte sequence matches in a file, and which of its matches is reported (this project's own).
use Rattle.std.specs.Prelude.{◌≡◌, ℕ, ◌+◌, ◌-◌, ◌≤◌, min, List, length, take, drop}
use Rattle.droid_pattern.specs.Patterns.{Lang}
use Rattle.droid_pronom.specs.Finding.{part}
use Rattle.droid_pronom.specs.declared.rows.Anchor.{Anchor}
use Rattle.droid_pronom.specs.declared.rows.Anchor.TheVariants.{Bof, Eof}
use Rattle.droid_pronom.specs.declared.rows.ByteSequence.{ByteSequence}
use Rattle.droid_identity.specs.declared.found_match.Match.{Match}

-- The byte sequence matches `count` bytes of the file, at one of its offsets, and the match lies within the scan limit.
pub record IsMatch (file : List ℕ) (scan_limit : ℕ) (sequence : ByteSequence) (offset count : ℕ) : Type 0 where
  pub from_min : sequence.offsets.min ≤ offset
  pub to_max : offset ≤ sequence.offsets.max
  pub inside : offset + count ≤ min scan_limit (length file)
  pub matched : Lang sequence.pattern (part sequence.offsets.anchor file offset count)

-- the byte sequence has a match
pub record HitsIn (file : List ℕ) (scan_limit : ℕ) (sequence : ByteSequence) : Type 0 where
  pub offset : ℕ
  pub count : ℕ
  pub is : IsMatch file scan_limit sequence offset count

-- Of all matches of the byte sequence it has the least offset, and of those at this offset it is the shortest.
pub record IsNearest (file : List ℕ) (scan_limit : ℕ) (sequence : ByteSequence) (its : Match) : Type 0 where
  pub anchor : its.anchor ≡ sequence.offsets.anchor
  pub is : IsMatch file scan_limit sequence its.offset its.count
  pub nearest : (offset count : ℕ) → IsMatch file scan_limit sequence offset count → its.offset ≤ offset
  pub shortest : (count : ℕ) → IsMatch file scan_limit sequence its.offset count → its.count ≤ count

-- the first or the last bytes of a file: those in which byte sequences of this anchor are searched
abbrev pub window_of : Anchor → List ℕ → List ℕ → List ℕ
window_of Bof first last = first
window_of Eof first last = last

-- These are the first and last bytes of a file: as many as the scan limit leaves of it.
pub record AreEnds (file : List ℕ) (scan_limit : ℕ) (first last : List ℕ) : Type 0 where
  pub same : length first ≡ length last
  pub reached : min scan_limit (length file) ≡ length first
  pub begins : take (length first) file ≡ first
  pub ends : drop (length file - length first) file ≡ last

-- the byte sequence has a match in the first or the last bytes of a file, as its anchor says
abbrev pub HitsEnds : List ℕ → List ℕ → ByteSequence → Type 0
HitsEnds first last sequence =
    HitsIn (window_of sequence.offsets.anchor first last) (length (window_of sequence.offsets.anchor first last))
    sequence

-- the match is the nearest one in those bytes
abbrev pub IsNearestOfEnds : List ℕ → List ℕ → ByteSequence → Match → Type 0
IsNearestOfEnds first last sequence its =
    IsNearest (window_of sequence.offsets.anchor first last) (length (window_of sequence.offsets.anchor first last))
    sequence its
