-- How many bytes and records there are (this project's own).
use Rattle.std.specs.Prelude.{◌≡◌, ◌<◌, ℕ, ◌+◌, ◌*◌, ◌&&◌, if◌then◌else◌, Bool, List, [], length}
use Rattle.std.specs.List.{sum_by}
use Rattle.droid_journal.specs.Chains.{marked_bytes}
use Rattle.droid_journal.specs.Records.{Record}
use Rattle.droid_compaction.specs.Fields.{file_in, is_about}
use Rattle.droid_compaction.specs.Shortening.{IsWhole, has_ended, once, shortened}
use Rattle.droid_compaction.specs.declared.size.Size.{Size}

-- the bytes of a record without its mark: a byte, two lengths of four bytes, the two frames, and the check value
abbrev pub size_of : Record → ℕ
size_of it = length it.request + length it.reply + 25

-- the record is a piece (kind 4) of one of these files
abbrev pub is_piece_of : (ℕ → Bool) → Record → Bool
is_piece_of files it = is_about 4 it.request it.reply && files (file_in it.request)

-- the bytes of a record, if it is a piece of one of these files
abbrev pub piece_bytes : (ℕ → Bool) → Record → ℕ
piece_bytes files it = if is_piece_of files it then size_of it else 0

-- More than half of the bytes of a file with these records are of pieces of files that have ended.
abbrev pub AreMostlyEnded : List ℕ → List Record → Type 0
AreMostlyEnded file its = length file < 2 * sum_by (piece_bytes (has_ended (once [] its))) its

-- the size is that of a file with these records
pub record IsSizeOf (file : List ℕ) (its : List Record) (size : Size) : Type 0 where
  pub records_are : size.records ≡ length its
  pub bytes_are : size.bytes ≡ length file

-- the one size is that of the file, and the other that of the smaller journal of its records under the new header
abbrev pub AreSizes : List ℕ → List ℕ → List ℕ → Size → Size → Type 0
AreSizes header new file before after =
    (its : List Record) × IsWhole header file its × IsSizeOf file its before
    × IsSizeOf (marked_bytes new (shortened its)) (shortened its) after
