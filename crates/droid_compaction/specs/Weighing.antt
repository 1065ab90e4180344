-- For inner clauses and proofs: the bytes that the pieces of some files have so far.
use Rattle.std.specs.Prelude.{◌≡◌, ℕ, Bool, List}
use Rattle.std.specs.List.{sum_by}
use Rattle.droid_journal.specs.Records.{Record}
use Rattle.droid_compaction.specs.Numbers.{has_number}
use Rattle.droid_compaction.specs.Sizes.{piece_bytes}
use Rattle.droid_compaction.specs.declared.numbers.Numbers.{Numbers}

-- the pieces of these files have this many bytes in all
pub record AreWeighed (files : ℕ → Bool) (noted : Numbers) (bytes : ℕ) (its : List Record) : Type 0 where
  pub files_are : (file : ℕ) → has_number noted file ≡ files file
  pub bytes_are : bytes ≡ sum_by (piece_bytes files) its
