-- For inner clauses and proofs: what was noted of the records so far.
use Rattle.std.specs.Prelude.{◌≡◌, ℕ, [], List}
use Rattle.droid_journal.specs.Records.{Record}
use Rattle.droid_compaction.specs.Numbers.{has_number}
use Rattle.droid_compaction.specs.Shortening.{has_ended, has_stamp, once}
use Rattle.droid_compaction.specs.declared.numbers.Numbers.{Numbers}

-- the files that the first records of a number end, and the stamps of all
pub record AreNoted (files stamps : Numbers) (its : List Record) : Type 0 where
  pub files_are : (file : ℕ) → has_number files file ≡ has_ended (once [] its) file
  pub stamps_are : (stamp : ℕ) → has_number stamps stamp ≡ has_stamp its stamp
