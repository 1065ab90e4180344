-- For inner clauses and proofs: records of the smaller journal that were written.
use Rattle.std.specs.Prelude.{◌≡◌, ℕ, List, ◌++◌, length}
use Rattle.droid_journal.specs.Chains.{journal_bytes, key_of, last_place}
use Rattle.droid_journal.specs.Records.{AllFit, Record}
use Rattle.droid_compaction.specs.Aims.{Aim}
use Rattle.droid_compaction.specs.Numbers.{has_number}
use Rattle.droid_compaction.specs.Shortening.{has_stamp, smaller_by}
use Rattle.droid_compaction.specs.declared.rewriter.Rewriter.{Rewriter}

-- These records were written, but for what is still collected. The files that have ended and the stamps so far are
-- noted.
pub record IsWriting {N : Type 0} (has : N → List ℕ → Type 0) (aim : Aim) (rewriter : Rewriter N) (its : List Record)
    : Type 0 where
  pub written : List ℕ
  pub there : has rewriter.file written
  pub joined : written ++ rewriter.out.items ≡ journal_bytes aim.header (smaller_by aim.ended its)
  pub key_is : rewriter.key ≡ key_of aim.header
  pub place_is : rewriter.place ≡ last_place aim.header (smaller_by aim.ended its)
  pub bytes_are : rewriter.bytes ≡ length written
  pub fit : AllFit (smaller_by aim.ended its)
  pub ended_are : (file : ℕ) → has_number rewriter.ended file ≡ aim.ended file
  pub stamps_are : (stamp : ℕ) → has_number rewriter.stamps stamp ≡ has_stamp its stamp
