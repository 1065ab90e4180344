-- A file that was made smaller, and what opening finds in it.
use Rattle.std.proofs.Common.{◌≡◌, ℕ, ◌<◌, Bool, true, false, List, [], ◌++◌, length, refl, sym, ap, subst, ◌∙◌, arith}
use Rattle.std.proofs.lemmas.List.{length-append}
use Rattle.droid_core_spec.specs.Histories.{History}
use Rattle.droid_core_spec.specs.Setting.{Setting}
use Rattle.droid_recovery.specs.BareWorlds.{Bare}
use Rattle.droid_journal.specs.Opening.{WasFound, Records, Begun}
use Rattle.droid_journal.specs.Chains.{chain_bytes, first_place, journal_bytes, key_of, last_place}
use Rattle.droid_journal.specs.Records.{AllFit, Record, turn_mark}
use Rattle.droid_compaction.proofs.Wholes.{mark_few, read_few, same_records}
use Rattle.droid_compaction.specs.Shortening.{IsShortened, IsWhole, has_ended, once, shortened}
use Rattle.droid_recovery.proofs.Ended.{are_ended}
use Rattle.droid_recovery.proofs.SmallerRecords.{goes}
use Rattle.droid_recovery.proofs.Stamps.{no_stamps}
use Rattle.droid_recovery.specs.SmallerFiles.{bare_after}
use Rattle.droid_recovery.specs.BareRecords.{LeadTo}

-- opening finds the records of a file that is a journal of records, and a few bytes behind them
pub found_few : (header file tail : List ℕ) (its read : List Record) → AllFit its → file ≡ journal_bytes header its ++ tail → length tail < 25 → WasFound header file read → read ≡ its
found_few header file tail its read fit is few (Records rest chain later) = read_few header file tail its read rest fit is few chain
found_few header file tail its read fit is few (Begun count begun none) =
    absurd (omega (arith, begun.size, begun.short, ap length is, length-append (journal_bytes header its) tail, length-append header (chain_bytes (key_of header) (first_place header) its)))

module _ (setting : Setting) (bare : Bare) (its : List Record) (history : History) where
  pub smaller_stand : LeadTo setting bare its history → LeadTo setting (bare_after bare its) (shortened its) history
  smaller_stand stand = record {
    have = goes setting bare (has_ended (once [] its)) its [] [] history no_stamps stand.have;
    ended = are_ended setting bare its history stand.have stand.ended (has_ended (once [] its)) (λ number is. is);
  }

  pub smaller_file : (header new file bytes : List ℕ) (read : List Record) → IsWhole header file its → LeadTo setting bare its history → IsShortened header new file bytes → WasFound new bytes read
      → LeadTo setting (bare_after bare its) read history
  smaller_file header new file bytes read whole stand (old, was, fit, is) found =
      let same : old ≡ its = same_records header file its old whole was in
      let there : read ≡ shortened old = found_few new bytes (turn_mark (key_of new) (last_place new (shortened old)).at) (shortened old) read fit is (mark_few new (shortened old)) found in
      subst (λ (rs : List Record). LeadTo setting (bare_after bare its) rs history) (sym (there ∙ ap shortened same)) (smaller_stand stand)
