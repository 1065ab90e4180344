-- Noting the files that first records end, one record after another.
use Rattle.std.proofs.Common.{◌≡◌, ℕ, Bool, true, false, ◌||◌, eqb, List, [], ◌∷◌, ◌++◌, sym, ap, ◌∙◌}
use Rattle.droid_journal.specs.Records.{Record, made}
use Rattle.droid_compaction.specs.Fields.{file_in, is_end, stamp_in}
use Rattle.droid_compaction.specs.Noting.{AreNoted}
use Rattle.droid_compaction.specs.Numbers.{has_number}
use Rattle.droid_compaction.specs.Shortening.{has_ended, has_stamp, once}
use Rattle.droid_compaction.specs.declared.numbers.Numbers.{Numbers}
use Rattle.droid_compaction.proofs.Ending.{ended_as_before, ended_one_more}
use Rattle.droid_compaction.proofs.Shortening.{once_as_before, once_with, stamps_as_before, stamps_one_more}

module _ (files stamps : Numbers) (before : List Record) (noted : AreNoted files stamps before) (first : Bool) (request reply : List ℕ) where
  abbrev it : Record
  it = made first request reply

  -- a request that came again
  pub noted_again : has_number stamps (stamp_in request) ≡ true → AreNoted files stamps (before ++ it ∷ [])
  noted_again reported =
      let known : has_stamp before (stamp_in request) ≡ true = sym (noted.stamps_are (stamp_in request)) ∙ reported in
      record {
        files_are = λ file. noted.files_are file ∙ sym (ap (λ (xs : List Record). has_ended xs file) (once_as_before before it known));
        stamps_are = λ stamp. noted.stamps_are stamp ∙ sym (stamps_as_before before it stamp known);
      }

  -- a new one
  module _ (more : Numbers) (reported : has_number stamps (stamp_in request) ≡ false) (added : (stamp : ℕ) → has_number more stamp ≡ (eqb (stamp_in request) stamp || has_number stamps stamp)) where
    one_more : once [] (before ++ it ∷ []) ≡ once [] before ++ it ∷ []
    one_more = once_with before it (sym (noted.stamps_are (stamp_in request)) ∙ reported)

    stamps_now : (stamp : ℕ) → has_number more stamp ≡ has_stamp (before ++ it ∷ []) stamp
    stamps_now stamp = added stamp ∙ ap (λ (b : Bool). eqb (stamp_in request) stamp || b) (noted.stamps_are stamp) ∙ sym (stamps_one_more before it stamp)

    pub noted_other : is_end request reply ≡ false → AreNoted files more (before ++ it ∷ [])
    noted_other other = record {
      files_are = λ file. noted.files_are file ∙ sym (ended_as_before (once [] before) first request reply file other) ∙ sym (ap (λ (xs : List Record). has_ended xs file) one_more);
      stamps_are = stamps_now;
    }

    pub noted_end : (grown : Numbers) → ((file : ℕ) → has_number grown file ≡ (eqb (file_in request) file || has_number files file)) → is_end request reply ≡ true → AreNoted grown more (before ++ it ∷ [])
    noted_end grown known end = record {
      files_are = λ file.
          known file ∙ ap (λ (b : Bool). eqb (file_in request) file || b) (noted.files_are file) ∙ sym (ended_one_more (once [] before) first request reply file end)
          ∙ sym (ap (λ (xs : List Record). has_ended xs file) one_more);
      stamps_are = stamps_now;
    }
