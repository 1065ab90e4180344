-- Weighing pieces, one record after another.
use Rattle.std.proofs.Common.{◌≡◌, ℕ, ◌+◌, ◌&&◌, Bool, cond, List, [], ◌∷◌, ◌++◌, refl, sym, ap, ◌∙◌, arith}
use Rattle.std.proofs.lemmas.List.Sums.{sum_by-cons, sum_by_push}
use Rattle.std.specs.List.{sum_by}
use Rattle.droid_journal.specs.Records.{Record}
use Rattle.droid_compaction.specs.Fields.{file_in, is_about}
use Rattle.droid_compaction.specs.Numbers.{has_number}
use Rattle.droid_compaction.specs.Sizes.{piece_bytes, size_of}
use Rattle.droid_compaction.specs.Weighing.{AreWeighed}
use Rattle.droid_compaction.specs.declared.numbers.Numbers.{Numbers}

-- the weight of a record depends on whether its own file is one of the files
pub same_weight : (files noted : ℕ → Bool) (it : Record) → noted (file_in it.request) ≡ files (file_in it.request) → piece_bytes noted it ≡ piece_bytes files it
same_weight files noted it is = ap (λ (b : Bool). cond (is_about 4 it.request it.reply && b) (size_of it) 0) is

pub weighed_more : (files : ℕ → Bool) (noted : Numbers) (old new : ℕ) (before : List Record) (it : Record) → AreWeighed files noted old before → new ≡ old + piece_bytes (has_number noted) it → AreWeighed files noted new (before ++ it ∷ [])
weighed_more files noted old new before it weighed is = record {
  files_are = weighed.files_are;
  bytes_are = omega (arith, is, weighed.bytes_are, same_weight files (has_number noted) it (weighed.files_are (file_in it.request)), sum_by_push (piece_bytes files) before it);
}

pub weights_same : (one other : ℕ → Bool) (its : List Record) → ((file : ℕ) → one file ≡ other file) → sum_by (piece_bytes one) its ≡ sum_by (piece_bytes other) its
weights_same one other [] same = refl
weights_same one other (it ∷ its) same =
    sum_by-cons (piece_bytes one) it its ∙ ap (λ (n : ℕ). n + sum_by (piece_bytes one) its) (same_weight other one it (same (file_in it.request)))
    ∙ ap (λ (n : ℕ). piece_bytes other it + n) (weights_same one other its same) ∙ sym (sum_by-cons (piece_bytes other) it its)
