-- Which files records end.
use Rattle.std.proofs.Common.{◌≡◌, ℕ, Bool, true, false, ◌||◌, eqb, List, [], ◌∷◌, ◌++◌, refl, ap, ◌∙◌}
use Rattle.std.proofs.lemmas.List.Folds.{list_any-append}
use Rattle.droid_journal.specs.Records.{Record, made}
use Rattle.droid_compaction.specs.Fields.{file_in, is_end}
use Rattle.droid_compaction.specs.Shortening.{ends, has_ended}

pub or_none : (b : Bool) → (b || false) ≡ b
or_none true = refl
or_none false = refl

pub or_swapped : (a b : Bool) → (a || (b || false)) ≡ (b || a)
or_swapped true true = refl
or_swapped true false = refl
or_swapped false true = refl
or_swapped false false = refl

module _ (before : List Record) (first : Bool) (request reply : List ℕ) (file : ℕ) where
  -- another request ends nothing
  pub ended_as_before : is_end request reply ≡ false → has_ended (before ++ made first request reply ∷ []) file ≡ has_ended before file
  ended_as_before other =
      let one : ends file (made first request reply) ≡ false = rw other refl in
      list_any-append (ends file) before (made first request reply ∷ []) ∙ ap (λ (b : Bool). has_ended before file || (b || false)) one ∙ or_none (has_ended before file)

  pub ended_one_more : is_end request reply ≡ true → has_ended (before ++ made first request reply ∷ []) file ≡ (eqb (file_in request) file || has_ended before file)
  ended_one_more end =
      let one : ends file (made first request reply) ≡ eqb (file_in request) file = rw end refl in
      list_any-append (ends file) before (made first request reply ∷ []) ∙ ap (λ (b : Bool). has_ended before file || (b || false)) one ∙ or_swapped (has_ended before file) (eqb (file_in request) file)
