-- Whether an entry is one of some files, looked at one after the other.
use Rattle.std.proofs.Common.{◌≡◌, ◌∙◌, ◌+◌, ◌<◌, ◌≤◌, ◌||◌, ℕ, Bool, true, false, List, length, take, get_or, sym, ap}
use Rattle.std.specs.List.{list_any}
use Rattle.std.proofs.lemmas.List.{take_all}
use Rattle.std.proofs.lemmas.List.Folds.{list_any_at, list_any_more}

module _ {X : Type 0} (test : X → Bool) (items : List X) (at : ℕ) where
  -- one more that is not
  pub none_more : (item : X) → at < length items → item ≡ get_or items at item → list_any test (take at items) ≡ false → test item ≡ false → list_any test (take (at + 1) items) ≡ false
  none_more item within is none not =
      list_any_more test items at item within ∙ (ap (λ (b : Bool). b || test (get_or items at item)) none ∙ (ap test (sym is) ∙ not))

  -- one that is
  pub one_at : (item : X) → at < length items → item ≡ get_or items at item → test item ≡ true → list_any test items ≡ true
  one_at item within is passes = list_any_at test items at item within (ap test (sym is) ∙ passes)

  -- none of all
  pub none_at_all : length items ≤ at → list_any test (take at items) ≡ false → list_any test items ≡ false
  none_at_all all none = ap (list_any test) (sym (take_all at items all)) ∙ none
