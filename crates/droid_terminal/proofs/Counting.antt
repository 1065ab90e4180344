-- Counting formats, one after the other.
use Rattle.std.proofs.Common.{◌≡◌, ℕ, zero, suc, ◌+◌, ◌<◌, ◌≤◌, max, if◌then◌else◌, Bool, true, false, cond, List, [], ◌∷◌, ◌++◌, Option, None, Some, is_some, unwrap_or, length, take, get_or, String, bytes_eq, count_by, refl, sym, ap, subst, ◌∙◌, zero-add, arith}
use Rattle.std.specs.BTreeMap.{BTreeMap, get_by_text}
use Rattle.std.specs.Map.{update}
use Rattle.std.proofs.lemmas.Bool.Decides.{nat_tests}
use Rattle.std.proofs.lemmas.List.{take_more, take_all}
use Rattle.std.proofs.lemmas.List.Sums.{sum_by-append}
use Rattle.std.proofs.lemmas.Slice.Eq.{bytes_eq-Decides}
use Rattle.droid_terminal.specs.Units.{saturated}
use Rattle.droid_terminal.specs.WalkCounts.{CountsFormats, count_in, with_more}

with_both : (n k more : ℕ) → with_more (with_more n k) more ≡ with_more n (k + more)
with_both n zero more = ap (with_more n) (sym (zero-add more))
with_both n (suc k) zero = grind (arith, nat_tests)
with_both n (suc k) (suc more) = grind (arith, nat_tests)

module _ {Y : Type 0} (before : BTreeMap (String Y) ℕ) where
  pub none_counted : CountsFormats [] before before
  none_counted format = refl

  pub counts_more : (now after : BTreeMap (String Y) ℕ) (puids : List (List ℕ)) (at : ℕ) (puid : List ℕ)
      → CountsFormats (take at puids) before now → CountsFormats (puid ∷ []) now after
      → at < length puids → puid ≡ get_or puids at puid → CountsFormats (take (at + 1) puids) before after
  counts_more now after puids at puid front next within there format =
      let one_more : take (at + 1) puids ≡ take at puids ++ puid ∷ [] = take_more puids at puid within ∙ ap (λ (p : List ℕ). take at puids ++ p ∷ []) (sym there) in
      let same : List ℕ → ℕ = λ p. cond (bytes_eq p format) 1 0 in
      let count : count_by (λ p. bytes_eq p format) (take (at + 1) puids) ≡ count_by (λ p. bytes_eq p format) (take at puids) + count_by (λ p. bytes_eq p format) (puid ∷ [])
      = ap (count_by (λ (p : List ℕ). bytes_eq p format)) one_more ∙ sum_by-append same (take at puids) (puid ∷ []) in
      next format ∙ (ap (λ n. with_more n (count_by (λ p. bytes_eq p format) (puid ∷ []))) (front format)
      ∙ (with_both (count_in before format) (count_by (λ p. bytes_eq p format) (take at puids)) (count_by (λ p. bytes_eq p format) (puid ∷ [])) ∙ ap (with_more (count_in before format)) (sym count)))

  pub counts_all : (now : BTreeMap (String Y) ℕ) (puids : List (List ℕ)) (at : ℕ) → CountsFormats (take at puids) before now → length puids ≤ at → CountsFormats puids before now
  counts_all now puids at front all = subst (λ (ps : List (List ℕ)). CountsFormats ps before now) (take_all at puids all) front

-- one format was counted once more, and no other count changed
module _ {Y : Type 0} (before after : BTreeMap (String Y) ℕ) (puid : List ℕ) (count next : ℕ) (its : next ≡ saturated (count + 1)) (there : count_in before puid ≡ count)
    (updates : (format : List ℕ) → get_by_text after format ≡ update bytes_eq (get_by_text before) puid (Some next) format) where
  at_format : (format : List ℕ) (same : Bool) → bytes_eq puid format ≡ same → count_in after format ≡ with_more (count_in before format) (count_by (λ p. bytes_eq p format) (puid ∷ []))
  at_format format true same =
      let equal : puid ≡ format = (bytes_eq-Decides puid format).0 same in
      let now : count_in after format ≡ next = ap (λ (o : Option ℕ). unwrap_or o 0) (updates format ∙ ap (λ (b : Bool). cond b (Some next) (get_by_text before format)) same) in
      let was : count_in before format ≡ count = ap (count_in before) (sym equal) ∙ there in
      let sum : with_more (count_in before format) (0 + cond (bytes_eq puid format) 1 0) ≡ saturated (count + 1)
      = ap (λ (b : Bool). with_more (count_in before format) (0 + cond b 1 0)) same ∙ ap (λ (n : ℕ). saturated (n + 1)) was in
      now ∙ (its ∙ sym sum)
  at_format format false same =
      let now : count_in after format ≡ count_in before format = ap (λ (o : Option ℕ). unwrap_or o 0) (updates format ∙ ap (λ (b : Bool). cond b (Some next) (get_by_text before format)) same) in
      let sum : with_more (count_in before format) (0 + cond (bytes_eq puid format) 1 0) ≡ count_in before format
      = ap (λ (b : Bool). with_more (count_in before format) (0 + cond b 1 0)) same in
      now ∙ sym sum

  pub counted_once : CountsFormats (puid ∷ []) before after
  counted_once format = at_format format (bytes_eq puid format) refl

-- a format more, where fewer than 4,096 were there
pub one_more_few : {V : Type 0} (before between after : ℕ) (old : Option V) → between ≡ before → after ≡ between + (if is_some old then 0 else 1) → between < 4096 → after ≤ max 4096 before
one_more_few before between after None same is few = omega (arith, same, is, few)
one_more_few before between after (Some v) same is few = omega (arith, same, is, few)
