-- The last `/` of a path, as `rsplit_once` finds it.
use Rattle.std.proofs.Common.{◌≡◌, ◌∙◌, ℕ, zero, suc, ◌+◌, ◌-◌, ◌≤◌, ◌<◌, List, length, get_or, take, drop, Option, Some, None, MatchOption, option_map, Bor, sym, ap, refl, ⊎_elim, eq-eqb, ne_eqb, length-drop, get_or-drop, arith}
use Rattle.std.specs.Path.{rfind_below, rsplit_once}
use Rattle.std.specs.Str.Pattern.{RFindsChar}
use Rattle.std.proofs.lemmas.Bool.{cases_eq, cond-false, cond-true}
use Rattle.std.proofs.lemmas.Str.{len_utf8_ascii}
use Rattle.std.proofs.lemmas.Str.Pattern.{NoCharPasses-char}

none_below : (c : ℕ) (text : List ℕ) (n : ℕ) → ((i : ℕ) → i < n → get_or text i 0 ≡ c → ⊥) → rfind_below c text n ≡ None
none_below c text zero none = refl
none_below c text (suc n) none = cond-false _ _ _ (ne_eqb _ c (none n (omega arith))) ∙ none_below c text n (λ i less. none i (omega arith))

last_below : (c : ℕ) (text : List ℕ) (k n : ℕ) → k < n → get_or text k 0 ≡ c → ((i : ℕ) → k < i → i < n → get_or text i 0 ≡ c → ⊥) → rfind_below c text n ≡ Some k
last_below c text k zero less at none = absurd (omega arith)
last_below c text k (suc n) less at none =
    ⊎_elim
    (λ here. cond-true _ _ _ (eq-eqb _ c (ap (λ j. get_or text j 0) (sym here) ∙ at)) ∙ ap (λ j. Some j) (sym here))
    (λ other. cond-false _ _ _ (ne_eqb _ c (none n (omega arith) (omega arith))) ∙ last_below c text k n (omega arith) at (λ i more within. none i more (omega arith)))
    (cases_eq k n)

-- what a search for an ASCII character from the end finds
pub splits_at_last : (c : ℕ) (text : List ℕ) (r : Option (Bor (List ℕ) × Bor (List ℕ)))
    → MatchOption r (RFindsChar c text None) (λ x. (i : ℕ) × (j : ℕ) × RFindsChar c text (Some (i, j)) × (x.0.now ≡ take i text) × (x.1.now ≡ drop j text) × (i ≤ j) × (length x.0.now ≡ i) × (length x.1.now + j ≡ length text))
    → c < 128 → option_map (λ x. (x.0.now, x.1.now)) r ≡ rsplit_once c text
unfolding rsplit_once
splits_at_last c text None found low =
    sym (ap (λ (o : Option ℕ). option_map (λ i. (take i text, drop (i + 1) text)) o) (none_below c text (length text) (λ i. NoCharPasses-char c text i found low)))
splits_at_last c text (Some x) found low =
    let i = found.0 in
    let j = found.1 in
    let next : j ≡ i + 1 = omega (arith, found.2.1.ends, len_utf8_ascii c low) in
    let later : (k : ℕ) → i < k → k < length text → get_or text k 0 ≡ c → ⊥ = λ k a l e.
    let back : j + (k - j) ≡ k = omega arith in
    NoCharPasses-char c (drop j text) (k - j) found.2.0 low (omega (arith, length-drop j text)) (get_or-drop j text (k - j) 0 ∙ ap (λ n. get_or text n 0) back ∙ e) in
    let last = last_below c text i (length text) (omega (arith, found.7)) (found.2.1.byte low) later in
    let second = found.4 ∙ ap (λ n. drop n text) next in
    (λ t. Some (found.3 t, second t)) ∙ sym (ap (λ (o : Option ℕ). option_map (λ k. (take k text, drop (k + 1) text)) o) last)
