-- Which paths a map holds, and whether it holds a path or a folder above it.
use Rattle.std.proofs.Common.{◌≡◌, ◌∙◌, ◌+◌, ◌<◌, ◌==◌, ◌&&◌, ◌||◌, ℕ, zero, suc, Bool, true, false, List, Option, Some, cond, length, take, refl, sym, ap, subst, arith}
use Rattle.std.specs.Option.{is_some}
use Rattle.std.proofs.Math.Bool.{or-true, or-false}
use Rattle.std.proofs.Math.Seq.{take-length}
use Rattle.std.proofs.lemmas.Bool.{eqb-true}
use Rattle.std.proofs.lemmas.List.{get_or_past}
use Rattle.droid_terminal.specs.SkippedPaths.{ends_name, holds_above, holds_front, some_below}

-- one more path in a map
pub held_more : (old after : Option Bool) (test : Bool) → after ≡ cond test (Some true) old → is_some after ≡ (is_some old || test)
held_more old after true set = ap (λ (o : Option Bool). is_some o) set ∙ sym (or-true (is_some old))
held_more old after false set = ap (λ (o : Option Bool). is_some o) set ∙ sym (or-false (is_some old))

-- a test that passes somewhere below n
some_case : (test : ℕ → Bool) (n k : ℕ) (same : Bool) → (k == n) ≡ same → k < suc n → test k ≡ true → (k < n → some_below test n ≡ true) → some_below test (suc n) ≡ true
some_case test n k true is less passes rest =
    let at : k ≡ n = eqb-true k n is in
    let here : test n ≡ true = subst (λ (m : ℕ). test m ≡ true) at passes in
    ap (λ (b : Bool). b || some_below test n) here
some_case test n k false is less passes rest =
    let before : k < n = grind (arith, is, less) in
    ap (λ (b : Bool). test n || b) (rest before) ∙ or-true (test n)

pub some_at : (test : ℕ → Bool) (n k : ℕ) → k < n → test k ≡ true → some_below test n ≡ true
some_at test zero k less passes = absurd (omega arith)
some_at test (suc n) k less passes = some_case test n k (k == n) refl less passes (λ before. some_at test n k before passes)

pub none_more : (test : ℕ → Bool) (n : ℕ) → some_below test n ≡ false → test n ≡ false → some_below test (suc n) ≡ false
none_more test n none not = ap (λ (b : Bool). b || some_below test n) not ∙ none

pub none_next : (test : ℕ → Bool) (n : ℕ) → some_below test n ≡ false → test n ≡ false → some_below test (n + 1) ≡ false
none_next test n none not = let e : n + 1 ≡ suc n = omega arith in rw e (none_more test n none not)

-- the whole path is one of its fronts
whole_front : (held : List ℕ → Bool) (path : List ℕ) → holds_front held path (length path) ≡ held path
whole_front held path =
    let end : ends_name path (length path) ≡ true = ap (λ (b : ℕ). b == 47) (get_or_past path (length path) 47 (omega arith)) in
    ap (λ (b : Bool). b && held (take (length path) path)) end ∙ ap held (take-length path)

pub held_whole : (held : List ℕ → Bool) (path : List ℕ) → held path ≡ true → holds_above held path ≡ true
held_whole held path is = ap (λ (b : Bool). b || some_below (holds_front held path) (length path)) (whole_front held path ∙ is)

pub held_before : (held : List ℕ → Bool) (path : List ℕ) (place : ℕ) → place < length path → holds_front held path place ≡ true → holds_above held path ≡ true
held_before held path place less is =
    ap (λ (b : Bool). holds_front held path (length path) || b) (some_at (holds_front held path) (length path) place less is) ∙ or-true (holds_front held path (length path))

pub held_nowhere : (held : List ℕ → Bool) (path : List ℕ) → held path ≡ false → some_below (holds_front held path) (length path) ≡ false → holds_above held path ≡ false
held_nowhere held path not none = ap (λ (b : Bool). b || some_below (holds_front held path) (length path)) (whole_front held path ∙ not) ∙ none

-- the same paths are held above, whatever holds them
some_same : (one other : ℕ → Bool) → ((k : ℕ) → one k ≡ other k) → (n : ℕ) → some_below one n ≡ some_below other n
some_same one other same zero = refl
some_same one other same (suc n) = ap (λ (b : Bool). b || some_below one n) (same n) ∙ ap (λ (b : Bool). other n || b) (some_same one other same n)

pub held_same : (one other : List ℕ → Bool) → ((path : List ℕ) → one path ≡ other path) → (path : List ℕ) → holds_above one path ≡ holds_above other path
held_same one other same path =
    some_same (holds_front one path) (holds_front other path) (λ k. ap (λ (b : Bool). ends_name path k && b) (same (take k path))) (suc (length path))
