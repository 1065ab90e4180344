-- What one of several patterns matches.
use Rattle.std.proofs.Common.{◌≡◌, ◌↔◌, ◌⊎◌, ℕ, zero, suc, ◌+◌, ◌<◌, ◌≤◌, List, [], ◌∷◌, ◌++◌, length, map, Contains, inl, inr, ⊎_elim, refl, sym, ap, ◌∙◌, arith, append_assoc}
use Rattle.std.proofs.lemmas.Bool.{cases_lt}
use Rattle.std.proofs.lemmas.List.{append-nil}
use Rattle.std.proofs.lemmas.List.Elements.{Contains-append_left, Contains-append_right, Contains-append_cases}
use Rattle.droid_pattern.specs.Patterns.{Element, Matches, Lang}
use Rattle.droid_signature_file.specs.Terms.{InTurn}
use Rattle.droid_signature_file.specs.Expansions.{MatchesAny, joined, upward}

-- parts that satisfy the same as others
pub same_turns : (P P' Q Q' : List ℕ → Type 0) (bytes : List ℕ) → ((x : List ℕ) → P x ↔ P' x) → ((x : List ℕ) → Q x ↔ Q' x) → InTurn P Q bytes ↔ InTurn P' Q' bytes
same_turns P P' Q Q' bytes p q = (
  λ (front, back, is, first, second). (front, back, is, (p front).0 first, (q back).0 second),
  λ (front, back, is, first, second). (front, back, is, (p front).1 first, (q back).1 second),
)

pub both_ways : {A B C : Type 0} → A ↔ B → B ↔ C → A ↔ C
both_ways f g = (λ a. g.0 (f.0 a), λ c. f.1 (g.1 c))

-- two patterns, one behind the other
pub Lang-append : (es fs : List Element) (bytes : List ℕ) → Lang (es ++ fs) bytes ↔ InTurn (Lang es) (Lang fs) bytes
Lang-append [] fs bytes = (
  λ h. ([], bytes, refl, refl, h),
  λ (front, back, is, none, h). let same : bytes ≡ back = is ∙ ap (λ x. x ++ back) none in rw same h,
)
Lang-append (e ∷ es) fs bytes = (
  λ (front, back, is, matched, rest).
      let (middle, last, cut, first, second) = (Lang-append es fs back).0 rest in
      (front ++ middle, last, is ∙ ap (λ x. front ++ x) cut ∙ sym (append_assoc front middle last), (front, middle, refl, matched, first), second),
  λ (first, last, is, (front, middle, cut, matched, rest), second).
      (front, middle ++ last, is ∙ ap (λ x. x ++ last) cut ∙ append_assoc front middle last, matched, (Lang-append es fs (middle ++ last)).1 (middle, last, refl, rest, second)),
)

-- a pattern of one element
pub Lang-one : (e : Element) (bytes : List ℕ) → Lang (e ∷ []) bytes ↔ Matches e bytes
Lang-one e bytes = (
  λ (front, back, is, matched, none). let same : bytes ≡ front = is ∙ ap (λ x. front ++ x) none ∙ append-nil front in rw same matched,
  λ matched. (bytes, [], sym (append-nil bytes), matched, refl),
)

-- one pattern
pub any_one : (es : List Element) (bytes : List ℕ) → MatchesAny (es ∷ []) bytes ↔ Lang es bytes
any_one es bytes = (λ h. ⊎_elim (λ x. x) (λ none. absurd none) h, inl)

pub one_element : (e : Element) (bytes : List ℕ) → MatchesAny ((e ∷ []) ∷ []) bytes ↔ Matches e bytes
one_element e bytes = both_ways (any_one (e ∷ []) bytes) (Lang-one e bytes)

-- more patterns
pub any_append : (xs ys : List (List Element)) (bytes : List ℕ) → MatchesAny (xs ++ ys) bytes ↔ (MatchesAny xs bytes ⊎ MatchesAny ys bytes)
any_append [] ys bytes = (inr, λ h. ⊎_elim (λ none. absurd none) (λ x. x) h)
any_append (x ∷ xs) ys bytes =
    let more = any_append xs ys bytes in (
      λ h. ⊎_elim (λ a. inl (inl a)) (λ b. ⊎_elim (λ c. inl (inr c)) (λ d. inr d) (more.0 b)) h,
      λ h. ⊎_elim (λ w. ⊎_elim (λ a. inl a) (λ c. inr (more.1 (inl c))) w) (λ d. inr (more.1 (inr d))) h,
    )

-- patterns behind one pattern
pub any_behind : (first : List Element) (seconds : List (List Element)) (bytes : List ℕ) → MatchesAny (map (λ second. first ++ second) seconds) bytes ↔ InTurn (Lang first) (MatchesAny seconds) bytes
any_behind first [] bytes = (λ none. absurd none, λ (front, back, is, matched, none). absurd none)
any_behind first (s ∷ seconds) bytes =
    let here = Lang-append first s bytes in
    let more = any_behind first seconds bytes in (
      λ h. ⊎_elim
          (λ one. let (front, back, is, a, b) = here.0 one in (front, back, is, a, inl b))
          (λ other. let (front, back, is, a, b) = more.0 other in (front, back, is, a, inr b)) h,
      λ (front, back, is, a, b). ⊎_elim (λ one. inl (here.1 (front, back, is, a, one))) (λ other. inr (more.1 (front, back, is, a, other))) b,
    )

-- patterns behind patterns
pub any_joined : (firsts seconds : List (List Element)) (bytes : List ℕ) → MatchesAny (joined firsts seconds) bytes ↔ InTurn (MatchesAny firsts) (MatchesAny seconds) bytes
any_joined [] seconds bytes = (λ none. absurd none, λ (front, back, is, none, b). absurd none)
any_joined (f ∷ firsts) seconds bytes =
    let split = any_append (map (λ second. f ++ second) seconds) (joined firsts seconds) bytes in
    let here = any_behind f seconds bytes in
    let more = any_joined firsts seconds bytes in (
      λ h. ⊎_elim
          (λ one. let (front, back, is, a, b) = here.0 one in (front, back, is, inl a, b))
          (λ other. let (front, back, is, a, b) = more.0 other in (front, back, is, inr a, b)) (split.0 h),
      λ (front, back, is, a, b). split.1 (⊎_elim (λ one. inl (here.1 (front, back, is, one, b))) (λ other. inr (more.1 (front, back, is, other, b))) a),
    )

-- numbers from one on
pub upward_has : (n count x : ℕ) → Contains (upward n count) x ↔ ((n ≤ x) × (x < n + count))
upward_has n zero x = (λ (k, below, is). absurd (omega arith), λ (low, high). absurd (omega arith))
upward_has n (suc count) x =
    let more = upward_has (suc n) count x in (
      to more,
      λ (low, high). ⊎_elim
          (λ above. let (k, below, is) = more.1 (omega arith, omega arith) in (suc k, omega arith, is))
          (λ same. let first : n ≡ x = omega arith in (0, omega arith, first)) (cases_lt n x),
    )
  where
    to : (Contains (upward (suc n) count) x ↔ ((suc n ≤ x) × (x < suc n + count))) → Contains (n ∷ upward (suc n) count) x → (n ≤ x) × (x < n + suc count)
    to more (zero, below, is) = (omega arith, omega arith)
    to more (suc k, below, is) = let within = more.0 (k, omega arith, is) in let low = within.0 in let high = within.1 in (omega arith, omega arith)

-- runs of one byte
pub singles_have : (bs bytes : List ℕ) → Contains (map (λ b. b ∷ []) bs) bytes ↔ ((x : ℕ) × (bytes ≡ x ∷ []) × Contains bs x)
singles_have [] bytes = (λ (k, below, is). absurd (omega arith), λ (x, e, (k, below, is)). absurd (omega arith))
singles_have (b ∷ bs) bytes = let more = singles_have bs bytes in (to more, from more)
  where
    to : (Contains (map (λ b. b ∷ []) bs) bytes ↔ ((x : ℕ) × (bytes ≡ x ∷ []) × Contains bs x)) → Contains ((b ∷ []) ∷ map (λ b. b ∷ []) bs) bytes
        → (x : ℕ) × (bytes ≡ x ∷ []) × Contains (b ∷ bs) x
    to more (zero, below, is) = (b, sym is, (0, omega arith, refl))
    to more (suc k, below, is) = let (x, e, (j, under, there)) = more.0 (k, omega arith, is) in (x, e, (suc j, omega arith, there))

    from : (Contains (map (λ b. b ∷ []) bs) bytes ↔ ((x : ℕ) × (bytes ≡ x ∷ []) × Contains bs x)) → ((x : ℕ) × (bytes ≡ x ∷ []) × Contains (b ∷ bs) x)
        → Contains ((b ∷ []) ∷ map (λ b. b ∷ []) bs) bytes
    from more (x, e, (zero, below, is)) = (0, omega arith, ap (λ y. y ∷ []) is ∙ sym e)
    from more (x, e, (suc k, below, is)) = let (j, under, there) = more.1 (x, e, (k, omega arith, is)) in (suc j, omega arith, there)
