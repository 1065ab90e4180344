-- What the bytes at one place say of a pattern.
use Rattle.std.proofs.Common.{◌≡◌, ◌↔◌, ℕ, ◌+◌, ◌-◌, ◌<◌, ◌≤◌, min, Bool, true, false, get_or, List, [], ◌∷◌, length, take, drop, Option, None, Some, refl, sym, ap, ◌∙◌, arith, length-take, length-drop}
use Rattle.std.specs.Prelude.{IsTrue, IfSome, is_some, not}
use Rattle.std.proofs.lemmas.Bool.{false≢true}
use Rattle.std.proofs.lemmas.List.{get_or-take, get_or-drop}
use Rattle.memchr.specs.Find.{IsFirstByte}
use Rattle.droid_pattern.specs.declared.direction.Direction.TheVariants as direction
use Rattle.droid_pattern.specs.declared.class.Class.{Class}
use Rattle.droid_pattern.specs.Patterns.{Element, BeginsWithin}
use Rattle.droid_pattern.specs.Tokens.{accepts, element_of_class}
use Rattle.droid_pattern.specs.Positions.{Leads, Path}
use Rattle.droid_pattern.proofs.StepLemmas.{class_steps}
use Rattle.droid_pattern.proofs.PathLemmas.{begins_first}

-- a byte of some of the bytes
pub cut_byte : (bytes : List ℕ) (low n k : ℕ) → low + n ≤ length bytes → k < n
    → (k < length (take n (drop low bytes))) × (get_or (take n (drop low bytes)) k 0 ≡ get_or bytes (low + k) 0)
cut_byte bytes low n k inside below = (
  omega (arith, length-take n (drop low bytes), length-drop low bytes),
  get_or-take n (drop low bytes) k 0 below ∙ get_or-drop low bytes k 0,
)

-- where a search finds no byte there is none
pub not_found : (test : ℕ → Bool) (hay : List ℕ) (r : Option ℕ) (none : Bool) → is_some r ≡ not none → none ≡ true → IsFirstByte test hay r
    → (k : ℕ) → k < length hay → test (get_or hay k 0) ≡ true → ⊥
not_found test hay None none e is first k below passes = first k (omega arith) below passes
not_found test hay (Some j) none e is first k below passes = absurd (false≢true (sym (e ∙ ap not is)))

-- what an element for one byte leads to, by the byte that stands there
pub class_at : (class : Class) (bytes : List ℕ) (p : ℕ) (b : Bool) → (IsTrue b ↔ ((p < length bytes) × (accepts class (get_or bytes p 0) ≡ true)))
    → (q : ℕ) → Leads (element_of_class class) bytes p q ↔ (IsTrue b × (q ≡ p + 1))
class_at class bytes p b says q = (
  λ h. let (s, inside, from, passes, to) = (class_steps direction.End class bytes p q).0 h in (says.1 (omega arith, rw (← from) at passes), omega arith),
  λ (is, to). let w = says.0 is in (class_steps direction.End class bytes p q).1 (p, (let near = w.0 in omega arith), refl, w.1, to),
)

-- and what leads to the position behind that byte
pub class_before : (class : Class) (bytes : List ℕ) (end : ℕ) (b : Bool) → end ≤ length bytes → (IsTrue b ↔ ((0 < end) × (accepts class (get_or bytes (end - 1) 0) ≡ true)))
    → (p : ℕ) → Leads (element_of_class class) bytes p end ↔ (IsTrue b × (p + 1 ≡ end))
class_before class bytes end b near says p = (
  λ h.
      let (s, inside, from, passes, to) = (class_steps direction.End class bytes p end).0 h in
      let here : end - 1 ≡ s = omega arith in
      (says.1 (omega arith, rw here passes), omega arith),
  λ (is, to).
      let w = says.0 is in
      let here : end - 1 ≡ p = omega arith in
      (class_steps direction.End class bytes p end).1 (p, omega arith, refl, rw here at w.1, omega arith),
)

-- an element fails
pub reported_not : {B : Type 0} (e : Element) (es : List Element) (bytes : List ℕ) (p : ℕ) (passes : Bool) → passes ≡ false
    → ((q : ℕ) → Leads e bytes p q ↔ (IsTrue passes × (q ≡ p + 1))) → (B ↔ ((q : ℕ) × Path (e ∷ es) bytes p q)) → IsTrue false ↔ B
reported_not e es bytes p passes not says so_far = (
  λ h. absurd (false≢true h),
  λ b. let (q, (r, leads, path)) = so_far.0 b in absurd (false≢true (sym not ∙ ((says r).0 leads).0)),
)

-- an element passes
pub reported_more : {B : Type 0} (e : Element) (es : List Element) (bytes : List ℕ) (p : ℕ) (passes : Bool) → passes ≡ true
    → ((q : ℕ) → Leads e bytes p q ↔ (IsTrue passes × (q ≡ p + 1))) → (B ↔ ((q : ℕ) × Path (e ∷ es) bytes p q))
    → (p + 1 ≤ length bytes) × (B ↔ ((q : ℕ) × Path es bytes (p + 1) q))
reported_more e es bytes p passes is says so_far =
    let leads = (says (p + 1)).1 (is, refl) in (
      leads.inside,
      (
        λ b. let (q, (r, step, path)) = so_far.0 b in let to = ((says r).0 step).1 in (q, rw to at path),
        λ (q, path). so_far.1 (q, (p + 1, leads, path)),
      ),
    )

-- all have passed
pub reported_all : {B : Type 0} (bytes : List ℕ) (p : ℕ) → (B ↔ ((q : ℕ) × Path [] bytes p q)) → IsTrue true ↔ B
reported_all bytes p so_far = (λ _. so_far.1 (p, refl), λ _. refl)

-- a match at one offset
begins_at : (es fs : List Element) (bytes : List ℕ) (at : ℕ) → es ≡ fs → at ≤ length bytes
    → BeginsWithin es bytes at at ↔ ((q : ℕ) × Path fs bytes at q)
begins_at es fs bytes at e inside =
    let says : (p : ℕ) → (p ≡ at) ↔ ((at ≤ p) × (p ≤ min at (length bytes))) = λ p. (λ h. (omega arith, omega arith), λ h. let low = h.0 in let high = h.1 in omega arith) in
    let first = begins_first es fs bytes at at (λ p. p ≡ at) e says in (
      λ b. let (p, is, more) = first.0 b in rw is at more,
      λ more. first.1 (at, refl, more),
    )

pub reported_within : (r : Option Bool) (es fs : List Element) (bytes : List ℕ) (at : ℕ) → es ≡ fs → at ≤ length bytes
    → IfSome r (λ found. IsTrue found ↔ ((q : ℕ) × Path fs bytes at q)) → IfSome r (λ found. IsTrue found ↔ BeginsWithin es bytes at at)
reported_within None es fs bytes at e inside h = h
reported_within (Some found) es fs bytes at e inside h =
    let both = begins_at es fs bytes at e inside in (λ t. both.1 (h.0 t), λ b. h.1 (both.0 b))

-- no match begins past the end
pub reported_past : (es : List Element) (bytes : List ℕ) (at : ℕ) → length bytes < at → IsTrue false ↔ BeginsWithin es bytes at at
reported_past es bytes at past = (
  λ h. absurd (false≢true h),
  λ (b : BeginsWithin es bytes at at). absurd (let from = b.from_low in let inside = b.inside in omega arith),
)
