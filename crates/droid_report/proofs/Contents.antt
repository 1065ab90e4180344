-- The key of a file's content says its hash and its size.
use Rattle.std.proofs.Common.{◌≡◌, ◌≢◌, ◌∙◌, ℕ, ◌<◌, ◌^◌, ◌==◌, ◌&&◌, not, Bool, true, false, cond, IsTrue, List, [], ◌∷◌, ◌++◌, bytes_eq, length, refl, sym, ap, subst, arith}
use Rattle.std.specs.Char.{is_ascii_digit}
use Rattle.std.specs.Fmt.{decimal}
use Rattle.std.specs.List.{list_all}
use Rattle.std.specs.Str.Parse.{digits_value}
use Rattle.std.proofs.lemmas.Bool.Decides.{nat_tests}
use Rattle.std.proofs.lemmas.Fmt.{digits_decimal, digits_value-decimal}
use Rattle.std.proofs.lemmas.Slice.Eq.{bytes_eq-Decides}
use Rattle.droid_report.specs.Groups.{IsContentOf, has_key, key_of}
use Rattle.droid_report.specs.Rows.{Line, text_at}
use Rattle.droid_report.specs.Totals.{is_first_of_file}
use Rattle.droid_report.specs.declared.keys.Alike.TheVariants as alike
use Rattle.droid_export.proofs.Numbers.{digits, first_holds}

-- ---- the last comma

no_comma : (xs ys : List ℕ) → list_all is_ascii_digit (xs ++ 44 ∷ ys) ≡ true → ⊥
no_comma [] ys all = cc
no_comma (x ∷ xs) ys all = no_comma xs ys (first_holds (is_ascii_digit x) (list_all is_ascii_digit (xs ++ 44 ∷ ys)) all).1

all_digits : (ds es : List ℕ) → ds ≡ es → list_all is_ascii_digit ds ≡ true → list_all is_ascii_digit es ≡ true
all_digits ds es same all = subst (λ (xs : List ℕ). list_all is_ascii_digit xs ≡ true) same all

not_both : (n : ℕ) → n ≡ 32 → n ≡ 44 → ⊥
not_both n space comma = omega arith

second_same : (x a y b : ℕ) (xs ys : List ℕ) → x ∷ a ∷ xs ≡ y ∷ b ∷ ys → a ≡ b
second_same x a y b xs ys same = cc

cut : (xs ys ds es : List ℕ) → list_all is_ascii_digit ds ≡ true → list_all is_ascii_digit es ≡ true → xs ++ 44 ∷ 32 ∷ ds ≡ ys ++ 44 ∷ 32 ∷ es → (xs ≡ ys) × (ds ≡ es)
cut [] [] ds es p q same = (refl, cc)
cut [] (y ∷ []) ds es p q same = absurd (not_both 32 refl (second_same 44 32 y 44 ds (32 ∷ es) same))
cut [] (y ∷ z ∷ ys) ds es p q same =
    let tail : ds ≡ ys ++ 44 ∷ 32 ∷ es = cc in
    absurd (no_comma ys (32 ∷ es) (all_digits ds (ys ++ 44 ∷ 32 ∷ es) tail p))
cut (x ∷ []) [] ds es p q same = absurd (not_both 44 (second_same x 44 44 32 (32 ∷ ds) es same) refl)
cut (x ∷ z ∷ xs) [] ds es p q same =
    let tail : es ≡ xs ++ 44 ∷ 32 ∷ ds = cc in
    absurd (no_comma xs (32 ∷ ds) (all_digits es (xs ++ 44 ∷ 32 ∷ ds) tail q))
cut (x ∷ xs) (y ∷ ys) ds es p q same =
    let head : x ≡ y = cc in
    let tail : xs ++ 44 ∷ 32 ∷ ds ≡ ys ++ 44 ∷ 32 ∷ es = cc in
    let rest = cut xs ys ds es p q tail in
    (ap (λ (n : ℕ). n ∷ xs) head ∙ ap (λ (zs : List ℕ). y ∷ zs) rest.0, rest.1)

decimal_same : (n m : ℕ) → n < 2 ^ 64 → m < 2 ^ 64 → decimal n ≡ decimal m → n ≡ m
decimal_same n m small large same = sym (digits_value-decimal digits n small) ∙ (ap (digits_value 10) same ∙ digits_value-decimal digits m large)

-- ---- keys

abbrev hash_and_size : Line → List ℕ
hash_and_size line = text_at line.fields 12 ++ 44 ∷ 32 ∷ decimal line.facts.size

-- a file with a hash
record HasContent (line : Line) : Type 0 where
  pub first : is_first_of_file line ≡ true
  pub some : (length (text_at line.fields 12) == 0) ≡ false
  pub key : key_of alike.Content line ≡ hash_and_size line

some_by : (first empty : Bool) (key : List ℕ) → not (length (cond (first && not empty) key []) == 0) ≡ true → (first ≡ true) × (empty ≡ false) × (cond (first && not empty) key [] ≡ key)
some_by true false key h = (refl, refl, refl)
some_by true true key h = absurd cc
some_by false empty key h = absurd cc

has_content : (line : Line) → not (length (key_of alike.Content line) == 0) ≡ true → HasContent line
has_content line h =
    let parts = some_by (is_first_of_file line) (length (text_at line.fields 12) == 0) (hash_and_size line) h in
    record { first = parts.0; some = parts.1; key = parts.2 }

pub content_from : (one other : Line) → one.facts.size < 2 ^ 64 → other.facts.size < 2 ^ 64 → IsTrue (has_key alike.Content (key_of alike.Content one) other) → IsContentOf one other
content_from one other small large h =
    let both = first_holds (not (length (key_of alike.Content other) == 0)) (bytes_eq (key_of alike.Content other) (key_of alike.Content one)) h in
    let same : key_of alike.Content other ≡ key_of alike.Content one = (bytes_eq-Decides (key_of alike.Content other) (key_of alike.Content one)).0 both.1 in
    let second = has_content other both.0 in
    let first = has_content one (subst (λ (key : List ℕ). not (length key == 0) ≡ true) same both.0) in
    let parts = cut (text_at one.fields 12) (text_at other.fields 12) (decimal one.facts.size) (decimal other.facts.size)
    (digits_decimal digits one.facts.size small) (digits_decimal digits other.facts.size large) (sym first.key ∙ (sym same ∙ second.key)) in
    record {
      first = first.first;
      second = second.first;
      some = λ none. let bad : true ≡ false = sym (ap (λ (text : List ℕ). length text == 0) none) ∙ first.some in cc;
      hash = parts.0;
      size = decimal_same one.facts.size other.facts.size small large parts.1;
    }

not_empty : (xs : List ℕ) → xs ≢ [] → (length xs == 0) ≡ false
not_empty [] some = absurd (some refl)
not_empty (x ∷ xs) some = grind (arith, nat_tests)

comma_in : (xs ys : List ℕ) → xs ++ 44 ∷ ys ≢ []
comma_in [] ys none = cc
comma_in (x ∷ xs) ys none = cc

key_is : (line : Line) → is_first_of_file line ≡ true → text_at line.fields 12 ≢ [] → key_of alike.Content line ≡ hash_and_size line
key_is line first some =
    ap (λ (b : Bool). cond (b && not (length (text_at line.fields 12) == 0)) (hash_and_size line) []) first
    ∙ ap (λ (b : Bool). cond (not b) (hash_and_size line) []) (not_empty (text_at line.fields 12) some)

pub content_to : (one other : Line) → IsContentOf one other → IsTrue (has_key alike.Content (key_of alike.Content one) other)
content_to one other are =
    let first = key_is one are.first are.some in
    let second = key_is other are.second (λ none. are.some (are.hash ∙ none)) in
    let same : key_of alike.Content other ≡ key_of alike.Content one
    = second ∙ (sym (ap (λ (text : List ℕ). text ++ 44 ∷ 32 ∷ decimal one.facts.size) are.hash ∙ ap (λ (n : ℕ). text_at other.fields 12 ++ 44 ∷ 32 ∷ decimal n) are.size) ∙ sym first) in
    let some : (length (key_of alike.Content other) == 0) ≡ false
    = not_empty (key_of alike.Content other) (λ none. comma_in (text_at other.fields 12) (32 ∷ decimal other.facts.size) (sym second ∙ none)) in
    ap (λ (b : Bool). not b && bytes_eq (key_of alike.Content other) (key_of alike.Content one)) some ∙ (bytes_eq-Decides (key_of alike.Content other) (key_of alike.Content one)).1 same
