-- Paths that were escaped.
use Rattle.std.proofs.Common.{◌≡◌, ◌∙◌, ℕ, ◌==◌, ◌&&◌, ◌||◌, Bool, true, false, not, List, [], ◌∷◌, ◌++◌, take, Option, Some, None, codes, if◌then◌else◌, refl, sym, ap}
use Rattle.std.specs.List.{flat_map, list_all, list_any}
use Rattle.std.specs.Str.{bytes_eq}
use Rattle.std.proofs.lemmas.Bool.{and_from, and_parts, eqb-true}
use Rattle.droid_frame.specs.Paths.{is_name, is_plain}
use Rattle.droid_fixity.specs.Spellings.{escaped, escaped_byte, onto, unescaped, unescaped_from}
use Rattle.droid_fixity.proofs.ClearBytes.{is_clear}
use Rattle.droid_fixity.proofs.Tests.{all_append, false_true}

-- how a byte is spelled, by what it is
abbrev pub spelled_by : (backslash feed return : Bool) → ℕ → List ℕ
spelled_by backslash feed return b = if backslash then codes "\\\\" else if feed then codes "\\n" else if return then codes "\\r" else b ∷ []

-- ---- no line feed and no carriage return

clear_by : (backslash feed return : Bool) (b : ℕ) → (b == 10) ≡ feed → (b == 13) ≡ return → list_all is_clear (spelled_by backslash feed return b) ≡ true
clear_by true feed return b hf hr = refl
clear_by false true return b hf hr = refl
clear_by false false true b hf hr = refl
clear_by false false false b hf hr = and_from (is_clear b) true (and_from (not (b == 10)) (not (b == 13)) (ap not hf) (ap not hr)) refl

pub escaped_clear : (path : List ℕ) → list_all is_clear (escaped path) ≡ true
escaped_clear [] = refl
escaped_clear (b ∷ path) = all_append is_clear (escaped_byte b) (escaped path) (clear_by (b == 92) (b == 10) (b == 13) b refl refl) (escaped_clear path)

-- ---- what is spelled is the path

read_by : (backslash feed return : Bool) (b : ℕ) (text : List ℕ) → (b == 92) ≡ backslash → (b == 10) ≡ feed → (b == 13) ≡ return
    → unescaped_from false (spelled_by backslash feed return b ++ text) ≡ onto b (unescaped_from false text)
read_by true feed return b text hb hf hr = ap (λ (k : ℕ). onto k (unescaped_from false text)) (sym (eqb-true b 92 hb))
read_by false true return b text hb hf hr = ap (λ (k : ℕ). onto k (unescaped_from false text)) (sym (eqb-true b 10 hf))
read_by false false true b text hb hf hr = ap (λ (k : ℕ). onto k (unescaped_from false text)) (sym (eqb-true b 13 hr))
read_by false false false b text hb hf hr = rw hb refl

pub unescaped_escaped : (path : List ℕ) → unescaped (escaped path) ≡ Some path
unescaped_escaped [] = refl
unescaped_escaped (b ∷ path) = read_by (b == 92) (b == 10) (b == 13) b (escaped path) refl refl refl ∙ ap (onto b) (unescaped_escaped path)

-- ---- no `./` in front

abbrev pub is_dotless : List ℕ → Bool
is_dotless text = not (bytes_eq (take 2 text) (codes "./"))

pub dot_is_no_name : (path : List ℕ) → is_plain (46 ∷ 47 ∷ path) ≡ true → ⊥
dot_is_no_name path h = false_true h

dotless_by : (dot slash : Bool) (a b : ℕ) (path : List ℕ) → (a == 46) ≡ dot → (b == 47) ≡ slash → is_plain (a ∷ b ∷ path) ≡ true → not (dot && (slash && true)) ≡ true
dotless_by false slash a b path hd hs plain = refl
dotless_by true false a b path hd hs plain = refl
dotless_by true true a b path hd hs plain =
    absurd (dot_is_no_name path (ap (λ (k : ℕ). is_plain (k ∷ 47 ∷ path)) (sym (eqb-true a 46 hd)) ∙ (ap (λ (k : ℕ). is_plain (a ∷ k ∷ path)) (sym (eqb-true b 47 hs)) ∙ plain)))

pub alone : (dot : Bool) → not (dot && false) ≡ true
alone true = refl
alone false = refl

pub plain_dotless : (path : List ℕ) → is_plain path ≡ true → is_dotless path ≡ true
plain_dotless [] plain = refl
plain_dotless (a ∷ []) plain = alone (a == 46)
plain_dotless (a ∷ b ∷ path) plain = dotless_by (a == 46) (b == 47) a b path refl refl plain

second_by : (backslash feed return : Bool) (a b : ℕ) (text more : List ℕ) → is_dotless (a ∷ b ∷ more) ≡ true → is_dotless (a ∷ (spelled_by backslash feed return b ++ text)) ≡ true
second_by true feed return a b text more h = alone (a == 46)
second_by false true return a b text more h = alone (a == 46)
second_by false false true a b text more h = alone (a == 46)
second_by false false false a b text more h = h

second : (a : ℕ) (path : List ℕ) → is_dotless (a ∷ path) ≡ true → is_dotless (a ∷ escaped path) ≡ true
second a [] h = h
second a (b ∷ path) h = second_by (b == 92) (b == 10) (b == 13) a b (escaped path) path h

first_by : (backslash feed return : Bool) (a : ℕ) (path : List ℕ) → is_dotless (a ∷ path) ≡ true → is_dotless (spelled_by backslash feed return a ++ escaped path) ≡ true
first_by true feed return a path h = refl
first_by false true return a path h = refl
first_by false false true a path h = refl
first_by false false false a path h = second a path h

pub escaped_dotless : (path : List ℕ) → is_dotless path ≡ true → is_dotless (escaped path) ≡ true
escaped_dotless [] h = h
escaped_dotless (a ∷ path) h = first_by (a == 92) (a == 10) (a == 13) a path h
