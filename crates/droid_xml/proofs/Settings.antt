-- Loops over attributes that look for a name.
use Rattle.std.proofs.Common.{◌≡◌, ℕ, ◌+◌, ◌<◌, ◌&&◌, ◌||◌, Bool, true, false, not, List, [], ◌∷◌, length, drop, get_or, map, refl, sym, ap, ◌∙◌, drop-cons, add-one}
use Rattle.std.specs.List.{list_any}
use Rattle.std.specs.Str.{bytes_eq}
use Rattle.droid_xml.specs.declared.attributes.Attribute.{Attribute}
use Rattle.droid_xml.specs.Attributes.{Setting, are_distinct}
use Rattle.droid_xml.specs.Views.{setting}

cell : (all : List Attribute) (place : ℕ) (one : Attribute) → place < length all → map setting (drop place all) ≡ setting (get_or all place one) ∷ map setting (drop (place + 1) all)
cell all place one inside = let parts : drop place all ≡ get_or all place one ∷ drop (place + 1) all = rw (add-one, drop-cons all place one) refl in ap (map setting) parts

-- this one doesn't pass
pub any_goes_on : (test : Setting → Bool) (all : List Attribute) (place : ℕ) (one : Attribute) (whole : Bool) → place < length all → test (setting (get_or all place one)) ≡ false → list_any test (map setting (drop place all)) ≡ whole → list_any test (map setting (drop (place + 1) all)) ≡ whole
any_goes_on test all place one whole inside fails so_far =
    sym (ap (λ (is : Bool). is || list_any test (map setting (drop (place + 1) all))) fails) ∙ (sym (ap (list_any test) (cell all place one inside)) ∙ so_far)

-- this one passes
pub any_found : (test : Setting → Bool) (all : List Attribute) (place : ℕ) (one : Attribute) (whole : Bool) → place < length all → test (setting (get_or all place one)) ≡ true → list_any test (map setting (drop place all)) ≡ whole → true ≡ whole
any_found test all place one whole inside passes so_far =
    sym (ap (λ (is : Bool). is || list_any test (map setting (drop (place + 1) all))) passes) ∙ (sym (ap (list_any test) (cell all place one inside)) ∙ so_far)

pub any_nowhere : (test : Setting → Bool) (all : List Attribute) (place : ℕ) (whole : Bool) → drop place all ≡ [] → list_any test (map setting (drop place all)) ≡ whole → false ≡ whole
any_nowhere test all place whole past so_far = sym (ap (λ (rest : List Attribute). list_any test (map setting rest)) past) ∙ so_far

-- whether the name of this one stands again behind it
pub distinct_here : (all : List Attribute) (place : ℕ) (one : Attribute) (again whole : Bool) → place < length all → again ≡ list_any (λ other. bytes_eq (setting (get_or all place one)).name other.name) (map setting (drop (place + 1) all)) → are_distinct (map setting (drop place all)) ≡ whole → (not again && are_distinct (map setting (drop (place + 1) all))) ≡ whole
distinct_here all place one again whole inside is so_far =
    ap (λ (a : Bool). not a && are_distinct (map setting (drop (place + 1) all))) is ∙ (sym (ap are_distinct (cell all place one inside)) ∙ so_far)

pub distinct_end : (all : List Attribute) (place : ℕ) (whole : Bool) → drop place all ≡ [] → are_distinct (map setting (drop place all)) ≡ whole → true ≡ whole
distinct_end all place whole past so_far = sym (ap (λ (rest : List Attribute). are_distinct (map setting rest)) past) ∙ so_far
