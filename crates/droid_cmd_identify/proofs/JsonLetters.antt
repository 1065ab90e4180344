-- The characters that a loop yields are those of the text.
use Rattle.std.proofs.Common.{◌≡◌, ◌∙◌, ℕ, List, [], ◌∷◌, chars, flat_map, map, refl, sym, ap}
use Rattle.droid_cmd_identify.specs.Json.{json_char}

as_they_are : (cs : List ℕ) → map (λ (c : ℕ). c) cs ≡ cs
as_they_are [] = refl
as_they_are (c ∷ cs) = ap (λ (rest : List ℕ). c ∷ rest) (as_they_are cs)

pub all_letters : (text yielded : List ℕ) → map (λ (c : ℕ). c) yielded ≡ chars text → flat_map json_char yielded ≡ flat_map json_char (chars text)
all_letters text yielded all = ap (flat_map json_char) (sym (as_they_are yielded) ∙ all)
