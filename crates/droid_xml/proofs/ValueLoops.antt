-- A value is read when all its characters are.
use Rattle.std.proofs.Common.{◌≡◌, ℕ, Bool, true, false, List, [], ◌∷◌, map, Option, Some, None, refl, sym, ap, ◌∙◌}
use Rattle.std.specs.List.{fold}
use Rattle.std.specs.Prelude.{Ok, Err}
use Rattle.droid_xml.specs.Bytes.{◌>>=◌, only_if}
use Rattle.droid_xml.specs.Outcomes.{required}
use Rattle.droid_xml.specs.Values.{Partial, after_each, ended, nothing, value_of}
use Rattle.droid_xml.specs.declared.problem.Problem.TheVariants as problems

as_they_are : (cs : List ℕ) → map (λ (c : ℕ). c) cs ≡ cs
as_they_are [] = refl
as_they_are (c ∷ cs) = ap (λ (rest : List ℕ). c ∷ rest) (as_they_are cs)

whole : (cs yielded : List ℕ) (is_right : Bool) (partial : Partial) → map (λ (c : ℕ). c) yielded ≡ cs → fold after_each (Some nothing) yielded ≡ only_if is_right partial → value_of cs ≡ (only_if is_right partial >>= ended)
unfolding value_of
whole cs yielded is_right partial all is =
    ap (λ (xs : List ℕ). fold after_each (Some nothing) xs >>= ended) (sym all ∙ as_they_are yielded) ∙ ap (λ (v : Option Partial). v >>= ended) is

pub value_wrong : (cs yielded : List ℕ) (is_right : Bool) (partial : Partial) → map (λ (c : ℕ). c) yielded ≡ cs → fold after_each (Some nothing) yielded ≡ only_if is_right partial → is_right ≡ false → required (value_of cs) ≡ Err problems.NotWellFormed
value_wrong cs yielded is_right partial all is fails = ap required (whole cs yielded is_right partial all is ∙ ap (λ (b : Bool). only_if b partial >>= ended) fails)

pub value_unended : (cs yielded : List ℕ) (is_right : Bool) (partial : Partial) → map (λ (c : ℕ). c) yielded ≡ cs → fold after_each (Some nothing) yielded ≡ only_if is_right partial → is_right ≡ true → None ≡ ended partial → required (value_of cs) ≡ Err problems.NotWellFormed
value_unended cs yielded is_right partial all is holds none = ap required (whole cs yielded is_right partial all is ∙ (ap (λ (b : Bool). only_if b partial >>= ended) holds ∙ sym none))

pub value_whole : (cs yielded value : List ℕ) (is_right : Bool) (partial : Partial) → map (λ (c : ℕ). c) yielded ≡ cs → fold after_each (Some nothing) yielded ≡ only_if is_right partial → is_right ≡ true → Some value ≡ ended partial → required (value_of cs) ≡ Ok value
value_whole cs yielded value is_right partial all is holds some = ap required (whole cs yielded is_right partial all is ∙ (ap (λ (b : Bool). only_if b partial >>= ended) holds ∙ sym some))
