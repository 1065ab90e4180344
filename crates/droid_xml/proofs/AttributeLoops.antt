-- Loops over the attributes of a tag.
use Rattle.std.proofs.Common.{◌≡◌, ℕ, zero, suc, Bool, List, [], ◌∷◌, ◌++◌, Option, Some, None, refl, sym, ap, subst, ◌∙◌, append_assoc}
use Rattle.std.proofs.lemmas.List.{append-nil}
use Rattle.std.specs.Prelude.{Result, Ok, Err}
use Rattle.droid_xml.specs.Attributes.{Setting, next_attribute}
use Rattle.droid_xml.specs.Bytes.{choose}
use Rattle.droid_xml.specs.Outcomes.{◌>>=◌, required, Stops}
use Rattle.droid_xml.specs.Tags.{attributes_at, one_too_many, tag_end, with_first}
use Rattle.droid_xml.specs.declared.problem.Problem.{Problem}
use Rattle.droid_xml.specs.declared.problem.Problem.TheVariants as problems
use Rattle.droid_xml.specs.declared.problem.Stop.{Stop}
use Rattle.droid_xml.specs.declared.problem.Stop.TheVariants as stops

-- what stands behind a tag's name
abbrev pub Found : Type 0
Found = List Setting × (Bool × List ℕ)

-- these attributes first, and then those that were read
abbrev pub with_front : List Setting → Result Found Problem → Result Found Problem
with_front front (Ok found) = Ok (front ++ found.0, found.1)
with_front front (Err problem) = Err problem

pub front_nothing : (read : Result Found Problem) → with_front [] read ≡ read
front_nothing (Ok found) = refl
front_nothing (Err problem) = refl

front_first : (front : List Setting) (setting : Setting) (read : Result Found Problem) → with_front front (with_first setting read) ≡ with_front (front ++ setting ∷ []) read
front_first front setting (Ok found) = ap (λ (all : List Setting). Ok (all, found.1)) (sym (append_assoc front (setting ∷ []) found.0))
front_first front setting (Err problem) = refl

-- how a tag goes on where it doesn't end
other : ℕ → List ℕ → Result Found Problem
other zero rest = one_too_many rest
other (suc room) rest = required (next_attribute rest) >>= (λ found. with_first found.0 (attributes_at room found.1))

by_end : (room : ℕ) (rest : List ℕ) → attributes_at room rest ≡ choose (tag_end rest) (λ end. Ok ([], end)) (other room rest)
unfolding attributes_at other
by_end zero rest = refl
by_end (suc room) rest = refl

at_end : (room : ℕ) (rest : List ℕ) (end : Option (Bool × List ℕ)) → tag_end rest ≡ end → attributes_at room rest ≡ choose end (λ end. Ok ([], end)) (other room rest)
at_end room rest end is = by_end room rest ∙ ap (λ (end : Option (Bool × List ℕ)). choose end (λ end. Ok ([], end)) (other room rest)) is

-- the tag ends here
pub ends_here : (front : List Setting) (room : ℕ) (rest : List ℕ) (end : Bool × List ℕ) (whole : Result Found Problem) → with_front front (attributes_at room rest) ≡ whole → tag_end rest ≡ Some end → whole ≡ Ok (front, end)
ends_here front room rest end whole so_far is =
    sym so_far ∙ (ap (with_front front) (at_end room rest (Some end) is) ∙ ap (λ (all : List Setting). Ok (all, end)) (append-nil front))

goes_on : (front : List Setting) (room : ℕ) (rest : List ℕ) (read : Result (Setting × List ℕ) Problem) → tag_end rest ≡ None → required (next_attribute rest) ≡ read → with_front front (attributes_at (suc room) rest) ≡ with_front front (read >>= (λ found. with_first found.0 (attributes_at room found.1)))
unfolding other
goes_on front room rest read none is =
    ap (with_front front) (at_end (suc room) rest None none ∙ ap (λ (read : Result (Setting × List ℕ) Problem). read >>= (λ found. with_first found.0 (attributes_at room found.1))) is)

-- an attribute stands here, and there is room for it
pub one_more_attribute : (front : List Setting) (room left : ℕ) (rest : List ℕ) (found : Setting × List ℕ) (whole : Result Found Problem) → room ≡ suc left → with_front front (attributes_at room rest) ≡ whole → tag_end rest ≡ None → required (next_attribute rest) ≡ Ok found → with_front (front ++ found.0 ∷ []) (attributes_at left found.1) ≡ whole
one_more_attribute front room left rest found whole some so_far none is =
    sym (front_first front found.0 (attributes_at left found.1))
    ∙ (sym (goes_on front left rest (Ok found) none is) ∙ (ap (λ (n : ℕ). with_front front (attributes_at n rest)) (sym some) ∙ so_far))

-- no attribute stands here
pub wrong_here : (front : List Setting) (room left : ℕ) (rest : List ℕ) (stop : Stop) (whole : Result Found Problem) → room ≡ suc left → with_front front (attributes_at room rest) ≡ whole → tag_end rest ≡ None → Stops stop (required (next_attribute rest)) → Stops stop whole
wrong_here front room left rest stops.Memory whole some so_far none is = tt
wrong_here front room left rest (stops.Problem problem) whole some so_far none is =
    sym so_far ∙ (ap (λ (n : ℕ). with_front front (attributes_at n rest)) some ∙ goes_on front left rest (Err problem) none is)

front_too_many : (front : List Setting) (stop : Stop) (read : Result Found Problem) → Stops stop read → Stops stop (with_front front read)
front_too_many front stops.Memory read is = tt
front_too_many front (stops.Problem problem) read is = ap (with_front front) is

-- there is no room for more
pub too_many_here : (front : List Setting) (room : ℕ) (rest : List ℕ) (stop : Stop) (whole : Result Found Problem) → room ≡ zero → with_front front (attributes_at room rest) ≡ whole → tag_end rest ≡ None → Stops stop (one_too_many rest) → Stops stop whole
unfolding other
too_many_here front room rest stop whole fails so_far none is =
    let here : with_front front (one_too_many rest) ≡ whole =
    sym (ap (with_front front) (at_end zero rest None none)) ∙ (ap (λ (n : ℕ). with_front front (attributes_at n rest)) (sym fails) ∙ so_far) in
    subst (λ (read : Result Found Problem). Stops stop read) here (front_too_many front stop (one_too_many rest) is)

abbrev pub too_many : Setting × List ℕ → Result Found Problem
too_many found = Err problems.TooManyAttributes

-- what one attribute more leads to
pub one_too_many_is : (rest : List ℕ) (found : Setting × List ℕ) → required (next_attribute rest) ≡ Ok found → one_too_many rest ≡ Err problems.TooManyAttributes
one_too_many_is rest found is = ap (λ (read : Result (Setting × List ℕ) Problem). read >>= too_many) is

pub one_wrong_is : (rest : List ℕ) (stop : Stop) → Stops stop (required (next_attribute rest)) → Stops stop (one_too_many rest)
one_wrong_is rest stops.Memory is = tt
one_wrong_is rest (stops.Problem problem) is = ap (λ (read : Result (Setting × List ℕ) Problem). read >>= too_many) is
