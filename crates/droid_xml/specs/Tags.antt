-- Tags (XML 1.0, section 3.1).
use Rattle.std.specs.Prelude.{ℕ, zero, suc, if◌then◌else◌, Bool, true, false, List, [], ◌∷◌, codes, Option, Some}
use Rattle.std.specs.Prelude.{Result, Ok, Err}
use Rattle.std.specs.Option.{option_map}
use Rattle.droid_xml.specs.Attributes.{Setting, next_attribute, are_distinct}
use Rattle.droid_xml.specs.Bytes.{choose, after, past_spaces}
use Rattle.droid_xml.specs.Names.{name_at}
use Rattle.droid_xml.specs.Outcomes.{◌>>=◌, required}
use Rattle.droid_xml.specs.declared.problem.Problem.{Problem}
use Rattle.droid_xml.specs.declared.problem.Problem.TheVariants as problems

-- the end of a start tag: whether it ends its element too (`/>`), and what follows
unfoldable pub tag_end : List ℕ → Option (Bool × List ℕ)
tag_end bytes =
    choose (after (codes "/>") (past_spaces bytes)) (λ rest. Some (true, rest))
    (option_map (λ rest. (false, rest)) (after (codes ">") (past_spaces bytes)))

-- an attribute in front of the others of its tag
abbrev pub with_first : Setting → Result (List Setting × (Bool × List ℕ)) Problem
    → Result (List Setting × (Bool × List ℕ)) Problem
with_first setting more = more >>= (λ found. Ok (setting ∷ found.0, found.1))

-- where there is no room for an attribute, and no other fault
abbrev pub one_too_many : List ℕ → Result (List Setting × (Bool × List ℕ)) Problem
one_too_many bytes = required (next_attribute bytes) >>= (λ found. Err problems.TooManyAttributes)

-- the attributes of a tag and the tag's end, where there are no more attributes than there is room for
unfoldable pub attributes_at : ℕ → List ℕ → Result (List Setting × (Bool × List ℕ)) Problem
attributes_at zero bytes = choose (tag_end bytes) (λ end. Ok ([], end)) (one_too_many bytes)
attributes_at (suc room) bytes =
    choose (tag_end bytes) (λ end. Ok ([], end))
    (required (next_attribute bytes) >>= (λ found. with_first found.0 (attributes_at room found.1)))

-- a start tag: name, attributes, whether it ends its element too
pub record Tag : Type 0 where
  pub name : List ℕ
  pub attributes : List Setting
  pub is_empty : Bool

-- [40] STag and [44] EmptyElemTag behind their `<`, with at most 64 attributes
unfoldable pub start_tag_at : List ℕ → Result (Tag × List ℕ) Problem
start_tag_at bytes = do
  name ← required (name_at bytes)
  found ← attributes_at 64 name.1
  if are_distinct found.0 then Ok (record { name = name.0; attributes = found.0; is_empty = found.1.0 }, found.1.1)
      else Err problems.NotWellFormed
