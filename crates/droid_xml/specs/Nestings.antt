-- Which elements are open, and where a piece may stand (XML 1.0, sections 2.1 and 3).
use Rattle.std.specs.Prelude.{ℕ, ◌-◌, ◌&&◌, ◌||◌, ◌++◌, nat_eq, nat_lt, Bool, true, not, if◌then◌else◌, List, [], ◌∷◌}
use Rattle.std.specs.Prelude.{length, take, slice_index_or, Result, Ok, Err}
use Rattle.std.specs.List.{list_all}
use Rattle.std.specs.Str.{bytes_eq}
use Rattle.droid_xml.specs.Bytes.{is_space}
use Rattle.droid_xml.specs.Pieces.{Part, Start, End, Text, Data, Reference, Comment, Instruction}
use Rattle.droid_xml.specs.Tags.{Tag}
use Rattle.droid_xml.specs.declared.problem.Problem.{Problem}
use Rattle.droid_xml.specs.declared.problem.Problem.TheVariants as problems

-- the elements that are open, the innermost last, and whether the root has begun
pub record Nesting : Type 0 where
  pub names : List (List ℕ)
  pub has_root : Bool

-- no element is open
abbrev pub is_outside : Nesting → Bool
is_outside nesting = nat_eq (length nesting.names) 0

-- the root has begun and ended
abbrev pub is_complete : Nesting → Bool
is_complete nesting = is_outside nesting && nesting.has_root

-- an element begins: it is the root, or inside an element
abbrev pub begun : Nesting → Tag → Result Nesting Problem
begun nesting tag =
    if is_complete nesting then Err problems.NotWellFormed
    else if nat_lt (length nesting.names) 16
    then Ok (record { names = if tag.is_empty then nesting.names else nesting.names ++ tag.name ∷ []; has_root = true })
    else Err problems.TooDeep

-- the innermost element has this name
abbrev pub is_innermost : Nesting → List ℕ → Bool
is_innermost nesting name =
    nat_lt 0 (length nesting.names) && bytes_eq (slice_index_or nesting.names (length nesting.names - 1) []) name

-- the innermost element ends, by its name
abbrev pub closed : Nesting → List ℕ → Result Nesting Problem
closed nesting name =
    if is_innermost nesting name
    then Ok (record { names = take (length nesting.names - 1) nesting.names; has_root = nesting.has_root })
    else Err problems.NotWellFormed

-- a piece that opens and closes nothing, where the test says whether it may stand there
abbrev pub allowed : Bool → Nesting → Result Nesting Problem
allowed test nesting = if test then Ok nesting else Err problems.NotWellFormed

-- what is open behind a piece; outside of the root stands no text but white space
unfoldable pub nested : Nesting → Part → Result Nesting Problem
nested nesting (Start tag) = begun nesting tag
nested nesting (End name) = closed nesting name
nested nesting (Text text) = allowed (not (is_outside nesting) || list_all is_space text) nesting
nested nesting (Data text) = allowed (not (is_outside nesting)) nesting
nested nesting (Reference char) = allowed (not (is_outside nesting)) nesting
nested nesting (Comment text) = Ok nesting
nested nesting (Instruction target text) = Ok nesting
