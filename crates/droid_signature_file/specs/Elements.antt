-- The elements and the text that stand directly in an element, from the pieces of an XML document.
use Rattle.std.specs.Prelude.{ℕ, zero, suc, ◌+◌, ◌++◌, Bool, true, false, not, if◌then◌else◌, List, [], ◌∷◌, take}
use Rattle.std.specs.Prelude.{filter, Option, Some, None}
use Rattle.std.specs.Char.{encode_utf8}
use Rattle.std.specs.Str.{bytes_eq}
use Rattle.droid_xml.specs.Attributes.{Setting}
use Rattle.droid_xml.specs.Bytes.{choose}
use Rattle.droid_xml.specs.Pieces.{Part, Start, End, Text, Data, Reference, Comment, Instruction}
use Rattle.droid_xml.specs.Tags.{Tag}

-- an element: its name, its attributes, and the pieces between its tags
pub record Node : Type 0 where
  pub name : List ℕ
  pub attributes : List Setting
  pub inside : List Part

-- how many elements are open behind a piece, from how many were open before it; None if it ends the outer element
abbrev pub deeper : ℕ → Part → Option ℕ
deeper depth (Start tag) = Some (if tag.is_empty then depth else suc depth)
deeper zero (End name) = None
deeper (suc depth) (End name) = Some depth
deeper depth (Text text) = Some depth
deeper depth (Data text) = Some depth
deeper depth (Reference char) = Some depth
deeper depth (Comment text) = Some depth
deeper depth (Instruction target text) = Some depth

-- how many pieces stand before the end tag of the element that they are in
abbrev pub inner_len : ℕ → List Part → ℕ
inner_len depth [] = 0
inner_len depth (part ∷ parts) = choose (deeper depth part) (λ d. suc (inner_len d parts)) 0

-- the tag of a piece that begins an element
abbrev pub tag_of : Part → Option Tag
tag_of (Start tag) = Some tag
tag_of (End name) = None
tag_of (Text text) = None
tag_of (Data text) = None
tag_of (Reference char) = None
tag_of (Comment text) = None
tag_of (Instruction target text) = None

-- whether a piece begins an element
abbrev pub is_start : Part → Bool
is_start (Start tag) = true
is_start (End name) = false
is_start (Text text) = false
is_start (Data text) = false
is_start (Reference char) = false
is_start (Comment text) = false
is_start (Instruction target text) = false

-- whether a piece begins an element that an end tag ends
abbrev pub opens : Part → Bool
opens (Start tag) = not tag.is_empty
opens (End name) = false
opens (Text text) = false
opens (Data text) = false
opens (Reference char) = false
opens (Comment text) = false
opens (Instruction target text) = false

-- the pieces inside the element of a tag, out of those behind the tag
abbrev pub inside_of : Tag → List Part → List Part
inside_of tag parts = if tag.is_empty then [] else take (inner_len 0 parts) parts

-- how many pieces belong to the element that a piece begins, behind that piece: those inside and its end tag
abbrev pub len_of : Part → List Part → ℕ
len_of part parts = if opens part then inner_len 0 parts + 1 else 0

-- an element, by its tag and the pieces behind it
abbrev pub node : Tag → List Part → Node
node tag parts = record { name = tag.name; attributes = tag.attributes; inside = inside_of tag parts }

-- the elements that stand directly among the pieces; skip counts the pieces that belong to the last one
abbrev pub nodes_from : ℕ → List Part → List Node
nodes_from skip [] = []
nodes_from (suc skip) (part ∷ parts) = nodes_from skip parts
nodes_from zero (part ∷ parts) =
    choose (tag_of part) (λ tag. node tag parts ∷ nodes_from (len_of part parts) parts) (nodes_from zero parts)

-- the text of a piece
abbrev pub word : Part → List ℕ
word (Start tag) = []
word (End name) = []
word (Text text) = text
word (Data text) = text
word (Reference char) = encode_utf8 char
word (Comment text) = []
word (Instruction target text) = []

-- the text that stands directly among the pieces
abbrev pub words_from : ℕ → List Part → List ℕ
words_from skip [] = []
words_from (suc skip) (part ∷ parts) = words_from skip parts
words_from zero (part ∷ parts) = word part ++ words_from (len_of part parts) parts

-- the value of the attribute of this name, which may be missing
abbrev pub value_of : List ℕ → List Setting → Option (List ℕ)
value_of name [] = None
value_of name (setting ∷ settings) = if bytes_eq setting.name name then Some setting.value else value_of name settings

-- whether an element has this name
abbrev pub is_named : List ℕ → Node → Bool
is_named name element = bytes_eq element.name name

-- the elements of this name that stand directly in one
abbrev pub inside_named : List ℕ → Node → List Node
inside_named name element = filter (is_named name) (nodes_from 0 element.inside)
