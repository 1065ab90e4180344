-- A page is a tree of elements. It has only the elements and attributes named here: no script, no form, no handler of
-- an event, and nothing that a browser loads.
use Rattle.std.specs.Prelude.{ℕ, List, [], ◌∷◌, ◌++◌, codes, decimal}
use Rattle.droid_report.specs.Escapes.{escape}

-- the elements (SVG's are Svg and Rect)
pub data Tag : Type 0 where
  Html : Tag
  Head : Tag
  Title : Tag
  Style : Tag
  Body : Tag
  Main : Tag
  Section : Tag
  H1 : Tag
  H2 : Tag
  P : Tag
  Table : Tag
  Caption : Tag
  Thead : Tag
  Tbody : Tag
  Tr : Tag
  Th : Tag
  Td : Tag
  A : Tag
  Bdi : Tag
  Svg : Tag
  Rect : Tag

-- the name in a tag
abbrev pub tag_name : Tag → List ℕ
tag_name Html = codes "html"
tag_name Head = codes "head"
tag_name Title = codes "title"
tag_name Style = codes "style"
tag_name Body = codes "body"
tag_name Main = codes "main"
tag_name Section = codes "section"
tag_name H1 = codes "h1"
tag_name H2 = codes "h2"
tag_name P = codes "p"
tag_name Table = codes "table"
tag_name Caption = codes "caption"
tag_name Thead = codes "thead"
tag_name Tbody = codes "tbody"
tag_name Tr = codes "tr"
tag_name Th = codes "th"
tag_name Td = codes "td"
tag_name A = codes "a"
tag_name Bdi = codes "bdi"
tag_name Svg = codes "svg"
tag_name Rect = codes "rect"

-- the attributes; a browser reads SVG's viewBox and preserveAspectRatio in lower case too
pub data Key : Type 0 where
  Lang : Key
  Charset : Key
  Name : Key
  Content : Key
  HttpEquiv : Key
  Class : Key
  Href : Key
  Rel : Key
  Scope : Key
  AriaHidden : Key
  Viewbox : Key
  PreserveAspectRatio : Key
  Width : Key
  Height : Key

-- the name in front of `=`
abbrev pub key_name : Key → List ℕ
key_name Lang = codes "lang"
key_name Charset = codes "charset"
key_name Name = codes "name"
key_name Content = codes "content"
key_name HttpEquiv = codes "http-equiv"
key_name Class = codes "class"
key_name Href = codes "href"
key_name Rel = codes "rel"
key_name Scope = codes "scope"
key_name AriaHidden = codes "aria-hidden"
key_name Viewbox = codes "viewbox"
key_name PreserveAspectRatio = codes "preserveaspectratio"
key_name Width = codes "width"
key_name Height = codes "height"

-- an attribute's value: a text or a number
pub data Value : Type 0 where
  Words : List ℕ → Value
  Count : ℕ → Value

-- an attribute of an element
pub record Attribute : Type 0 where
  pub key : Key
  pub value : Value

-- What stands side by side: nothing, or a text, a number, an element with what is in it, or a `meta` element, which has
-- nothing in it and no end tag; and then the rest.
pub data Tree : Type 0 where
  Nothing : Tree
  Text : List ℕ → Tree → Tree
  Number : ℕ → Tree → Tree
  Element : Tag → List Attribute → Tree → Tree → Tree
  Meta : List Attribute → Tree → Tree

-- ---- the text of a tree

-- the text of a value
abbrev pub value_text : Value → List ℕ
value_text (Words text) = escape text
value_text (Count n) = decimal n

-- attributes, each behind a space, with its value between double quotes; then the end of the tag, and then this
abbrev pub attributes_text : List Attribute → List ℕ → List ℕ
attributes_text [] rest = 62 ∷ rest
attributes_text (attribute ∷ attributes) rest =
    32 ∷ (key_name attribute.key ++ (61 ∷ 34 ∷ (value_text attribute.value ++ (34 ∷ attributes_text attributes rest))))

-- the text of a tree, and then this
abbrev pub text_of : Tree → List ℕ → List ℕ
text_of Nothing rest = rest
text_of (Text text more) rest = escape text ++ text_of more rest
text_of (Number n more) rest = decimal n ++ text_of more rest
text_of (Element tag attributes inside more) rest =
    60
    ∷ (tag_name tag
    ++ attributes_text attributes (text_of inside (60 ∷ 47 ∷ (tag_name tag ++ (62 ∷ text_of more rest)))))
text_of (Meta attributes more) rest = 60 ∷ (codes "meta" ++ attributes_text attributes (text_of more rest))
