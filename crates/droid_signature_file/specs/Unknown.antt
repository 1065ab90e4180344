-- The names of elements and attributes that a signature file has beside those that are known here. What stands in an
-- unknown element is not looked at.
use Rattle.std.specs.Prelude.{ℕ, zero, suc, ◌+◌, ◌-◌, ◌^◌, min, ◌||◌, ◌&&◌, nat_lt, Bool, true, false, if◌then◌else◌}
use Rattle.std.specs.Prelude.{List, [], ◌∷◌, ◌++◌, length, map, codes, Option, Some, None}
use Rattle.std.specs.List.{fold, position_or_len}
use Rattle.std.specs.Str.{bytes_eq}
use Rattle.droid_xml.specs.declared.attributes.Attribute.{Attribute}
use Rattle.droid_xml.specs.Pieces.{Part, Start, End, Text, Data, Reference, Comment, Instruction}
use Rattle.droid_xml.specs.Tags.{Tag}
use Rattle.droid_signature_file.specs.declared.whole_file.UnknownName.{UnknownName}
use Rattle.droid_signature_file.specs.declared.whole_file.UnknownPart.{UnknownPart}
use Rattle.droid_signature_file.specs.declared.whole_file.UnknownPart.TheVariants as parts
use Rattle.droid_signature_file.specs.declared.kinds.Kind.{Kind}
use Rattle.droid_signature_file.specs.declared.kinds.Kind.TheVariants as kinds

-- a number, or the largest of 64 bits
abbrev pub capped : ℕ → ℕ
capped n = min n (2 ^ 64 - 1)

-- the names, each with how often it stands there, in the order in which they come first; and how many names came beyond
-- the first 64
pub record Tally : Type 0 where
  pub names : List UnknownName
  pub unlisted : ℕ

-- the kind of the outermost element, by its name
abbrev pub kind_outside : List ℕ → Option Kind
kind_outside name = if bytes_eq name (codes "FFSignatureFile") then Some kinds.Root else None

-- the kind of an element of this name, by the kind of the element that it stands in
abbrev pub kind_in : Kind → List ℕ → Option Kind
kind_in kinds.Root name =
    if bytes_eq name (codes "InternalSignatureCollection") then Some kinds.SignatureCollection
    else if bytes_eq name (codes "FileFormatCollection") then Some kinds.FormatCollection
    else None
kind_in kinds.SignatureCollection name =
    if bytes_eq name (codes "InternalSignature") then Some kinds.Signature else None
kind_in kinds.Signature name = if bytes_eq name (codes "ByteSequence") then Some kinds.ByteSequence else None
kind_in kinds.ByteSequence name = if bytes_eq name (codes "SubSequence") then Some kinds.SubSequence else None
kind_in kinds.SubSequence name =
    if bytes_eq name (codes "Sequence") then Some kinds.Word
    else if bytes_eq name (codes "LeftFragment") then Some kinds.Fragment
    else if bytes_eq name (codes "RightFragment") then Some kinds.Fragment
    else None
kind_in kinds.FormatCollection name = if bytes_eq name (codes "FileFormat") then Some kinds.Format else None
kind_in kinds.Format name =
    if bytes_eq name (codes "InternalSignatureID") then Some kinds.Word
    else if bytes_eq name (codes "Extension") then Some kinds.Word
    else if bytes_eq name (codes "HasPriorityOverFileFormatID") then Some kinds.Word
    else None
kind_in kinds.Fragment name = None
kind_in kinds.Word name = None

-- whether an element may have an attribute of this name
abbrev pub has_attribute : Kind → List ℕ → Bool
has_attribute kinds.Root name =
    bytes_eq name (codes "Version") || bytes_eq name (codes "DateCreated") || bytes_eq name (codes "xmlns")
has_attribute kinds.SignatureCollection name = false
has_attribute kinds.Signature name = bytes_eq name (codes "ID") || bytes_eq name (codes "Specificity")
has_attribute kinds.ByteSequence name = bytes_eq name (codes "Reference")
has_attribute kinds.SubSequence name =
    bytes_eq name (codes "Position") || bytes_eq name (codes "SubSeqMinOffset")
    || bytes_eq name (codes "SubSeqMaxOffset")
has_attribute kinds.Fragment name =
    bytes_eq name (codes "Position") || bytes_eq name (codes "MinOffset") || bytes_eq name (codes "MaxOffset")
has_attribute kinds.FormatCollection name = false
has_attribute kinds.Format name =
    bytes_eq name (codes "ID") || bytes_eq name (codes "PUID") || bytes_eq name (codes "Name")
    || bytes_eq name (codes "Version") || bytes_eq name (codes "MIMEType")
has_attribute kinds.Word name = false

-- whether two are the same kind of part
abbrev pub same_part : UnknownPart → UnknownPart → Bool
same_part parts.Element parts.Element = true
same_part parts.Element parts.Attribute = false
same_part parts.Attribute parts.Element = false
same_part parts.Attribute parts.Attribute = true

-- whether this is the name of such a part
abbrev pub is_name : UnknownPart → List ℕ → UnknownName → Bool
is_name part name known = same_part known.part part && bytes_eq known.name name

-- one more of it
abbrev pub again : UnknownName → UnknownName
again known = record known { count = capped (known.count + 1) }

-- one more of the name at a place, counted from 0
abbrev pub again_at : ℕ → List UnknownName → List UnknownName
again_at place [] = []
again_at zero (known ∷ names) = again known ∷ names
again_at (suc place) (known ∷ names) = known ∷ again_at place names

-- one more name that is not listed: as a new one, or beyond the first 64
abbrev pub noted_new : UnknownPart → List ℕ → Tally → Tally
noted_new part name found =
    if nat_lt (length found.names) 64
    then record found { names = found.names ++ record { part = part; name = name; count = 1 } ∷ [] }
    else record found { unlisted = capped (found.unlisted + 1) }

-- one more name, at its place among the names or past them
abbrev pub noted_at : ℕ → UnknownPart → List ℕ → Tally → Tally
noted_at place part name found =
    if nat_lt place (length found.names) then record found { names = again_at place found.names }
    else noted_new part name found

-- one more name: at its place, or as a new one
unfoldable pub noted : UnknownPart → List ℕ → Tally → Tally
noted part name found = noted_at (position_or_len (is_name part name) found.names) part name found

-- what an attribute of an element of a kind adds, by its name
abbrev pub noted_attribute : Kind → Tally → List ℕ → Tally
noted_attribute kind found name = if has_attribute kind name then found else noted parts.Attribute name found

-- what all attributes of an element of a kind add
unfoldable pub noted_attributes : Kind → List (List ℕ) → Tally → Tally
noted_attributes kind names found = fold (noted_attribute kind) found names

-- the name of an attribute
abbrev pub name_of : Attribute → List ℕ
name_of attribute = attribute.name.now

-- of the elements that are open, the innermost first: its kind. None is an unknown one
abbrev pub innermost : List (Option Kind) → Option (Option Kind)
innermost [] = None
innermost (kind ∷ others) = Some kind

-- the kind of an element of this name, by the one that it stands in
abbrev pub kind_by : Option (Option Kind) → List ℕ → Option Kind
kind_by None name = kind_outside name
kind_by (Some None) name = None
kind_by (Some (Some kind)) name = kind_in kind name

-- the same, where these elements are open
abbrev pub kind_under : List (Option Kind) → List ℕ → Option Kind
kind_under stack name = kind_by (innermost stack) name

-- an unknown element counts only where the element outside is known
abbrev pub noted_by : Option (Option Kind) → List ℕ → Tally → Tally
noted_by None name found = found
noted_by (Some None) name found = found
noted_by (Some (Some kind)) name found = noted parts.Element name found

-- what an unknown element adds, where these elements are open
abbrev pub noted_element : List (Option Kind) → List ℕ → Tally → Tally
noted_element stack name found = noted_by (innermost stack) name found

-- the elements that are open, and what is counted so far
pub record Counting : Type 0 where
  pub stack : List (Option Kind)
  pub found : Tally

-- what a start tag adds, by its kind
abbrev pub noted_tag : Counting → Option Kind → Tag → Tally
noted_tag so_far (Some kind) tag = noted_attributes kind (map (λ setting. setting.name) tag.attributes) so_far.found
noted_tag so_far None tag = noted_element so_far.stack tag.name so_far.found

-- what is open and counted after a start tag
abbrev pub counted_tag : Counting → Tag → Counting
counted_tag so_far tag = record {
  stack = if tag.is_empty then so_far.stack else kind_under so_far.stack tag.name ∷ so_far.stack;
  found = noted_tag so_far (kind_under so_far.stack tag.name) tag;
}

-- the elements that are open after an end tag
abbrev pub closed : List (Option Kind) → List (Option Kind)
closed [] = []
closed (kind ∷ others) = others

-- one more piece
abbrev pub counted : Counting → Part → Counting
counted so_far (Start tag) = counted_tag so_far tag
counted so_far (End name) = record so_far { stack = closed so_far.stack }
counted so_far (Text text) = so_far
counted so_far (Data text) = so_far
counted so_far (Reference char) = so_far
counted so_far (Comment text) = so_far
counted so_far (Instruction target text) = so_far

-- the names that are not known among pieces
unfoldable pub tally : List Part → Tally
tally pieces = (fold counted (record { stack = []; found = record { names = []; unlisted = 0 } }) pieces).found
