-- What the elements of a DROID signature file say (its format as The National Archives publishes it).
use Rattle.std.specs.Prelude.{ℕ, ◌^◌, ◌-◌, ◌&&◌, nat_lt, Bool, if◌then◌else◌, List, [], ◌∷◌, length, drop, take, codes}
use Rattle.std.specs.Prelude.{unwrap_or, Option, Some, None, Result, Ok, Err}
use Rattle.std.specs.Char.{is_ascii_digit, is_ascii_whitespace}
use Rattle.std.specs.List.{prefix_len, suffix_len, list_all, flat_map}
use Rattle.std.specs.Str.{bytes_eq}
use Rattle.std.specs.Str.Parse.{digits_value}
use Rattle.droid_xml.specs.Pieces.{Part}
use Rattle.droid_signature_file.specs.Elements.{Node, nodes_from, words_from, value_of, is_named, inside_named}
use Rattle.droid_signature_file.specs.Tables.{meaningful}
use Rattle.droid_signature_file.specs.Unknown.{Tally, tally}
use Rattle.droid_signature_file.specs.Records.{ByteSequenceRecord, FileRecord, FormatRecord, SignatureRecord}
use Rattle.droid_signature_file.specs.Records.{SubSequenceRecord}
use Rattle.droid_signature_file.specs.declared.subsequence.OffsetRange.{OffsetRange}
use Rattle.droid_signature_file.specs.declared.subsequence.Fragment.{Fragment}
use Rattle.droid_signature_file.specs.declared.format.FormatAttributes.{FormatAttributes}
use Rattle.droid_signature_file.specs.declared.sequence.Reference.{Reference}
use Rattle.droid_signature_file.specs.declared.sequence.Reference.TheVariants.{Beginning, End, Other}
use Rattle.droid_signature_file.specs.declared.fault.Wrong.{Wrong}
use Rattle.droid_signature_file.specs.declared.fault.Wrong.TheVariants as wrongs

-- the next step, unless the one before it found something wrong
infixl 10 ◌>>=◌
abbrev pub ◌>>=◌ : {A B : Type 0} → Result A Wrong → (A → Result B Wrong) → Result B Wrong
(Ok x) >>= next = next x
(Err wrong) >>= next = Err wrong

-- one in front of others
abbrev pub every_with : {B : Type 0} → B → Result (List B) Wrong → Result (List B) Wrong
every_with y (Ok ys) = Ok (y ∷ ys)
every_with y (Err wrong) = Err wrong

-- each in order, or the first that is wrong
abbrev pub every : {A B : Type 0} → (A → Result B Wrong) → List A → Result (List B) Wrong
every read [] = Ok []
every read (x ∷ xs) = read x >>= (λ y. every_with y (every read xs))

-- ---- without white space: ASCII's, of which XML has all but the form feed

-- a text without the white space at its beginning
abbrev pub trimmed_front : List ℕ → List ℕ
trimmed_front text = drop (prefix_len is_ascii_whitespace text) text

-- a text without the white space at its end
abbrev pub trimmed_back : List ℕ → List ℕ
trimmed_back text = take (length text - suffix_len is_ascii_whitespace text) text

-- a text without the white space at both ends
abbrev pub trimmed : List ℕ → List ℕ
trimmed text = trimmed_back (trimmed_front text)

-- ---- the parts of a signature file

-- one decimal digit or more, and less than 2^32
abbrev pub is_number : List ℕ → Bool
is_number text = nat_lt 0 (length text) && list_all is_ascii_digit text && nat_lt (digits_value 10 text) (2 ^ 32)

-- a number
unfoldable pub number : List ℕ → Result ℕ Wrong
number text = if is_number text then Ok (digits_value 10 text) else Err wrongs.Number

-- the value of an attribute, which may be missing
abbrev pub attribute : List ℕ → Node → Option (List ℕ)
attribute name element = value_of name element.attributes

-- the text of an element
abbrev pub text_of : Node → List ℕ
text_of element = trimmed (words_from 0 element.inside)

-- the text of an element, in which nothing can be wrong
abbrev pub text : Node → Result (List ℕ) Wrong
text element = Ok (text_of element)

-- a number that has to be there
abbrev pub wanted : Option (List ℕ) → Result ℕ Wrong
wanted None = Err wrongs.Number
wanted (Some text) = number (trimmed text)

-- a number that may be missing
abbrev pub optional : Option (List ℕ) → Result (Option ℕ) Wrong
optional None = Ok None
optional (Some text) = number (trimmed text) >>= (λ n. Ok (Some n))

-- two offsets, by the names of their attributes
unfoldable pub offsets : List ℕ → List ℕ → Node → Result OffsetRange Wrong
offsets min max element = do
  low ← optional (attribute min element)
  high ← optional (attribute max element)
  Ok (record { min = low; max = high })

-- LeftFragment and RightFragment
unfoldable pub fragment : Node → Result Fragment Wrong
fragment element = do
  position ← wanted (attribute (codes "Position") element)
  range ← offsets (codes "MinOffset") (codes "MaxOffset") element
  Ok (record { position = position; offsets = range; text = text_of element })

-- the one text
abbrev pub only : List (List ℕ) → Result (List ℕ) Wrong
only [] = Err wrongs.Sequence
only (text ∷ []) = Ok text
only (text ∷ other ∷ more) = Err wrongs.Sequence

-- the text of the one Sequence of a SubSequence
unfoldable pub only_sequence : Node → Result (List ℕ) Wrong
only_sequence element = do
  texts ← every text (inside_named (codes "Sequence") element)
  only texts

-- SubSequence
unfoldable pub sub_sequence : Node → Result SubSequenceRecord Wrong
sub_sequence element = do
  position ← wanted (attribute (codes "Position") element)
  range ← offsets (codes "SubSeqMinOffset") (codes "SubSeqMaxOffset") element
  text ← only_sequence element
  left ← every fragment (inside_named (codes "LeftFragment") element)
  right ← every fragment (inside_named (codes "RightFragment") element)
  Ok (record { position = position; offsets = range; text = text; left = left; right = right })

-- from where offsets count
abbrev pub reference : Option (List ℕ) → Reference
reference None = Other
reference (Some text) =
    if bytes_eq text (codes "BOFoffset") then Beginning else if bytes_eq text (codes "EOFoffset") then End else Other

-- ByteSequence
unfoldable pub byte_sequence : Node → Result ByteSequenceRecord Wrong
byte_sequence element = do
  parts ← every sub_sequence (inside_named (codes "SubSequence") element)
  Ok (record { reference = reference (attribute (codes "Reference") element); parts = parts })

-- InternalSignature
unfoldable pub signature : Node → Result SignatureRecord Wrong
signature element = do
  id ← wanted (attribute (codes "ID") element)
  sequences ← every byte_sequence (inside_named (codes "ByteSequence") element)
  Ok (record { id = id; sequences = sequences })

-- a text that is empty where its attribute is missing
abbrev pub or_empty : Option (List ℕ) → List ℕ
or_empty text = unwrap_or text []

-- the number that is an element's text
abbrev pub numbered : Node → Result ℕ Wrong
numbered element = number (text_of element)

-- the attributes of a FileFormat
unfoldable pub attributes : Node → Result FormatAttributes Wrong
attributes element = do
  id ← wanted (attribute (codes "ID") element)
  Ok (record {
    id = id;
    puid = attribute (codes "PUID") element;
    name = or_empty (attribute (codes "Name") element);
    version = or_empty (attribute (codes "Version") element);
    mime = or_empty (attribute (codes "MIMEType") element);
  })

-- FileFormat
unfoldable pub format : Node → Result FormatRecord Wrong
format element = do
  it ← attributes element
  signatures ← every numbered (inside_named (codes "InternalSignatureID") element)
  extensions ← every text (inside_named (codes "Extension") element)
  priorities ← every numbered (inside_named (codes "HasPriorityOverFileFormatID") element)
  Ok (record {
    id = it.id;
    puid = it.puid;
    name = it.name;
    version = it.version;
    mime = it.mime;
    signatures = signatures;
    extensions = extensions;
    priorities = priorities;
  })

-- the elements of one name in all collections of another
abbrev pub collected : List ℕ → List ℕ → Node → List Node
collected collection name root = flat_map (inside_named name) (inside_named collection root)

-- what the root says, with the names that are not known
unfoldable pub file : Tally → Node → Result FileRecord Wrong
file strange root = do
  signatures ← every signature (collected (codes "InternalSignatureCollection") (codes "InternalSignature") root)
  formats ← every format (collected (codes "FileFormatCollection") (codes "FileFormat") root)
  Ok (record {
    version = or_empty (attribute (codes "Version") root);
    created = or_empty (attribute (codes "DateCreated") root);
    signatures = signatures;
    formats = formats;
    unknown = strange.names;
    unlisted = strange.unlisted;
  })

-- the root of a document is its only element
abbrev pub rooted : Tally → List Node → Result FileRecord Wrong
rooted strange [] = Err wrongs.Root
rooted strange (root ∷ others) = if is_named (codes "FFSignatureFile") root then file strange root else Err wrongs.Root

-- what pieces without search tables say
abbrev pub said : List Part → Result FileRecord Wrong
said parts = rooted (tally parts) (nodes_from 0 parts)

-- what the pieces of a document say
unfoldable pub signature_file : List Part → Result FileRecord Wrong
signature_file parts = said (meaningful 0 parts)
