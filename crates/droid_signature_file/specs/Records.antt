-- What a DROID signature file says, without where it lies in memory. Lists are in the file's order.
use Rattle.std.specs.Prelude.{ℕ, List, Option}
use Rattle.droid_signature_file.specs.declared.subsequence.OffsetRange.{OffsetRange}
use Rattle.droid_signature_file.specs.declared.subsequence.Fragment.{Fragment}
use Rattle.droid_signature_file.specs.declared.sequence.Reference.{Reference}
use Rattle.droid_signature_file.specs.declared.whole_file.UnknownName.{UnknownName}

-- a subsequence: its position and offsets, the text of its Sequence, and the fragments on both sides
pub record SubSequenceRecord : Type 0 where
  pub position : ℕ
  pub offsets : OffsetRange
  pub text : List ℕ
  pub left : List Fragment
  pub right : List Fragment

-- a byte sequence: from where its offsets count, and its subsequences
pub record ByteSequenceRecord : Type 0 where
  pub reference : Reference
  pub parts : List SubSequenceRecord

-- a signature: its ID and its byte sequences
pub record SignatureRecord : Type 0 where
  pub id : ℕ
  pub sequences : List ByteSequenceRecord

-- a format: its attributes, and the IDs of its signatures, its extensions, and the IDs of the formats over which it has
-- priority
pub record FormatRecord : Type 0 where
  pub id : ℕ
  pub puid : Option (List ℕ)
  pub name : List ℕ
  pub version : List ℕ
  pub mime : List ℕ
  pub signatures : List ℕ
  pub extensions : List (List ℕ)
  pub priorities : List ℕ

-- a whole file: version, date, signatures, formats, the names that the reader does not know, and how many elements and
-- attributes have further such names
pub record FileRecord : Type 0 where
  pub version : List ℕ
  pub created : List ℕ
  pub signatures : List SignatureRecord
  pub formats : List FormatRecord
  pub unknown : List UnknownName
  pub unlisted : ℕ
