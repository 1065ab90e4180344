-- For inner clauses and proofs: what the calls that read a text promise.
use Rattle.std.specs.Prelude.{◌≡◌, ℕ, ◌+◌, List, [], ◌++◌, length, Result, Ok, Err, ⊤}
use Rattle.std.specs.Borrow.{Bor}
use Rattle.droid_frame.specs.declared.hash_kind.HashKind.{HashKind}
use Rattle.droid_export.specs.Csv.{line}
use Rattle.droid_lists.specs.EntryMaps.{StandsFor}
use Rattle.droid_lists.specs.ProfileRows.{AreEntries, Entry, all_rows, entries_text}
use Rattle.droid_lists.specs.ProfileTexts.{IsProfileText, IsWrong, IsWrongEntry, IsWrongRow, names_of, other_name}
use Rattle.droid_lists.specs.declared.entries.Entries.{Entries}
use Rattle.droid_lists.specs.declared.spelling.text_fault.TextFault.{TextFault}
use Rattle.droid_lists.specs.declared.spelling.text_fault.TextFault.TheVariants as faults

-- the names of the columns, or the first that is wrong
abbrev pub NamesComes : Result (Bor (List ℕ)) ℕ → HashKind → List ℕ → Type 0
NamesComes (Ok rest) hash text = text ≡ line (names_of hash) ++ rest.now
NamesComes (Err column) hash text = IsWrongRow (other_name hash) text column

-- the records of a text behind the names
pub record ReadsAll (hash : HashKind) (text : List ℕ) (entries : Entries) : Type 0 where
  pub all : List Entry
  pub are : AreEntries hash all
  pub whole : text ≡ entries_text all
  pub stands : StandsFor entries all

-- a text behind the names is wrong first here
pub record IsWrongBehind (hash : HashKind) (text : List ℕ) (record_number column : ℕ) : Type 0 where
  pub all : List Entry
  pub rest : List ℕ
  pub rows : ℕ
  pub are : AreEntries hash all
  pub whole : text ≡ entries_text all ++ rest
  pub some : rest ≡ [] → ⊥
  pub wrong : IsWrongEntry hash all rest column rows
  pub number : record_number ≡ length (all_rows all) + 2 + rows

-- why no records could be read behind the names of the columns
abbrev pub IsFaultBehind : HashKind → List ℕ → TextFault → Type 0
IsFaultBehind hash text faults.Memory = ⊤
IsFaultBehind hash text (faults.Wrong number column) = IsWrongBehind hash text number column

-- ---- whole texts

-- a whole text was read
pub record ReadsText (hash : HashKind) (text : List ℕ) (entries : Entries) : Type 0 where
  pub all : List Entry
  pub is : IsProfileText hash text all
  pub stands : StandsFor entries all

-- a fault of a text: memory ran out, or it is wrong first here
abbrev pub IsFaultOf : HashKind → List ℕ → TextFault → Type 0
IsFaultOf hash text faults.Memory = ⊤
IsFaultOf hash text (faults.Wrong number column) = IsWrong hash text column number
