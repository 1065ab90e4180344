-- What is printed of a file that was read, and how a file that was not read is reported (this project's own).
use Rattle.std.specs.Prelude.{◌≡◌, ◌⊎◌, ℕ, ℤ, ◌++◌, Bool, true, false, List, [], codes, IfSome, MatchBool, IsUtf8}
use Rattle.droid_arguments.specs.declared.identify.IdentifyForm.{IdentifyForm}
use Rattle.droid_arguments.specs.declared.identify.IdentifyForm.TheVariants.{Siegfried}
use Rattle.hex.specs.Hex.{encode_lower}
use Rattle.droid_export.specs.Moments.{IsMoment, moment_text}
use Rattle.droid_frame.specs.Hashes.{hash_bytes}
use Rattle.droid_frame.specs.declared.hash_kind.HashKind.{HashKind}
use Rattle.droid_frame.specs.declared.hash_kind.HashKind.TheVariants as kinds
use Rattle.droid_frame.specs.declared.hash_value.HashValue.{HashValue}
use Rattle.droid_frame.specs.declared.hash_value.HashValue.TheVariants as hashes
use Rattle.droid_pronom.specs.Registry.{Contents}
use Rattle.droid_pronom.specs.Found.{extension_of}
use Rattle.droid_identity.specs.Identities.{IsIdentity}
use Rattle.droid_identity.specs.declared.identity.Identity.{Identity}
use Rattle.droid_tree.specs.Observation.{Observation}
use Rattle.droid_tree.specs.declared.folder_entry.EntryKind.{EntryKind}
use Rattle.droid_tree.specs.declared.folder_entry.EntryKind.TheVariants as entry_kinds
use Rattle.droid_tree.specs.declared.folder_entry.FolderEntry.{FolderEntry}
use Rattle.droid_tree.specs.declared.skip_reason.Skipped.{Skipped}
use Rattle.droid_cmd_identify.specs.EndsRead.{Identifies, StopsInEnds}
use Rattle.droid_cmd_identify.specs.FilesHashed.{HashesFile, StopsHashing}
use Rattle.droid_cmd_identify.specs.FileTexts.{file_text, unread_text}
use Rattle.droid_cmd_identify.specs.Reasons.{reason_text}
use Rattle.droid_cmd_identify.specs.ShownFormats.{AreShown}
use Rattle.droid_cmd_identify.specs.declared.ends.FileEnds.{FileEnds}
use Rattle.droid_cmd_identify.specs.declared.file.TreeFile.{TreeFile}
use Rattle.droid_cmd_identify.specs.declared.forms.shown_file.ShownFile.{ShownFile}
use Rattle.droid_cmd_identify.specs.declared.forms.shown_format.ShownFormat.{ShownFormat}
use Rattle.droid_cmd_identify.specs.declared.telling.Outcome.{Outcome}
use Rattle.droid_cmd_identify.specs.declared.telling.Outcome.TheVariants as outcomes
use Rattle.droid_cmd_identify.specs.declared.telling.Telling.{Telling}

-- ---- what is printed

-- what is printed of a file of this path, name, size, moment and hash, of which this is said
pub record IsShownOf (registry : Contents) (telling : Telling) (path name : List ℕ) (size : ℕ)
    (modified : ℤ) (hash : HashValue) (identity : Identity) (shown : ShownFile) : Type 0 where
  pub its_path : shown.path.now ≡ path
  pub its_size : shown.size ≡ size
  pub its_modified : telling.form ≡ Siegfried → IsMoment modified → shown.modified.now ≡ moment_text modified ++ codes "Z"
  pub method : shown.method ≡ identity.found.method
  pub mismatch : shown.mismatch ≡ identity.found.mismatch
  pub text : shown.text ≡ identity.text
  pub its_hash : IfSome shown.hash (λ it. (it.kind ≡ telling.hash) × (it.digits.now ≡ encode_lower (hash_bytes hash)))
  -- its formats with their reasons, where this is said of some file
  pub formats : (file : List ℕ) (scan_limit : ℕ) (match_all : Bool)
      → IsIdentity registry name file scan_limit match_all identity
      → AreShown registry.formats (extension_of name) identity shown.formats.now

-- what came of it: it has formats, or none
abbrev pub HasFormats : Outcome → List ShownFormat → Type 0
HasFormats outcomes.Known formats = formats ≡ [] → ⊥
HasFormats outcomes.Unknown formats = formats ≡ []
HasFormats (outcomes.Unread printed) formats = ⊥

-- this was printed of it
pub record TellsIdentity {P : Type 0} (prints : P → List ℕ → P → Type 0) (registry : Contents) (telling : Telling)
    (path name : List ℕ) (size : ℕ) (modified : ℤ) (hash : HashValue) (identity : Identity) (outcome : Outcome)
    (printer printer_after : P) : Type 0 where
  pub shown : ShownFile
  pub its : IsShownOf registry telling path name size modified hash identity shown
  pub came : HasFormats outcome shown.formats.now
  pub printed : prints printer (file_text telling.form telling.first shown) printer_after

-- ---- what is reported

-- it was reported, and what the form has of it was printed behind that; a path that is no UTF-8 is printed in no form
pub record TellsUnread {P : Type 0} (prints : P → List ℕ → P → Type 0) (reports : P → List ℕ → List ℕ → P → Type 0)
    (form : IdentifyForm) (first : Bool) (path why : List ℕ) (printed : Bool) (printer printer_after : P) : Type 0 where
  pub middle : P
  pub reported : reports printer path why middle
  pub behind : MatchBool printed (prints middle (unread_text form first path why) printer_after)
      ((printer_after ≡ middle) × ((IsUtf8 path → ⊥) ⊎ (unread_text form first path why ≡ [])))

-- a file was reported for this reason
abbrev pub TellsUnreadFile : {P : Type 0} → (P → List ℕ → P → Type 0) → (P → List ℕ → List ℕ → P → Type 0) → Telling
    → List ℕ → Skipped → Outcome → P → P → Type 0
TellsUnreadFile prints reports telling path why outcomes.Known printer printer_after = ⊥
TellsUnreadFile prints reports telling path why outcomes.Unknown printer printer_after = ⊥
TellsUnreadFile prints reports telling path why (outcomes.Unread printed) printer printer_after =
    TellsUnread prints reports telling.form telling.first path (reason_text why) printed printer printer_after

-- ---- a file of a tree

-- its hash, if one is printed
abbrev pub Hashes : {T : Type 0} → (T → Observation → T → Type 0) → List ℕ → FolderEntry → HashKind → HashValue → T → T
    → Type 0
Hashes observes path entry kinds.Nothing value tree tree_after = (value ≡ hashes.Nothing) × (tree_after ≡ tree)
Hashes observes path entry kinds.Md5 value tree tree_after = HashesFile observes path entry kinds.Md5 value tree
    tree_after
Hashes observes path entry kinds.Sha256 value tree tree_after = HashesFile observes path entry kinds.Sha256 value tree
    tree_after

-- the file was hashed, and this was printed
pub record HashesAndTells {T P : Type 0} (observes : T → Observation → T → Type 0) (prints : P → List ℕ → P → Type 0)
    (registry : Contents) (telling : Telling) (file : TreeFile) (identity : Identity) (outcome : Outcome)
    (tree tree_after : T) (printer printer_after : P) : Type 0 where
  pub value : HashValue
  pub hashed : Hashes observes file.path.now file.listed.now telling.hash value tree tree_after
  pub told : TellsIdentity prints registry telling file.shown.now file.name.now file.listed.now.len
      file.listed.now.modified value identity outcome printer printer_after

-- the file could not be hashed, and was reported
pub record StopsAndTells {T P : Type 0} (observes : T → Observation → T → Type 0) (prints : P → List ℕ → P → Type 0)
    (reports : P → List ℕ → List ℕ → P → Type 0) (telling : Telling) (file : TreeFile) (outcome : Outcome)
    (tree tree_after : T) (printer printer_after : P) : Type 0 where
  pub why : Skipped
  pub stops : StopsHashing observes file.path.now file.listed.now why tree tree_after
  pub told : TellsUnreadFile prints reports telling file.shown.now why outcome printer printer_after

-- what came of a file of which this is said
abbrev pub TellsRead : {T P : Type 0} → (T → Observation → T → Type 0) → (P → List ℕ → P → Type 0)
    → (P → List ℕ → List ℕ → P → Type 0) → Contents → Telling → TreeFile → Identity → Outcome → T → T → P → P → Type 0
TellsRead observes prints reports registry telling file identity outcome tree tree_after printer printer_after =
    HashesAndTells observes prints registry telling file identity outcome tree tree_after printer printer_after
    ⊎ StopsAndTells observes prints reports telling file outcome tree tree_after printer printer_after

-- the ends of the file were read, and of these bytes it was printed what the file is
pub record ReadsAndTells {T P : Type 0} (observes : T → Observation → T → Type 0) (prints : P → List ℕ → P → Type 0)
    (reports : P → List ℕ → List ℕ → P → Type 0) (registry : Contents) (telling : Telling) (file : TreeFile)
    (outcome : Outcome) (tree tree_after : T) (printer printer_after : P) : Type 0 where
  pub ends : FileEnds
  pub identity : Identity
  pub middle : T
  pub read : Identifies observes registry telling.options file ends identity tree middle
  pub told : TellsRead observes prints reports registry telling file identity outcome middle tree_after printer
      printer_after

-- the ends of the file could not be read, and it was reported
pub record UnreadAndTells {T P : Type 0} (observes : T → Observation → T → Type 0) (prints : P → List ℕ → P → Type 0)
    (reports : P → List ℕ → List ℕ → P → Type 0) (telling : Telling) (file : TreeFile) (outcome : Outcome)
    (tree tree_after : T) (printer printer_after : P) : Type 0 where
  pub why : Skipped
  pub stops : StopsInEnds observes file.path.now file.listed.now telling.options.limit why tree tree_after
  pub told : TellsUnreadFile prints reports telling file.shown.now why outcome printer printer_after

-- What is printed of a file is of the bytes that were read of it, and is printed once; or it is reported.
abbrev pub TellsFile : {T P : Type 0} → (T → Observation → T → Type 0) → (P → List ℕ → P → Type 0)
    → (P → List ℕ → List ℕ → P → Type 0) → Contents → Telling → TreeFile → Outcome → T → T → P → P → Type 0
TellsFile observes prints reports registry telling file outcome tree tree_after printer printer_after =
    ReadsAndTells observes prints reports registry telling file outcome tree tree_after printer printer_after
    ⊎ UnreadAndTells observes prints reports telling file outcome tree tree_after printer printer_after

-- ---- what is said at all

-- Texts were printed, things were reported, and what was kept was written, one after the other; and whether something
-- was printed or reported at all. A text may be empty: so is that of a file without a format where PUIDs alone are
-- printed.
pub data Says {P : Type 0} (prints : P → List ℕ → P → Type 0) (reports : P → List ℕ → List ℕ → P → Type 0)
    (writes : P → P → Type 0) (printer : P)
    : Bool → P → Type 0 where
  nothing : Says prints reports writes printer false printer
  printed : {said : Bool} {middle after : P} {text : List ℕ} → Says prints reports writes printer said middle
      → prints middle text after → Says prints reports writes printer true after
  reported : {said : Bool} {middle after : P} {path why : List ℕ} → Says prints reports writes printer said middle
      → reports middle path why after → Says prints reports writes printer true after
  written : {said : Bool} {middle after : P} → Says prints reports writes printer said middle → writes middle after
      → Says prints reports writes printer said after

-- something was said of what is named, or it is a folder whose files are asked for: these may be none
abbrev pub SaysOf : {P : Type 0} → (P → List ℕ → P → Type 0) → (P → List ℕ → List ℕ → P → Type 0) → (P → P → Type 0)
    → Bool → P → P → Type 0
SaysOf prints reports writes recursive printer printer_after =
    Says prints reports writes printer true printer_after ⊎ (recursive ≡ true)

-- something was said of an entry of a folder; of a folder nothing, since its files come later
abbrev pub SaysOfEntry : {P : Type 0} → (P → List ℕ → P → Type 0) → (P → List ℕ → List ℕ → P → Type 0)
    → (P → P → Type 0) → EntryKind → P → P → Type 0
SaysOfEntry prints reports writes kind printer printer_after =
    Says prints reports writes printer true printer_after
    ⊎ ((kind ≡ entry_kinds.Folder) × (printer_after ≡ printer))
