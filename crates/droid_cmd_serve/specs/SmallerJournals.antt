-- The journal of the program's service, made smaller (this project's own).
use Rattle.std.specs.Prelude.{ℕ, ◌↔◌, Bool, IsTrue, List}
use Rattle.droid_core_spec.specs.Histories.{History}
use Rattle.droid_core_spec.specs.Setting.{Setting}
use Rattle.droid_recovery.specs.BareWorlds.{Bare}
use Rattle.droid_wire.specs.Histories.{Base, IsHistoryBehind}
use Rattle.droid_compaction.specs.Shortening.{HasBehind, IsShortened, IsWhole}
use Rattle.droid_compaction.specs.Sizes.{AreMostlyEnded, AreSizes}
use Rattle.droid_compaction.specs.declared.size.Size.{Size}
use Rattle.droid_cmd_serve.specs.Journals.{IsHeaderOf, IsNewHeaderOf}
use Rattle.droid_journal.specs.Records.{Record}
use Rattle.droid_journal.specs.Opening.{WasFound}
use Rattle.droid_recovery.specs.BareRecords.{LeadTo}

-- Opening finds records in the bytes, under the new header, that lead to the very history that a service stood for with
-- the records of the file, whatever it was made of.
abbrev pub LeadsToTheSame : List ℕ → List ℕ → List ℕ → List ℕ → Type 0
LeadsToTheSame header new file bytes =
    (setting : Setting) (base : Base setting) (its read : List Record) (history : History)
    → IsHistoryBehind setting base its history
    → IsWhole header file its → WasFound new bytes read → (bare : Bare) × LeadTo setting bare read history

-- the file is a journal of this registry, and the bytes are those of the smaller journal of its records, of version 4,
-- with their history
pub record IsSmallerOf (registry file bytes : List ℕ) : Type 0 where
  pub header : List ℕ
  pub is_of : IsHeaderOf registry header
  pub new : List ℕ
  pub new_is_of : IsNewHeaderOf registry new
  pub shortened : IsShortened header new file bytes
  pub same : LeadsToTheSame header new file bytes

-- the one size is that of the journal in the file, and the other that of the smaller one
pub record AreSizesOf (registry file : List ℕ) (before after : Size) : Type 0 where
  pub header : List ℕ
  pub is_of : IsHeaderOf registry header
  pub new : List ℕ
  pub new_is_of : IsNewHeaderOf registry new
  pub sizes : AreSizes header new file before after

-- there are bytes behind this many whole records of the journal in the file
pub record HasBytesBehind (registry file : List ℕ) (count : ℕ) : Type 0 where
  pub header : List ℕ
  pub is_of : IsHeaderOf registry header
  pub behind : HasBehind header file count

-- it says of the journal in the file whether more than half of its bytes are of pieces of files that have ended
pub record IsMostlyEndedIf (registry file : List ℕ) (says : Bool) : Type 0 where
  pub header : List ℕ
  pub is_of : IsHeaderOf registry header
  pub its : List Record
  pub whole : IsWhole header file its
  pub mostly : IsTrue says ↔ AreMostlyEnded file its
