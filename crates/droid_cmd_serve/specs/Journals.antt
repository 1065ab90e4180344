-- The journal of the program's service (this project's own).
use Rattle.std.specs.Prelude.{◌≡◌, ◌⊎◌, ℕ, List, [], ◌∷◌, ◌++◌, Ok, codes, length, take, drop, replicate}
use Rattle.std.specs.Int.{w32, to_be_bytes}
use Rattle.md5.specs.Md5.{md5}
use Rattle.droid_cmd_serve.specs.Endings.{IsProgramSetting}
use Rattle.droid_pronom.specs.Registry.{Contents}
use Rattle.droid_pronom.specs.RegistryFile.{File}
use Rattle.droid_wire.specs.Histories.{GivesReply, HasBare, IsHistoryOf, no_base}
use Rattle.droid_recovery.specs.BareWorlds.{Bare}
use Rattle.droid_recovery.specs.BareRecords.{LeadTo}
use Rattle.droid_recovery.specs.Standing.{GivesReply as GivesRecord}
use Rattle.droid_wire.specs.Standing.{StandsForHistory}
use Rattle.droid_journal.specs.Chains.{checked, first_line_before}
use Rattle.droid_journal.specs.Records.{Record}
use Rattle.droid_wire.specs.declared.service_machine.ServiceMachine.{ServiceMachine}
use Rattle.droid_journal.specs.Opening.{WasDamaged, WasFound, WasRefuted}
use Rattle.droid_journal.specs.declared.journal.Journal.{Journal}
use Rattle.droid_core_spec.specs.Histories.{History}
use Rattle.droid_core_spec.specs.Setting.{Setting}

-- What a journal begins with: a line that says what it is, the limits of its service (profiles, nodes of a profile,
-- unfinished files), room for further limits, and the MD5 (RFC 1321) of the bytes of the registry. These are 80 bytes.
abbrev pub header_text : List ℕ → List ℕ
header_text registry =
    (codes "droid_desk journal 4"
    ++ 10 ∷ (to_be_bytes w32 64 ++ (to_be_bytes w32 100000 ++ (to_be_bytes w32 64 ++ replicate 31 0))))
    ++ md5 registry

-- the same of version 3: its limits are a line of text
abbrev pub header_text_before : List ℕ → List ℕ
header_text_before registry =
    (first_line_before ++ (codes "64 profiles, 100000 nodes, 64 unfinished files" ++ 10 ∷ [])) ++ md5 registry

-- A header of this registry: its text and 16 bytes more, which no client knows, and their check value; one of version 3
-- has no check value.
pub data IsHeaderOf (registry header : List ℕ) : Type 0 where
  Present : (random : List ℕ) (size : length random ≡ 16) (parts : header ≡ checked (header_text registry ++ random))
      → IsHeaderOf registry header
  Before : (random : List ℕ) (size : length random ≡ 16) (parts : header ≡ header_text_before registry ++ random)
      → IsHeaderOf registry header

-- one of version 4
abbrev pub IsNewHeaderOf : List ℕ → List ℕ → Type 0
IsNewHeaderOf registry header =
    (random : List ℕ) × (length random ≡ 16) × (header ≡ checked (header_text registry ++ random))

-- a fixed text and 16 bytes more: those that the file has behind the text, and of these ones the others
abbrev pub completed : List ℕ → List ℕ → List ℕ → List ℕ
completed text file random =
    text ++ (take 16 (drop (length text) file) ++ drop (length (take 16 (drop (length text) file))) random)

-- a service of this setting identifies by the registry that has these bytes, and has the program's limits
abbrev pub IsSettingFor : List ℕ → Setting → Type 0
IsSettingFor bytes setting = (registry : Contents) → File bytes (Ok registry) → IsProgramSetting registry setting

-- the service stands for each history that these records have, all of it on the disk
abbrev pub StandsForSmall : {F : Type 0} (has : F → List ℕ → Type 0) (kept : F → List ℕ) (setting : Setting)
    (header : List ℕ) (its : List Record) (journal : Journal F ServiceMachine)
    → Type 0
StandsForSmall has kept setting header its journal =
    (bare : Bare) (history : History) → LeadTo setting bare its history
    → StandsForHistory has kept setting header journal history history

-- the service stands for the history of these records, all of it on the disk
abbrev pub StandsForWhole : {F : Type 0} (has : F → List ℕ → Type 0) (kept : F → List ℕ) (setting : Setting)
    (header : List ℕ) (its : List Record) (journal : Journal F ServiceMachine)
    → Type 0
StandsForWhole has kept setting header its journal =
    (history : History) × IsHistoryOf setting its history
    × StandsForHistory has kept setting header journal history history

-- A journal with a header of this registry was opened, and these records were found in the file. The service stands for
-- their history. If a record is of a journal that was made small, it stands for each that they have.
pub record IsOpened {F : Type 0} (has : F → List ℕ → Type 0) (kept : F → List ℕ) (registry : List ℕ) (setting : Setting)
    (file : List ℕ) (journal : Journal F ServiceMachine) : Type 0 where
  pub header : List ℕ
  pub is_of : IsHeaderOf registry header
  pub its : List Record
  pub found : WasFound header file its
  pub stands : StandsForWhole has kept setting header its journal
      ⊎ (HasBare its × StandsForSmall has kept setting header its journal)

-- behind this many records of the file a later one shows that it was damaged
pub record IsDamaged (registry file : List ℕ) (count : ℕ) : Type 0 where
  pub header : List ℕ
  pub is_of : IsHeaderOf registry header
  pub damaged : WasDamaged header file count

-- the record of a journal that was made small goes on no history of those before it, whichever files have no bytes
abbrev pub RefutesSmall : Setting → List ℕ → List ℕ → ℕ → Type 0
RefutesSmall setting header file number =
    (bare : Bare) → WasRefuted (GivesRecord (record { setting = setting; bare = bare })) header file number

-- No service of this setting got the request of this record behind those before it, or not with its reply; or it is no
-- record of a journal that was made small.
pub record IsRefuted (setting : Setting) (registry file : List ℕ) (number : ℕ) : Type 0 where
  pub header : List ℕ
  pub is_of : IsHeaderOf registry header
  pub refuted : WasRefuted (GivesReply setting (no_base setting)) header file number
      ⊎ RefutesSmall setting header file number
