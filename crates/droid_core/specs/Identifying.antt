-- What the identification of a file returns (this project's own).
use Rattle.std.specs.Prelude.{◌≡◌, ◌<◌, ◌≤◌, ◌↔◌, ℕ, Bool, List, length, Result, IsErrOf, IsTrue, IfOk, OnOk}
use Rattle.std.specs.List.{AllByRecursion}
use Rattle.droid_assembly.specs.Pieces.{Piece, missing, file_bytes}
use Rattle.droid_assembly.specs.State.{State, StandsFor, IsComplete, count_of, hash_kind_of}
use Rattle.droid_core.specs.declared.unfinished.fault.IdentifyFault.{IdentifyFault}
use Rattle.droid_core.specs.declared.unfinished.fault.IdentifyFault.TheVariants.{Incomplete}
use Rattle.droid_core.specs.declared.unfinished.finding.Finding.{Finding}
use Rattle.droid_frame.specs.Hashes.{hash, IsHashValue}
use Rattle.droid_pronom.specs.Found.{IsFound}
use Rattle.droid_pronom.specs.Registry.{Contents}
use Rattle.droid_pronom.specs.RegistryFields.{is_puid}

-- these pieces make up a file of this size and hash, and the registry identifies it so under this name
pub record IsFindingOf (registry : Contents) (name : List ℕ) (match_all : Bool) (file : State) (pieces : List Piece)
    (finding : Finding) : Type 0 where
  pub size : finding.sealed.size ≡ length (file_bytes (count_of file) pieces)
  pub hash : finding.sealed.hash ≡ hash (hash_kind_of file) (file_bytes (count_of file) pieces)
  pub found : IsFound registry name (file_bytes (count_of file) pieces) file.scan_limit match_all finding.found

-- the hash has the length of its kind, and there are at most 4,096 identifiers, each of PRONOM's form
pub record IsWellFormed (finding : Finding) : Type 0 where
  pub hash_value : IsHashValue finding.sealed.hash
  pub few : length finding.found.puids ≤ 4096
  pub puids : AllByRecursion (λ puid. IsTrue (is_puid puid)) finding.found.puids

-- The first missing piece is reported exactly if one is missing. A finding is that of a complete file, and of the bytes
-- that its pieces make up.
pub record Identifies (registry : Contents) (name : List ℕ) (match_all : Bool) (file : State)
    (result : Result Finding IdentifyFault) : Type 0 where
  pub incomplete : (pieces : List Piece) (first : ℕ) → StandsFor file pieces
      → (IsErrOf result (Incomplete first) ↔ ((first ≡ missing (count_of file) pieces) × (first < count_of file)))
  pub complete : OnOk result (IsComplete file)
  pub finding : (pieces : List Piece) → StandsFor file pieces
      → IfOk result (IsFindingOf registry name match_all file pieces)
