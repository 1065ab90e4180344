-- How the pieces of a file are read and sent (this project's own).
use Rattle.std.specs.Prelude.{◌≡◌, ℕ, suc, ◌+◌, ◌-◌, ◌<◌, ◌≤◌, nat_lt, cond, min, List, [], ◌∷◌, ◌++◌, length}
use Rattle.std.specs.List.{flat_map}
use Rattle.droid_frame.specs.declared.refusal.Refusal.TheVariants as refusals
use Rattle.droid_frame.specs.declared.request.Request.TheVariants.{Piece}
use Rattle.droid_tree.specs.Heard.{TookBytes}
use Rattle.droid_tree.specs.Observation.{Read}
use Rattle.droid_tree.specs.Reading.{Stop, IsStop, observed_of_stop}
use Rattle.droid_tree.specs.declared.folder_entry.FolderEntry.{FolderEntry}
use Rattle.droid_upload.specs.Calls.{Sent, Failed}
use Rattle.droid_upload.specs.Deeds.{Deed, Observed, Called, Informed}
use Rattle.droid_upload.specs.declared.client_fault.ClientFault.TheVariants as client_faults

-- the bytes of all pieces
abbrev pub joined : List (List ℕ) → List ℕ
joined pieces = flat_map (λ (bytes : List ℕ). bytes) pieces

-- the file is cut into pieces: from this offset each has the piece size, or the rest of the file
abbrev pub AreCut : ℕ → ℕ → ℕ → List (List ℕ) → Type 0
AreCut piece_size size from [] = Unit {0}
AreCut piece_size size from (bytes ∷ pieces) =
    (from < size) × (length bytes ≡ min piece_size (size - from)) × AreCut piece_size size (from + length bytes) pieces

-- how the reading of a file ended
pub data Reading : Type 0 where
  -- all pieces were read, and the file has no more bytes
  ReadAll : (pieces : List (List ℕ)) → Reading
  -- the read behind these pieces did not return what it should
  ReadPart : (pieces : List (List ℕ)) (stop : Stop) → Reading
  -- the piece behind these was read; the client says that a piece was refused, since the service has other bytes
  ReadOther : (pieces : List (List ℕ)) (bytes : List ℕ) → Reading

-- ---- the deeds for one file of a profile, of which the service has the pieces before `first`
module _ (profile number first : ℕ) (path : List ℕ) (entry : FolderEntry) where
  -- a piece is sent, and the watcher informed, unless the service has it
  abbrev pub sending_deeds : ℕ → List ℕ → List Deed
  sending_deeds index bytes =
      cond (nat_lt index first) []
      (Called (Sent (Piece profile number index bytes)) ∷ Informed (TookBytes path (length bytes)) ∷ [])

  -- the pieces are read one after the other, from this index and offset, each completely
  abbrev pub piece_deeds : ℕ → ℕ → List (List ℕ) → List Deed
  piece_deeds index from [] = []
  piece_deeds index from (bytes ∷ pieces) =
      Observed (Read path entry from (length bytes) bytes)
      ∷ (sending_deeds index bytes ++ piece_deeds (suc index) (from + length bytes) pieces)

  -- all reads and sent pieces of a file, by how its reading ended
  abbrev pub reading_deeds : Reading → List Deed
  reading_deeds (ReadAll pieces) =
      piece_deeds 0 0 pieces ++ Observed (Read path entry (length (joined pieces)) 1 []) ∷ []
  reading_deeds (ReadPart pieces stop) =
      piece_deeds 0 0 pieces ++ Observed (observed_of_stop path entry (length (joined pieces)) stop) ∷ []
  reading_deeds (ReadOther pieces bytes) =
      piece_deeds 0 0 pieces
      ++ Observed (Read path entry (length (joined pieces)) (length bytes) bytes)
      ∷ Called (Failed 0 (Piece profile number (length pieces) bytes) (client_faults.Piece refusals.NumberReused)) ∷ []

-- the reading of a file may end so
abbrev pub MayRead : ℕ → ℕ → ℕ → Reading → Type 0
MayRead piece_size size first (ReadAll pieces) = AreCut piece_size size 0 pieces × (length (joined pieces) ≡ size)
MayRead piece_size size first (ReadPart pieces stop) =
    AreCut piece_size size 0 pieces × IsStop piece_size size (length (joined pieces)) stop
MayRead piece_size size first (ReadOther pieces bytes) =
    AreCut piece_size size 0 (pieces ++ bytes ∷ []) × (first ≤ length pieces)
