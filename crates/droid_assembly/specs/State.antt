-- The state of an assembly, as contracts see it, and the settled pieces that it stands for.
use Rattle.std.specs.Prelude.{◌≡◌, ◌≢◌, ℕ, ◌+◌, ◌%◌, ◌<◌, ◌≤◌, min, List, length, Option, None, Some, slice_index_or}
use Rattle.std.specs.Prelude.{All, AllPairs}
use Rattle.droid_frame.specs.Hashes.{hash}
use Rattle.droid_frame.specs.declared.hash_kind.HashKind.{HashKind}
use Rattle.droid_frame.specs.declared.hash_value.HashValue.{HashValue}
use Rattle.droid_frame.specs.RunningHashes.{running_kind, HoldsAll}
use Rattle.droid_assembly.specs.Pieces.{Piece, piece_count, IsDue, bytes_at, held, bytes_held, missing, file_bytes}
use Rattle.droid_assembly.specs.Pieces.{first_window, last_window}
use Rattle.droid_frame.specs.declared.running_hash.RunningHash.{RunningHash}

-- the reserved memory, in bytes for each of the two windows and in places for waiting pieces
pub record Room : Type 0 where
  pub first : ℕ
  pub last : ℕ
  pub waiting : ℕ

-- the state of an assembly
pub record State : Type 0 where
  pub size : ℕ
  pub piece_size : ℕ
  pub scan_limit : ℕ
  -- the number of settled pieces, the index of the first missing piece, and the number of settled bytes
  pub held_count : ℕ
  pub first_missing : ℕ
  pub settled_bytes : ℕ
  -- the first and the last of the bytes before the first missing piece, and the hash of all of them so far
  pub first : List ℕ
  pub last : List ℕ
  pub running : RunningHash
  -- the hash of the whole file, after the first `seal`
  pub hashed : Option HashValue
  -- the settled pieces after the first missing one, each at its index modulo 16
  pub waiting : List (Option (List ℕ))
  pub pending : Option Piece
  -- the memory that is reserved for the windows and the waiting pieces, used or not
  pub reserved : Room

-- the number of pieces of its file
abbrev pub count_of : State → ℕ
count_of assembly = piece_count assembly.size assembly.piece_size

-- the kind of hash of its file
abbrev pub hash_kind_of : State → HashKind
hash_kind_of assembly = running_kind assembly.running

-- no piece is missing
abbrev pub IsComplete : State → Type 0
IsComplete assembly = assembly.first_missing ≡ count_of assembly

-- the same assembly with this piece pending, or none
abbrev pub with_pending : State → Option Piece → State
with_pending assembly pending = record assembly { pending = pending }

-- the limit on the bytes of each window
abbrev pub width_of : State → ℕ
width_of assembly = min assembly.size assembly.scan_limit

-- the place of the piece of this index among the waiting pieces
abbrev pub slot : List (Option (List ℕ)) → ℕ → Option (List ℕ)
slot waiting index = slice_index_or waiting (index % 16) None

-- the kept hash is the hash of the bytes; before one is kept, the running hash covers the bytes
abbrev pub IsHashOf : Option HashValue → RunningHash → List ℕ → Type 0
IsHashOf None running bytes = HoldsAll running bytes
IsHashOf (Some value) running bytes = value ≡ hash (running_kind running) bytes

-- the assembly's settled pieces are these, in any order; their indexes differ, and their lengths are right
pub record StandsFor (assembly : State) (pieces : List Piece) : Type 0 where
  pub are_due : All (IsDue assembly.size assembly.piece_size) pieces
  pub are_distinct : AllPairs (λ one other. one.0 ≢ other.0) pieces
  pub counted : assembly.held_count ≡ held pieces
  pub least : assembly.first_missing ≡ missing (count_of assembly) pieces
  pub weighed : assembly.settled_bytes ≡ bytes_held pieces
  -- its windows are the first and last of the bytes before the first missing piece
  pub begun : assembly.first ≡ first_window (width_of assembly) (file_bytes assembly.first_missing pieces)
  pub ended : assembly.last ≡ last_window (width_of assembly) (file_bytes assembly.first_missing pieces)
  -- its hash, kept or running, covers these bytes
  pub is_hash : IsHashOf assembly.hashed assembly.running (file_bytes assembly.first_missing pieces)
  -- its waiting pieces are those after the first missing one
  pub waits : (index : ℕ) → assembly.first_missing ≤ index → index < assembly.first_missing + 16
      → slot assembly.waiting index ≡ bytes_at pieces index
  pub none_beyond : (index : ℕ) → assembly.first_missing + 16 ≤ index → bytes_at pieces index ≡ None

-- the number of bytes of a pending piece
abbrev pub pending_bytes : Option Piece → ℕ
pending_bytes None = 0
pending_bytes (Some piece) = length piece.1

-- an assembly of the same file, in the same memory: the sizes, the kind of hash and the reserved memory are the same
pub record IsOfSameFile (old new : State) : Type 0 where
  pub size : new.size ≡ old.size
  pub piece_size : new.piece_size ≡ old.piece_size
  pub scan_limit : new.scan_limit ≡ old.scan_limit
  pub hash_kind : hash_kind_of new ≡ hash_kind_of old
  pub reserved : new.reserved ≡ old.reserved

-- nothing that a caller can observe has changed, and the reserved memory is the same
pub record IsUnchanged (old new : State) : Type 0 where
  pub same_file : IsOfSameFile old new
  pub missing : new.first_missing ≡ old.first_missing
  pub pending : new.pending ≡ old.pending
  pub stands : (pieces : List Piece) → StandsFor old pieces → StandsFor new pieces
