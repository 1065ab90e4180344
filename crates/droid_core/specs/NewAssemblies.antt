-- For inner clauses and proofs: the assembly of a new file.
use Rattle.std.specs.Prelude.{◌≡◌, ◌≤◌, ℕ, [], None}
use Rattle.droid_assembly.specs.State.{State, StandsFor, hash_kind_of}
use Rattle.droid_frame.specs.declared.hash_kind.HashKind.{HashKind}

-- of this size and piece size, this scan limit and this hash, and no piece was taken
pub record IsNew (assembly : State) (file_size size_of_pieces scanned : ℕ) (kind : HashKind) : Type 0 where
  pub size : assembly.size ≡ file_size
  pub piece_size : assembly.piece_size ≡ size_of_pieces
  pub scan_limit : assembly.scan_limit ≡ scanned
  pub hash : hash_kind_of assembly ≡ kind
  pub narrow : assembly.scan_limit ≤ 65536
  pub pieces : StandsFor assembly []
  pub none_pending : assembly.pending ≡ None
