-- The pieces of one file: those that are there, the first that is missing, the file that they make, and its windows.
-- The division of a file into pieces is this project's own.
use Rattle.std.specs.Prelude.{◌≡◌, ℕ, ◌+◌, ◌-◌, ◌*◌, ◌/◌, ◌%◌, ◌^◌, ◌<◌, ◌≤◌, ◌==◌, min, List, [], ◌∷◌, length, take}
use Rattle.std.specs.Prelude.{drop, filter, nat_lt, Option, None, Some, unwrap_or, is_none, IsSome, sum_by}
use Rattle.std.specs.Prelude.{if◌then◌else◌}
use Rattle.std.specs.List.{flat_map, position_or_len, range_with_len}

-- a piece: its index, counted from 0, and its bytes
abbrev pub Piece : Type 0
Piece = ℕ × List ℕ

-- the number of pieces of a file of this size: the whole ones, and one more for a remainder
abbrev pub piece_count : ℕ → ℕ → ℕ
piece_count size piece_size = size / piece_size + min 1 (size % piece_size)

-- the limits: a file of at most 2^40 bytes, pieces of 1 to 4,194,304 bytes, at most 1,048,576 pieces, and a scan
-- limit of 1 to 65,536 bytes
pub record AreSizes (size piece_size scan_limit : ℕ) : Type 0 where
  pub size_fits : size ≤ 2 ^ 40
  pub piece_size_positive : 1 ≤ piece_size
  pub piece_size_fits : piece_size ≤ 2 ^ 22
  pub count_fits : piece_count size piece_size ≤ 2 ^ 20
  pub scan_limit_positive : 1 ≤ scan_limit
  pub scan_limit_fits : scan_limit ≤ 2 ^ 16

-- the length of the piece of this index; the last piece has the remainder
abbrev pub due_length : ℕ → ℕ → ℕ → ℕ
due_length size piece_size index = min piece_size (size - index * piece_size)

-- the file has a piece of this index, and of this length
abbrev pub IsDue : ℕ → ℕ → Piece → Type 0
IsDue size piece_size piece =
    (piece.0 < piece_count size piece_size) × (length piece.1 ≡ due_length size piece_size piece.0)

-- the bytes of the piece of this index, if it is there
abbrev pub bytes_at : List Piece → ℕ → Option (List ℕ)
bytes_at [] index = None
bytes_at (piece ∷ pieces) index = if piece.0 == index then Some piece.1 else bytes_at pieces index

-- the piece of this index is there
abbrev pub HasIndex : List Piece → ℕ → Type 0
HasIndex pieces index = IsSome (bytes_at pieces index)

-- the piece of this index is not there
abbrev pub LacksIndex : List Piece → ℕ → Type 0
LacksIndex pieces index = bytes_at pieces index ≡ None

-- the number of pieces that are there
abbrev pub held : List Piece → ℕ
held pieces = length pieces

-- the number of their bytes
abbrev pub bytes_held : List Piece → ℕ
bytes_held pieces = sum_by (λ piece. length piece.1) pieces

-- the smallest of the first `count` indexes that is missing, or `count` if none is
unfoldable pub missing : ℕ → List Piece → ℕ
missing count pieces = position_or_len (λ index. is_none (bytes_at pieces index)) (range_with_len 0 count)

-- the bytes of the first `count` pieces, joined in order of index
unfoldable pub file_bytes : ℕ → List Piece → List ℕ
file_bytes count pieces = flat_map (λ index. unwrap_or (bytes_at pieces index) []) (range_with_len 0 count)

-- the pieces after this index
abbrev pub past : ℕ → List Piece → List Piece
past index pieces = filter (λ piece. nat_lt index piece.0) pieces

-- the number of bytes that are kept of these pieces of a file of `count` pieces: the two windows of the bytes before
-- the first missing piece, and all bytes of the pieces after it
abbrev pub kept_bytes : ℕ → ℕ → List Piece → ℕ
kept_bytes scan_limit count pieces =
    2 * min scan_limit (length (file_bytes (missing count pieces) pieces))
    + bytes_held (past (missing count pieces) pieces)

-- the first bytes of a file, at most `scan_limit` of them
abbrev pub first_window : ℕ → List ℕ → List ℕ
first_window scan_limit bytes = take scan_limit bytes

-- the last bytes of a file, at most `scan_limit` of them
abbrev pub last_window : ℕ → List ℕ → List ℕ
last_window scan_limit bytes = drop (length bytes - scan_limit) bytes
