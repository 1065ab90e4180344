-- The bytes of a message after its last whole block: a lane's tail, which begins a block of 64 bytes.
use Rattle.std.specs.Prelude.{◌≡◌, ℕ, ◌+◌, ◌-◌, ◌%◌, List, ◌++◌, length, take, min}

-- how many bytes of a piece of `len` bytes go into the block that `used` bytes have begun; none where none has begun
abbrev pub joining : ℕ → ℕ → ℕ
joining used len = min ((64 - used) % 64) len

-- the block has the tail's bytes, and after them the piece's first bytes
abbrev pub IsJoined : List ℕ → ℕ → List ℕ → List ℕ → Type 0
IsJoined tail used piece block = (length block ≡ 64)
    × (take (used + joining used (length piece)) block ≡ take used tail ++ take (joining used (length piece)) piece)
