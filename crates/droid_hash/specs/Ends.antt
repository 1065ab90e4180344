-- The first and the last bytes of a file whose bytes come in pieces.
use Rattle.std.specs.Prelude.{◌≡◌, ℕ, ◌-◌, List, length, take, drop, min}

-- what is kept of a file: at most `limit` bytes of each end; its size; how many of its bytes came; and, of those that
-- came, its first and its last bytes
pub record Ends : Type 0 where
  pub limit : ℕ
  pub size : ℕ
  pub count : ℕ
  pub first : List ℕ
  pub last : List ℕ

-- how many bytes each end has
abbrev pub width : Ends → ℕ
width ends = min ends.limit ends.size

-- these bytes came, from the file's first on; what comes beyond its size does not count
pub record AreEnds (limit size count : ℕ) (first last bytes : List ℕ) : Type 0 where
  pub counted : count ≡ length (take size bytes)
  pub begun : first ≡ take (min limit size) (take size bytes)
  pub ended : last ≡ drop (size - min limit size) (take size bytes)

-- the same of a value that keeps the ends of a file
unfoldable pub Came : Ends → List ℕ → Type 0
Came ends bytes = AreEnds ends.limit ends.size ends.count ends.first ends.last bytes
