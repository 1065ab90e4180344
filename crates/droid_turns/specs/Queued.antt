-- The bytes in a queue of replies.
use Rattle.std.specs.Prelude.{ℕ, List}

-- the queued bytes, and how many of them can go out in one write
pub record Queued : Type 0 where
  pub bytes : List ℕ
  pub front : ℕ
