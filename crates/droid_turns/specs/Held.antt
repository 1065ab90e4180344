-- What a reader of frames holds between two pieces.
use Rattle.std.specs.Prelude.{ℕ, List}

-- the bytes of the next frame that came, and how many bytes of memory are taken for its body
pub record Held : Type 0 where
  pub bytes : List ℕ
  pub memory : ℕ
