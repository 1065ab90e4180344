-- The limits of a service.
use Rattle.std.specs.Prelude.{ℕ}

-- the most profiles of the service, nodes ever accepted in one profile, and unfinished files of the whole service
pub record Limits : Type 0 where
  pub profiles : ℕ
  pub nodes : ℕ
  pub unfinished : ℕ
