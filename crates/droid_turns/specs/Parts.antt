-- For inner clauses and proofs: the parts of what a reader holds between two pieces.
use Rattle.std.specs.Prelude.{◌≡◌, ℕ, ◌<◌, ◌≤◌, List, [], ◌++◌, Result, Ok, Err, length, take, vec_capacity}
use Rattle.droid_frame.specs.Streams.{BeginsNoFrame}
use Rattle.droid_frame.specs.declared.streams.fault.FrameFault.{FrameFault}
use Rattle.droid_turns.specs.Headers.{judged_at}
use Rattle.droid_turns.specs.declared.feeding.parts.Parts.{Parts}

-- the bytes that came
abbrev pub came : Parts → List ℕ
came parts = take parts.filled parts.header ++ parts.body.items

-- some of the announced body is missing; nothing came after a header with a fault
abbrev pub Lacks : Result ℕ FrameFault → ℕ → Type 0
Lacks (Ok announced) size = size < announced
Lacks (Err fault) size = size ≡ 0

-- less than a frame: the first bytes of a header; or a header, and less than the body that it announces
pub record IsBetween (parts : Parts) : Type 0 where
  pub within : parts.filled ≤ 18
  pub short : parts.filled < 18 → parts.body.items ≡ []
  pub lacks : parts.filled ≡ 18 → Lacks (judged_at parts.header) (length parts.body.items)
  pub no_frame : BeginsNoFrame (came parts)
  -- no memory is taken before the first byte of a body
  pub none : length parts.body.items ≡ 0 → vec_capacity parts.body ≡ 0
