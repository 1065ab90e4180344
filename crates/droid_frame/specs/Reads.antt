-- What one read adds to what a reader did, and what reads leave of known bytes.
use Rattle.std.specs.Prelude.{◌≡◌, ℕ, ◌+◌, ◌<◌, List, Option, Result, Ok, Err, length}
use Rattle.std.specs.Io.KnownBytes.{Consumes}
use Rattle.std.specs.declared.io.Error.{Error}
use Rattle.droid_frame.specs.declared.io.stream_record.Seen.{Seen}
use Rattle.droid_frame.specs.declared.io.stream_fault.InputFault.{InputFault}
use Rattle.droid_frame.specs.declared.io.stream_fault.InputFault.TheVariants.{TooLong, Memory, Read}
use Rattle.droid_frame.specs.Seen.{AddsError}

-- what a read of a sound reader adds
abbrev pub AddsRead : Seen → Seen → Result ℕ Error → Type 0
AddsRead old new (Ok count) = new ≡ old
AddsRead old new (Err error) = AddsError old new error

-- known bytes lost some at their front, fewer than `wanted`
pub record ConsumesFewer (old new : Option (List ℕ)) (wanted : ℕ) : Type 0 where
  pub bytes : List ℕ
  pub consumed : Consumes old new bytes
  pub fewer : length bytes < wanted

-- known bytes lost exactly `count` bytes at their front
pub record ConsumesCount (old new : Option (List ℕ)) (count : ℕ) : Type 0 where
  pub bytes : List ℕ
  pub consumed : Consumes old new bytes
  pub counted : length bytes ≡ count

-- what was read where an input of at most `limit` bytes could not be read: `limit` + 1 bytes if it is too long, else at
-- most `limit`
abbrev pub ReadsNoInput : InputFault → Option (List ℕ) → Option (List ℕ) → ℕ → Type 0
ReadsNoInput TooLong old new limit = ConsumesCount old new (limit + 1)
ReadsNoInput Memory old new limit = ConsumesFewer old new (limit + 1)
ReadsNoInput Read old new limit = ConsumesFewer old new (limit + 1)
