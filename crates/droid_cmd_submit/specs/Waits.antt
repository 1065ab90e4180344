-- How long a connection is waited for (this project's own).
use Rattle.std.specs.Prelude.{◌≡◌, ℕ, ◌-◌, ◌*◌, Bool, min, nat_le}
use Rattle.droid_remote.specs.Events.{Event, Paused, Started}
use Rattle.droid_cmd_submit.specs.declared.loopback.Loopback.{Loopback}

-- the time that may be waited is over after this many seconds
abbrev pub is_over : ℕ → ℕ → Bool
is_over wait milliseconds = nat_le (wait * 1_000) milliseconds

-- each pause is twice as long as the one before, up to two seconds
abbrev pub next_pause : ℕ → ℕ
next_pause pause = min (pause * 2) 2_000

-- the pause before the next try, in milliseconds, after an event
abbrev pub pause_after : ℕ → Event → ℕ
pause_after pause Paused = next_pause pause
pause_after pause Started = 50
pause_after pause _ = pause

-- what is left of a frame's time, in milliseconds
abbrev pub time_left : ℕ → ℕ → ℕ
time_left limit awaited = limit - awaited

-- the port and both times stay, and the pauses grow as defined
pub record WaitsOn {R : Type 0} (old : Loopback R) (event : Event) (new : Loopback R) : Type 0 where
  pub settings : new.settings ≡ old.settings
  pub pause : new.pause ≡ pause_after old.pause event

-- a stream was opened, by the same port and times
pub record OpensOne {R : Type 0} (old new : Loopback R) : Type 0 where
  pub settings : new.settings ≡ old.settings
  pub pause : new.pause ≡ old.pause
