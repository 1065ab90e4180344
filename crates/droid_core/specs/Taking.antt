-- The refusal of a call.
use Rattle.std.specs.Prelude.{Option, None, Some, Result, Ok, Err}
use Rattle.droid_frame.specs.declared.refusal.Refusal.{Refusal}

-- the refusal of a call, if it refused
abbrev pub refusal_in : {T : Type 0} → Result T Refusal → Option Refusal
refusal_in (Ok value) = None
refusal_in (Err refusal) = Some refusal
