-- The refusal for a file that was not identified.
use Rattle.droid_frame.specs.declared.refusal.Refusal.{Refusal}
use Rattle.droid_frame.specs.declared.refusal.Refusal.TheVariants as refusals
use Rattle.droid_core.specs.declared.unfinished.fault.IdentifyFault.{IdentifyFault}
use Rattle.droid_core.specs.declared.unfinished.fault.IdentifyFault.TheVariants.{Incomplete, Memory}

-- the first missing piece, or that memory ran out
abbrev pub reported_as : IdentifyFault → Refusal
reported_as (Incomplete missing) = refusals.Incomplete missing
reported_as Memory = refusals.Memory
