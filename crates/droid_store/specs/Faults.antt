-- Which fault an error of the database is, and which refusal the client gets for it.
use Rattle.droid_frame.specs.declared.refusal.Refusal.{Refusal}
use Rattle.droid_frame.specs.declared.refusal.Refusal.TheVariants as refusals
use Rattle.sqlite.specs.declared.error.Error.{Error}
use Rattle.sqlite.specs.declared.error.Error.TheVariants.{SqliteFailure}
use Rattle.sqlite.specs.declared.error.ErrorCode.TheVariants.{OutOfMemory, NoRowid}
use Rattle.droid_store.specs.declared.fault.StoreFault.{StoreFault}
use Rattle.droid_store.specs.declared.fault.StoreFault.TheVariants.{Memory, Refused}

-- Running out of memory, and of numbers for rows: there are more numbers than any memory has room for rows. Any other
-- error is a refusal.
abbrev pub fault_of : Error → StoreFault
fault_of (SqliteFailure OutOfMemory) = Memory
fault_of (SqliteFailure NoRowid) = Memory
fault_of _ = Refused

-- the refusal that the client gets when a call of the store fails
abbrev pub reported_as : StoreFault → Refusal
reported_as Memory = refusals.Memory
reported_as Refused = refusals.Store
