-- Which fault a fault of the store is (this project's own).
use Rattle.droid_store.specs.declared.fault.StoreFault.{StoreFault}
use Rattle.droid_store.specs.declared.fault.StoreFault.TheVariants as stores
use Rattle.droid_recovery.specs.declared.revival_fault.RecoveryFault.{RecoveryFault}
use Rattle.droid_recovery.specs.declared.revival_fault.RecoveryFault.TheVariants.{Memory, Unfit}

-- a lack of memory is one here too; whatever else the store refuses, no service accepted it
abbrev pub of_store : StoreFault → RecoveryFault
of_store stores.Memory = Memory
of_store stores.Refused = Unfit
