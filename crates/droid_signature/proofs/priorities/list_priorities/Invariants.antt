-- The priorities of the first formats.
use Rattle.std.proofs.Common.{take}
use Rattle.droid_signature.specs.RegistryTables.{priority_fields}
use Rattle.droid_signature.specs.Priorities.{LeavesPriority, TakesPriority, all_priorities}
use Rattle.droid_signature.specs.Tables.{Fills}
use Rattle.droid_signature.specs.Views.{all_of}
use Rattle.droid_signature.proofs.priorities.list_priorities.Given as goal

abbrev pub invariant-loop-place : goal.invariant-loop-place
invariant-loop-place l = Fills (TakesPriority (all_of l.kept)) (LeavesPriority (all_of l.kept)) priority_fields (all_priorities (take l.place (all_of l.kept))) l.table
