-- The first priorities.
use Rattle.std.proofs.Common.{List, ◌++◌, take}
use Rattle.droid_signature.specs.RegistryTables.{priority_fields}
use Rattle.droid_signature.specs.Priorities.{LeavesPriority, Priority, TakesPriority, priorities_of}
use Rattle.droid_signature.specs.Tables.{Fills}
use Rattle.droid_signature.specs.Views.{all_of, kept_of}
use Rattle.droid_signature.proofs.priorities.add_priorities.Given as goal

abbrev pub invariant-loop-at : goal.invariant-loop-at
invariant-loop-at l = (xs : List Priority) → Fills (TakesPriority (all_of l.kept)) (LeavesPriority (all_of l.kept)) priority_fields xs l.fn.table
    → Fills (TakesPriority (all_of l.kept)) (LeavesPriority (all_of l.kept)) priority_fields (xs ++ priorities_of l.place (kept_of l.of) (take l.at l.priorities)) l.table
