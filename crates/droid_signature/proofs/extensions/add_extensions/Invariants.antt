-- The first extensions.
use Rattle.std.proofs.Common.{List, ◌++◌, take}
use Rattle.droid_signature.specs.RegistryTables.{extension_fields}
use Rattle.droid_signature.specs.Extensions.{Extension, LeavesExtension, TakesExtension, extensions_of}
use Rattle.droid_signature.specs.Tables.{Fills}
use Rattle.droid_signature.specs.Views.{kept_of}
use Rattle.droid_signature.proofs.extensions.add_extensions.Given as goal

abbrev pub invariant-loop-at : goal.invariant-loop-at
invariant-loop-at l = (xs : List Extension) → Fills TakesExtension LeavesExtension extension_fields xs l.fn.table
    → Fills TakesExtension LeavesExtension extension_fields (xs ++ extensions_of l.place (kept_of l.of) (take l.at l.extensions)) l.table
