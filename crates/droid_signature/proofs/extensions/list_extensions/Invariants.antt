-- The extensions of the first formats.
use Rattle.std.proofs.Common.{take}
use Rattle.droid_signature.specs.RegistryTables.{extension_fields}
use Rattle.droid_signature.specs.Extensions.{LeavesExtension, TakesExtension, all_extensions}
use Rattle.droid_signature.specs.Tables.{Fills}
use Rattle.droid_signature.specs.Views.{all_of}
use Rattle.droid_signature.proofs.extensions.list_extensions.Given as goal

abbrev pub invariant-loop-place : goal.invariant-loop-place
invariant-loop-place l = Fills TakesExtension LeavesExtension extension_fields (all_extensions (take l.place (all_of l.kept))) l.table
