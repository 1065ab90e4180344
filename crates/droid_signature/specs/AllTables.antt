-- For inner clauses and proofs: the tables of a signature file.
use Rattle.std.specs.Prelude.{ℕ, List, ◌++◌, length}
use Rattle.droid_signature.specs.Signatures.{Signs, all_signatures}
use Rattle.droid_signature.specs.RegistryTables.{extension_fields, priority_fields}
use Rattle.droid_signature_file.specs.Records.{FileRecord}
use Rattle.droid_signature.specs.Extensions.{LeavesExtension, TakesExtension, all_extensions}
use Rattle.droid_signature.specs.Formats.{Placed, placed}
use Rattle.droid_signature.specs.Keepings.{Keeps}
use Rattle.droid_signature.specs.Priorities.{LeavesPriority, TakesPriority, all_priorities}
use Rattle.droid_signature.specs.Tables.{Fills}
use Rattle.droid_signature.specs.Views.{all_of}
use Rattle.droid_signature.specs.declared.left_out.LeftOut.{LeftOut}
use Rattle.droid_signature.specs.declared.conversion.Taken.{Taken}
use Rattle.droid_signature.specs.declared.tables.AllTables.{AllTables}

-- the formats that the registry has
abbrev pub kept_in : AllTables → List Placed
kept_in it = all_of it.formats.kept.items

-- each table is that of the file
pub record AreTablesOf (file : FileRecord) (it : AllTables) : Type 0 where
  pub formats : Keeps (placed file.formats) it.formats
  pub extensions : Fills TakesExtension LeavesExtension extension_fields (all_extensions (kept_in it)) it.extensions
  pub priorities : Fills (TakesPriority (kept_in it)) (LeavesPriority (kept_in it)) priority_fields
      (all_priorities (kept_in it)) it.priorities
  pub signatures : Signs file.signatures (all_signatures (kept_in it)) it.signatures

-- the text of all rows
abbrev pub all_text : AllTables → List ℕ
all_text it =
    it.formats.table.text.items ++ it.extensions.text.items ++ it.priorities.text.items ++ it.signatures.text.items

-- what is left out of all tables
abbrev pub all_left : AllTables → List LeftOut
all_left it =
    it.formats.table.left_out.items ++ it.extensions.left_out.items ++ it.priorities.left_out.items
    ++ it.signatures.left_out.items

-- how much the tables have
abbrev pub taken_in : AllTables → Taken
taken_in it = record {
  formats = length it.formats.kept.items;
  extensions = it.extensions.count;
  priorities = it.priorities.count;
  signatures = it.signatures.taken;
}
