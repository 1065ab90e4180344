-- Rows are read one after the other.
use Rattle.std.proofs.Common.{ℕ, List, Ok, refl}
use Rattle.std.specs.List.{flat_map}
use Rattle.csv.specs.Machine.{next_record}
use Rattle.csv.specs.declared.parser.State.TheVariants as st
use Rattle.droid_signature.specs.Csv.{line}
use Rattle.droid_signature.proofs.CsvReading.{read_line}
use Rattle.droid_pronom.specs.RegistryFile.{Outcome}
use Rattle.droid_pronom.specs.RegistryFile as outcome
use Rattle.droid_pronom.specs.RegistryRecords.{Draft}
use Rattle.droid_signature.specs.RowSteps.{Steps, none, more}

pub read_back : (draft final : Draft) (rows : List (List (List ℕ))) → Steps draft rows final → Outcome draft st.StartRecord (flat_map line rows) (Ok final.registry)
unfolding next_record
read_back draft final rows none = outcome.end refl
read_back draft final rows (more {next = next} {field = field} {fields = fields} {rows = rest} step steps) =
    outcome.taken (read_line field fields (flat_map line rest)) step (read_back next final rest steps)
