use Rattle.std.proofs.Common.{◌≡◌, ◌<◌, true, ℕ, List, Some, Result}
use Rattle.csv.specs.Reading.{Ready, default_config, source_of, strip_bom}
use Rattle.csv.specs.declared.parser.State.TheVariants as st
use Rattle.csv.specs.declared.reader.Trim.TheVariants as trim
use Rattle.droid_pronom.specs.Registry.{Contents}
use Rattle.droid_pronom.specs.RegistryCalls.{draft_of}
use Rattle.droid_pronom.specs.RegistryFile.{Outcome, empty_draft}
use Rattle.droid_pronom.specs.declared.registry.fault.RegistryFault.{RegistryFault}
use Rattle.droid_pronom.proofs.registry.Registry.parse.Given as goal

-- the reader goes on as it began, and what comes of the bytes that it has left comes of all
abbrev pub invariant-loop-row : goal.invariant-loop-row
invariant-loop-row l = (l.row-iterator.rdr.trim ≡ trim.None) × Ready l.row-iterator.rdr × (0 < l.row-iterator.left) × (l.row-iterator.rdr.config ≡ default_config)
    × (l.row-iterator.rdr.flexible ≡ true)
    × (y : List ℕ) × (source_of (λ s. Some s.now) l.row-iterator.rdr ≡ Some y)
    × ((r : Result Contents RegistryFault) → Outcome (draft_of l.draft) l.row-iterator.rdr.state y r → Outcome empty_draft st.StartRecord (strip_bom l.fn.bytes) r)
