-- What a writer has got after an export to it.
use Rattle.std.specs.Prelude.{◌≡◌, ℕ, List, Option, Result, Ok, Err, length}
use Rattle.std.specs.Io.KnownBytes.{Appends, Keeps}
use Rattle.droid_frame.specs.Writes.{StopsWithin, Takes}
use Rattle.droid_export.specs.declared.fault.ExportFault.{ExportFault}
use Rattle.droid_export.specs.declared.fault.ExportFault.TheVariants.{Memory, Write}

-- the result says that the writer stopped
abbrev pub SaysStopped : Result (Unit {0}) ExportFault → Type 0
SaysStopped (Ok done) = ⊥
SaysStopped (Err Memory) = ⊥
SaysStopped (Err (Write written)) = Unit {0}

-- what was written of a text: all of it, nothing, or exactly its first bytes but not all
abbrev pub GoesOut : Option (List ℕ) → Option (List ℕ) → List ℕ → Result (Unit {0}) ExportFault → Type 0
GoesOut old new text (Ok done) = Appends old new text
GoesOut old new text (Err Memory) = Keeps old new
GoesOut old new text (Err (Write written)) = StopsWithin old new text 0 written

-- the room that the writer has afterwards, in bytes
abbrev pub UsesRoom : Option ℕ → Option ℕ → List ℕ → Result (Unit {0}) ExportFault → Type 0
UsesRoom old new text (Ok done) = Takes old new (length text)
UsesRoom old new text (Err Memory) = new ≡ old
UsesRoom old new text (Err (Write written)) = Takes old new written
