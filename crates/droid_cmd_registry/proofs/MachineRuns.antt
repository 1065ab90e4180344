-- A run without the machine.
use Rattle.std.proofs.Common.{ℕ, Bool}
use Rattle.droid_cmd_registry.specs.Acts.{Act}
use Rattle.droid_cmd_registry.specs.Machines.{IsMachineRun, MayDo}
use Rattle.droid_cmd_registry.specs.Runs.{All, Converted, NoConversion, NoFile, NoNote, NoRegistry, Runs, Writes}
use Rattle.droid_cmd_registry.specs.declared.conversion.Conversion.{Conversion}
use Rattle.droid_cmd_registry.specs.declared.registry_ending.RegistryEnding.{RegistryEnding}

writes : {P : Type 0} (it : Conversion) (ending : RegistryEnding) (old new : P) → Writes (λ (a : P) (act : Act) (b : P). MayDo act) it old ending new
    → Writes (λ (a : ℕ) (act : Act) (b : ℕ). MayDo act) it 0 ending 0
writes it ending old new (NoRegistry why done is) = NoRegistry why done is
writes it ending old new (NoNote why between first done is) = NoNote why 0 first done is
writes it ending old new (All one two first second third is) = All 0 0 first second third is

pub runs : {P : Type 0} (quiet : Bool) (ending : RegistryEnding) (old new : P) → Runs (λ (a : P) (act : Act) (b : P). MayDo act) quiet old ending new → IsMachineRun quiet ending
runs quiet ending old new (NoFile why got is) = NoFile why got is
runs quiet ending old new (NoConversion bytes got is) = NoConversion bytes got is
runs quiet ending old new (Converted bytes it read got is written) = Converted bytes it 0 got is (writes it ending read new written)
