-- What the command does on a machine: the file system says no more than this (this project's own).
use Rattle.std.specs.Prelude.{ℕ, ◌≤◌, Bool, length, ⊤}
use Rattle.droid_cmd_registry.specs.Acts.{Act, Got, GotNone, Put, PutNone, Reported}
use Rattle.droid_cmd_registry.specs.Runs.{Runs}
use Rattle.droid_cmd_registry.specs.declared.registry_ending.RegistryEnding.{RegistryEnding}

-- a longer signature file is never read
abbrev pub MayDo : Act → Type 0
MayDo (Got bytes) = length bytes ≤ 67108864
MayDo (GotNone why) = ⊤
MayDo (Put part bytes) = ⊤
MayDo (PutNone part bytes why) = ⊤
MayDo (Reported text) = ⊤

-- a run on a machine, by what was read and by the ending: of the machine before and after nothing is known, so a number
-- stands for it
abbrev pub IsMachineRun : Bool → RegistryEnding → Type 0
IsMachineRun quiet ending = Runs (λ (old : ℕ) (act : Act) (new : ℕ). MayDo act) quiet 0 ending 0
