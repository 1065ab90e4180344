-- A run of the command: what it does outside of itself, in order, and how it ends (this project's own).
use Rattle.std.specs.Prelude.{◌≡◌, Bool, true, false, ℕ, List, string_bytes}
use Rattle.droid_cmd_registry.specs.Acts.{Act, Got, GotNone, Put, PutNone, Reported}
use Rattle.droid_cmd_registry.specs.Conversions.{IsConversionOf, IsEndingOf}
use Rattle.droid_cmd_registry.specs.declared.conversion.Conversion.{Conversion}
use Rattle.droid_cmd_registry.specs.declared.registry_places.Part.TheVariants.{Registry, Note}
use Rattle.droid_cmd_registry.specs.declared.registry_places.Unput.{Unput}
use Rattle.droid_cmd_registry.specs.declared.registry_places.Unread.{Unread}
use Rattle.droid_cmd_registry.specs.declared.registry_ending.RegistryEnding.{RegistryEnding}
use Rattle.droid_cmd_registry.specs.declared.registry_ending.RegistryEnding.TheVariants as endings

-- the ending where all was written
abbrev pub ending_of : Bool → RegistryEnding
ending_of true = endings.Partial
ending_of false = endings.Whole

module _ {P : Type 0} (does : P → Act → P → Type 0) where
  -- What is written of a conversion, and the ending: the registry is put in its place, then the note, and then the
  -- report is printed. The first that fails ends it.
  pub data Writes (it : Conversion) (old : P) (ending : RegistryEnding) (new : P) : Type 0 where
    NoRegistry : (why : Unput) → does old (PutNone Registry it.csv.items why) new → ending ≡ endings.NoRegistry why
        → Writes it old ending new
    NoNote : (why : Unput) (with_registry : P) → does old (Put Registry it.csv.items) with_registry
        → does with_registry (PutNone Note (string_bytes it.note) why) new
        → ending ≡ endings.NoNote why → Writes it old ending new
    All : (with_registry with_note : P) → does old (Put Registry it.csv.items) with_registry
        → does with_registry (Put Note (string_bytes it.note)) with_note
        → does with_note (Reported (string_bytes it.report)) new → ending ≡ ending_of it.is_partial
        → Writes it old ending new

  -- What is written is the registry of the signature file that was read, whole, or nothing. Nothing else is done.
  pub data Runs (quiet : Bool) (old : P) (ending : RegistryEnding) (new : P) : Type 0 where
    -- the signature file could not be read
    NoFile : (why : Unread) → does old (GotNone why) new → ending ≡ endings.NoFile why → Runs quiet old ending new
    -- nothing could be made of its bytes
    NoConversion : (bytes : List ℕ) → does old (Got bytes) new → IsEndingOf bytes ending → Runs quiet old ending new
    -- a registry was made of them
    Converted : (bytes : List ℕ) (it : Conversion) (read : P) → does old (Got bytes) read
        → IsConversionOf quiet bytes it → Writes it read ending new
        → Runs quiet old ending new
