-- What the bytes of a signature file become (this project's own).
use Rattle.std.specs.Prelude.{◌≡◌, ◌≤◌, ◌==◌, ◌&&◌, not, ℕ, Bool, List, length, Result, Ok, Err, ⊤, string_bytes}
use Rattle.droid_signature.specs.AllLeftOut.{all_left_out}
use Rattle.droid_signature.specs.Conversion.{IsConversion, IsTooLong}
use Rattle.droid_signature_file.specs.Outcomes.{Reads}
use Rattle.droid_signature_file.specs.Records.{FileRecord}
use Rattle.droid_signature.specs.declared.conversion.Converted.{Converted}
use Rattle.droid_signature.specs.declared.conversion.Taken.{Taken}
use Rattle.droid_signature.specs.declared.left_out.LeftOut.{LeftOut}
use Rattle.droid_cmd_registry.specs.Reports.{digest_text, note_text, report_text}
use Rattle.droid_cmd_registry.specs.declared.conversion.Conversion.{Conversion}
use Rattle.droid_cmd_registry.specs.declared.registry_ending.RegistryEnding.{RegistryEnding}
use Rattle.droid_cmd_registry.specs.declared.registry_ending.RegistryEnding.TheVariants as endings

-- whether something of a signature file is not in the registry, or has a name that is not known
abbrev pub is_partial : FileRecord → List LeftOut → Bool
is_partial file left = not (length left == 0 && length file.unknown == 0 && file.unlisted == 0)

-- The registry file, the note and the report of what is left out, all of them made of the same signature file.
pub record IsConversionOf (quiet : Bool) (bytes : List ℕ) (it : Conversion) : Type 0 where
  -- the bytes are a signature file that says this
  pub file : FileRecord
  pub says : Reads bytes (Ok file)
  -- the registry file is made of it, without these items
  pub left : List LeftOut
  pub taken : Taken
  pub converted : IsConversion file it.csv.items left taken
  -- it is short enough for a registry, so that one reads it (`converted.made.accepted`)
  pub short : length it.csv.items ≤ 16777216
  -- the note and the report name the registry by its MD5
  pub note : string_bytes it.note ≡ note_text file (digest_text it.csv.items)
  pub report : string_bytes it.report ≡ report_text quiet file taken (all_left_out file left) (digest_text it.csv.items)
  pub partial : it.is_partial ≡ is_partial file (all_left_out file left)

-- for inner clauses and proofs: what is said of a registry that is made
pub record IsDescribed (quiet : Bool) (file : FileRecord) (made : Converted) (it : Conversion) : Type 0 where
  pub csv : it.csv ≡ made.csv
  pub note : string_bytes it.note ≡ note_text file (digest_text made.csv.items)
  pub report : string_bytes it.report
      ≡ report_text quiet file made.taken (all_left_out file made.left_out.items) (digest_text made.csv.items)
  pub partial : it.is_partial ≡ is_partial file (all_left_out file made.left_out.items)

-- why nothing is made of the bytes is true of them
abbrev pub IsEndingOf : List ℕ → RegistryEnding → Type 0
IsEndingOf bytes endings.NoMemory = ⊤
IsEndingOf bytes (endings.NoSignatures fault) = Reads bytes (Err fault)
IsEndingOf bytes endings.LongRegistry = (file : FileRecord) × Reads bytes (Ok file) × IsTooLong file
IsEndingOf bytes other = ⊥

-- what comes of the bytes: all that is made of them, or why nothing is
abbrev pub Converts : Bool → List ℕ → Result Conversion RegistryEnding → Type 0
Converts quiet bytes (Ok it) = IsConversionOf quiet bytes it
Converts quiet bytes (Err ending) = IsEndingOf bytes ending
