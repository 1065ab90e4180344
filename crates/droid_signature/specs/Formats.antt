-- Which formats of a signature file the registry has: those that it can hold, in the file's order.
use Rattle.std.specs.Prelude.{◌≡◌, ℕ, ◌≤◌, ◌&&◌, false, List, [], ◌∷◌, length, map, Some, None, unwrap_or}
use Rattle.droid_pronom.specs.Registry.{place_of}
use Rattle.droid_pronom.specs.RegistryFields.{is_name, is_note, is_puid}
use Rattle.droid_pronom.specs.declared.format.Format.{Format}
use Rattle.droid_signature.specs.RegistryTables.{FormatFits}
use Rattle.droid_signature_file.specs.Records.{FormatRecord}
use Rattle.droid_signature.specs.Sifting.{IsLeft, by_place}
use Rattle.droid_signature.specs.declared.left_out.Item.TheVariants as items
use Rattle.droid_signature.specs.declared.left_out.LeftOut.{LeftOut}
use Rattle.droid_signature.specs.declared.left_out.Why.{Why}
use Rattle.droid_signature.specs.declared.left_out.Why.TheVariants as why

-- a format with its place in the file
pub record Placed : Type 0 where
  pub place : ℕ
  pub format : FormatRecord

-- the formats of a file with their places
abbrev pub placed : List FormatRecord → List Placed
placed formats = by_place (λ place format. record { place = place; format = format } ∷ []) 0 formats

-- its PUID, empty if it has none
abbrev pub puid_in : FormatRecord → List ℕ
puid_in format = unwrap_or format.puid []

-- the same format in a registry
abbrev pub format_of : FormatRecord → Format
format_of format = record { puid = puid_in format; name = format.name; version = format.version; mime = format.mime }

-- the same formats in a registry
abbrev pub formats_of : List Placed → List Format
formats_of kept = map (λ it. format_of it.format) kept

-- a registry that has these formats takes it
pub record TakesFormat (before : List Placed) (it kept : Placed) : Type 0 where
  pub same : kept ≡ it
  pub fits : FormatFits (formats_of before) (format_of it.format)

-- why a registry that has these formats does not take a format
abbrev pub IsReasonOfFormat : List Format → FormatRecord → Why → Type 0
IsReasonOfFormat before format why.NoPuid = format.puid ≡ None
IsReasonOfFormat before format why.BadPuid = is_puid (puid_in format) ≡ false
IsReasonOfFormat before format why.PuidTaken = (place : ℕ) × (place_of (puid_in format) before ≡ Some place)
IsReasonOfFormat before format why.BadName = is_name format.name ≡ false
IsReasonOfFormat before format why.LongNote = (is_note format.version && is_note format.mime) ≡ false
IsReasonOfFormat before format why.Full = 4096 ≤ length before
IsReasonOfFormat before format other = ⊥

-- a format is left out of a registry that has these
abbrev pub LeavesFormat : List Placed → Placed → LeftOut → Type 0
LeavesFormat before it left = IsLeft it.place items.Format (IsReasonOfFormat (formats_of before) it.format) left
