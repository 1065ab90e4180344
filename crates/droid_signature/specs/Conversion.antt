-- The registry of a whole signature file.
use Rattle.std.specs.Prelude.{◌≡◌, ℕ, ◌-◌, ◌^◌, ◌<◌, ◌≤◌, min, List, ◌++◌, length, Ok, Some, slice_get}
use Rattle.std.specs.List.{AllByRecursion}
use Rattle.droid_pronom.specs.Found.{Hits, IsHit}
use Rattle.droid_pronom.specs.Registry.{Contents}
use Rattle.droid_pronom.specs.RegistryFile.{File}
use Rattle.droid_signature.specs.SignatureRows.{flat}
use Rattle.droid_signature.specs.Signatures.{LeavesSignature, TakesSignature, all_signatures}
use Rattle.droid_signature.specs.RegistryTables.{ExtensionRow, PriorityRow, SignatureRow, Tables, file_of, registry_of}
use Rattle.droid_signature_file.specs.Meaning.{FormatHits}
use Rattle.droid_signature_file.specs.Records.{FileRecord}
use Rattle.droid_signature.specs.Extensions.{LeavesExtension, TakesExtension, all_extensions}
use Rattle.droid_signature.specs.Formats.{LeavesFormat, Placed, TakesFormat, formats_of, placed}
use Rattle.droid_signature.specs.Priorities.{LeavesPriority, TakesPriority, all_priorities}
use Rattle.droid_signature.specs.Sifting.{Sifted}
use Rattle.droid_signature.specs.declared.left_out.Item.TheVariants as items
use Rattle.droid_signature.specs.declared.left_out.LeftOut.{LeftOut}
use Rattle.droid_signature.specs.declared.left_out.Why.{Why}
use Rattle.droid_signature.specs.declared.conversion.Taken.{Taken}

-- a signature of the format at a place of the file is left out
pub record IsSignatureOf (place : ℕ) (it : LeftOut) : Type 0 where
  pub id : ℕ
  pub why : Why
  pub listed : it ≡ record { format = Some place; item = items.Signature id; why = why }

-- none of its signatures is
abbrev pub HasAllSignatures : ℕ → List LeftOut → Type 0
HasAllSignatures place left = AllByRecursion (λ it. IsSignatureOf place it → ⊥) left

-- The parts of a registry: the formats of the file that it has, in order, and its other tables. Each item of the file
-- is taken or left out, for a reason that is true.
pub record Parts (file : FileRecord) : Type 0 where
  pub kept : List Placed
  pub extensions : List ExtensionRow
  pub priorities : List PriorityRow
  pub signatures : List (List SignatureRow)
  pub left_formats : List LeftOut
  pub left_extensions : List LeftOut
  pub left_priorities : List LeftOut
  pub left_signatures : List LeftOut
  pub formats_sifted : Sifted TakesFormat LeavesFormat (placed file.formats) kept left_formats
  pub extensions_sifted : Sifted TakesExtension LeavesExtension (all_extensions kept) extensions left_extensions
  pub priorities_sifted : Sifted (TakesPriority kept) (LeavesPriority kept) (all_priorities kept) priorities
      left_priorities
  pub signatures_sifted : Sifted (TakesSignature file.signatures) (LeavesSignature file.signatures)
      (all_signatures kept) signatures left_signatures

-- the tables that the parts make
abbrev pub tables_of : {file : FileRecord} → Parts file → Tables
tables_of parts = record {
  formats = formats_of parts.kept;
  extensions = parts.extensions;
  priorities = parts.priorities;
  signatures = flat parts.signatures;
}

-- what is left out of all parts
abbrev pub left_of : {file : FileRecord} → Parts file → List LeftOut
left_of parts = parts.left_formats ++ parts.left_extensions ++ parts.left_priorities ++ parts.left_signatures

-- The format at a place of the registry hits only files that it hits by the signature file, and all of them if none of
-- its signatures is left out, under every scan limit.
pub record HitsAs (file : FileRecord) (registry : Contents) (left : List LeftOut) (place : ℕ) (it : Placed)
    : Type 0 where
  pub only : (bytes : List ℕ) (scan_limit : ℕ) → IsHit (Hits bytes scan_limit) registry place
      → FormatHits file bytes scan_limit it.format
  pub all : HasAllSignatures it.place left → (bytes : List ℕ) (scan_limit : ℕ)
      → FormatHits file bytes scan_limit it.format → IsHit (Hits bytes scan_limit) registry place

-- A registry file is made of a signature file.
pub record IsMadeOf (file : FileRecord) (csv : List ℕ) (left : List LeftOut) : Type 0 where
  pub parts : Parts file
  -- it has these parts
  pub text : csv ≡ file_of (tables_of parts)
  -- a registry reads it, if it is not too long
  pub accepted : length csv ≤ 16777216 → File csv (Ok (registry_of (tables_of parts)))
  -- all that is left out is listed
  pub reported : left ≡ left_of parts
  -- each format hits as in the signature file
  pub hits : (place : ℕ) (it : Placed) → slice_get parts.kept place ≡ Some it
      → HitsAs file (registry_of (tables_of parts)) left place it

-- how much of the file the registry has; of signatures up to the greatest number of 64 bits
pub record AreCounts {file : FileRecord} (parts : Parts file) (taken : Taken) : Type 0 where
  pub formats : taken.formats ≡ length parts.kept
  pub extensions : taken.extensions ≡ length parts.extensions
  pub priorities : taken.priorities ≡ length parts.priorities
  pub signatures : taken.signatures ≡ min (length parts.signatures) (2 ^ 64 - 1)

-- a registry file that is made of a signature file, with what is left out, and with how much it has
pub record IsConversion (file : FileRecord) (csv : List ℕ) (left : List LeftOut) (taken : Taken) : Type 0 where
  pub made : IsMadeOf file csv left
  pub counts : AreCounts made.parts taken

-- the registry file would be too long
pub record IsTooLong (file : FileRecord) : Type 0 where
  pub csv : List ℕ
  pub left : List LeftOut
  pub made : IsMadeOf file csv left
  pub long : 16777216 < length csv
