-- Which extensions the registry has.
use Rattle.std.specs.Prelude.{◌≡◌, ℕ, ◌<◌, ◌≤◌, true, false, List, [], ◌∷◌, length, IsUtf8}
use Rattle.droid_pronom.specs.RegistryFields.{is_extension}
use Rattle.droid_signature.specs.RegistryTables.{ExtensionRow}
use Rattle.droid_signature.specs.Formats.{Placed, puid_in}
use Rattle.droid_signature.specs.Sifting.{IsLeft, by_place}
use Rattle.droid_signature.specs.declared.left_out.Item.TheVariants as items
use Rattle.droid_signature.specs.declared.left_out.LeftOut.{LeftOut}
use Rattle.droid_signature.specs.declared.left_out.Why.{Why}
use Rattle.droid_signature.specs.declared.left_out.Why.TheVariants as why

-- an extension: the place in the registry of its format, the format, its own place among the format's extensions, and
-- its text
pub record Extension : Type 0 where
  pub place : ℕ
  pub of : Placed
  pub at : ℕ
  pub text : List ℕ

-- the extensions of the format at a place of the registry
abbrev pub extensions_of : ℕ → Placed → List (List ℕ) → List Extension
extensions_of place of texts =
    by_place (λ at text. record { place = place; of = of; at = at; text = text } ∷ []) 0 texts

-- the extensions of all formats of the registry
abbrev pub all_extensions : List Placed → List Extension
all_extensions kept = by_place (λ place it. extensions_of place it it.format.extensions) 0 kept

-- a registry that has these extensions takes it
pub record TakesExtension (before : List ExtensionRow) (it : Extension) (row : ExtensionRow) : Type 0 where
  pub same : row ≡ record { place = it.place; puid = puid_in it.of.format; text = it.text }
  pub valid : is_extension it.text ≡ true
  pub readable : IsUtf8 it.text
  pub room : length before < 16384

-- why a registry that has these extensions does not take an extension
abbrev pub IsReasonOfExtension : List ExtensionRow → List ℕ → Why → Type 0
IsReasonOfExtension before text why.BadExtension = is_extension text ≡ false
IsReasonOfExtension before text why.Full = 16384 ≤ length before
IsReasonOfExtension before text other = ⊥

-- an extension is left out of a registry that has these
abbrev pub LeavesExtension : List ExtensionRow → Extension → LeftOut → Type 0
LeavesExtension before it left = IsLeft it.of.place (items.Extension it.at) (IsReasonOfExtension before it.text) left
