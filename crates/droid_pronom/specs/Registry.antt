-- The contents of a registry: formats, and rows about them. A row names a format by its place, counted from 0.
use Rattle.std.specs.Prelude.{◌≡◌, ℕ, ◌+◌, ◌<◌, ◌≤◌, IsTrue, List, [], ◌∷◌, length, Option, Some, None, option_map}
use Rattle.std.specs.Prelude.{slice_get, if◌then◌else◌, ◌⊎◌}
use Rattle.std.specs.List.{AllByRecursion}
use Rattle.std.specs.Str.{bytes_eq}
use Rattle.droid_pronom.specs.RegistryFields.{is_puid}
use Rattle.droid_pronom.specs.declared.format.Format.{Format}
use Rattle.droid_pronom.specs.declared.rows.ListedExtension.{ListedExtension}
use Rattle.droid_pronom.specs.declared.rows.Priority.{Priority}
use Rattle.droid_pronom.specs.declared.rows.ByteSequence.{ByteSequence}

-- a signature of the format at a place: it hits if all of its byte sequences hit
pub record Signed : Type 0 where
  pub place : ℕ
  pub sequences : List ByteSequence

-- the formats in order, the extensions that they list, in lower case, their priorities and their signatures
pub record Contents : Type 0 where
  pub formats : List Format
  pub extensions : List ListedExtension
  pub priorities : List Priority
  pub signatures : List Signed

-- the empty registry
abbrev pub nothing : Contents
nothing = record { formats = []; extensions = []; priorities = []; signatures = [] }

-- at least one item of the list satisfies P
abbrev pub AnyOf : {X : Type 0} → (X → Type 0) → List X → Type 0
AnyOf P [] = ⊥
AnyOf P (x ∷ xs) = P x ⊎ AnyOf P xs

-- the place of the first format with this PUID
abbrev pub place_of : List ℕ → List Format → Option ℕ
place_of puid [] = None
place_of puid (format ∷ formats) =
    if bytes_eq puid format.puid then Some 0 else option_map (λ k. k + 1) (place_of puid formats)

-- the format at a place has a signature
abbrev pub IsSigned : Contents → ℕ → Type 0
IsSigned registry k = AnyOf (λ signature. signature.place ≡ k) registry.signatures

-- what holds of every registry
pub record IsRegistry (registry : Contents) : Type 0 where
  -- at most 4,096 formats
  pub few : length registry.formats ≤ 4096
  -- each format has a valid PUID
  pub named : AllByRecursion (λ format. IsTrue (is_puid format.puid)) registry.formats
  -- no two formats have one PUID: each format is the first with its PUID
  pub distinct : (k : ℕ) (format : Format) → slice_get registry.formats k ≡ Some format
      → place_of format.puid registry.formats ≡ Some k
  -- each row is about a format of the registry
  pub extensions : AllByRecursion (λ row. row.place < length registry.formats) registry.extensions
  pub priorities : AllByRecursion (λ row. (row.place < length registry.formats) × (row.over < length registry.formats))
      registry.priorities
  pub signatures : AllByRecursion (λ row. row.place < length registry.formats) registry.signatures
