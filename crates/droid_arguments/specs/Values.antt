-- What the values of options are (this project's own).
use Rattle.std.specs.Prelude.{◌≡◌, ◌<◌, ◌^◌, ◌⊎◌, ◌↔◌, ℕ, Bool, true, false, List, Option, Some, None, MatchOption}
use Rattle.std.specs.Prelude.{codes}
use Rattle.std.specs.Str.Parse.{IsNumeral, digits_value, without_leading_plus}
use Rattle.clap.specs.Words.{Row, Text, first_of, one_of}
use Rattle.droid_frame.specs.declared.hash_kind.HashKind.{HashKind}
use Rattle.droid_frame.specs.declared.hash_kind.HashKind.TheVariants as hashes
use Rattle.droid_arguments.specs.declared.source.RegistrySource.{RegistrySource}
use Rattle.droid_arguments.specs.declared.source.RegistrySource.TheVariants as sources

-- a value of which this holds was read; or none was, and it holds of no value
abbrev pub Reads : {T : Type 0} → Option T → (T → Type 0) → Type 0
Reads {T} result Is = MatchOption result ((x : T) → Is x → ⊥) Is

-- the number that a text's digits write; a plus may stand first
abbrev pub number_of : Text → ℕ
number_of text = digits_value 10 (without_leading_plus text)

-- the text is a number below 2^bits
abbrev pub IsNumber : ℕ → Text → Type 0
IsNumber bits text = IsNumeral 10 (without_leading_plus text) × (number_of text < 2 ^ bits)

-- an option has this number, which is below 2^bits
abbrev pub IsGiven : ℕ → Option Text → ℕ → Type 0
IsGiven bits None n = ⊥
IsGiven bits (Some text) n = IsNumber bits text × (n ≡ number_of text)

-- an option's number, or this one where the option has none
abbrev pub IsNumberOr : ℕ → ℕ → Option Text → ℕ → Type 0
IsNumberOr bits otherwise None n = n ≡ otherwise
IsNumberOr bits otherwise (Some text) n = IsGiven bits (Some text) n ⊎ ((n ≡ otherwise) × (IsNumber bits text → ⊥))

-- a flag is set exactly where the parse gives it the text `true`
abbrev pub IsFlag : Option Text → Bool → Type 0
IsFlag text flag = (flag ≡ true) ↔ (text ≡ Some (codes "true"))

-- the hash that a word names: MD5 without one
abbrev pub IsHash : Option Text → HashKind → Type 0
IsHash None hash = hash ≡ hashes.Md5
IsHash (Some text) hashes.Nothing = text ≡ codes "none"
IsHash (Some text) hashes.Md5 = text ≡ codes "md5"
IsHash (Some text) hashes.Sha256 = text ≡ codes "sha256"

-- the registry that the flag `--everyday` and the file of `--registry` choose: both together choose none
abbrev pub IsChosen : Bool → Option Text → RegistrySource → Type 0
IsChosen everyday file sources.Sample = (everyday ≡ false) × (file ≡ None)
IsChosen everyday file sources.Everyday = (everyday ≡ true) × (file ≡ None)
IsChosen everyday file (sources.File path) = (everyday ≡ false) × (file ≡ Some path.now)

-- the registry that the options name
pub record IsSource (rows : List Row) (source : RegistrySource) : Type 0 where
  pub everyday : Bool
  pub is_flag : IsFlag (one_of (codes "everyday") rows) everyday
  pub is_chosen : IsChosen everyday (first_of (codes "registry") rows) source
