-- A registry, with the name by which it is reported (this project's own).
use Rattle.std.specs.Prelude.{◌≡◌, ◌≢◌, ℕ, List, [], ◌∷◌, ◌++◌, Option, Some, None, Result, Ok, Err, codes, option_map}
use Rattle.hex.specs.Hex.{encode_lower}
use Rattle.md5.specs.Md5.{md5}
use Rattle.droid_terminal.specs.Paths.{shown_text}
use Rattle.droid_pronom.specs.RegistryFile.{File}
use Rattle.droid_pronom.specs.declared.registry.fault.RegistryFault.{RegistryFault}
use Rattle.droid_pronom.specs.declared.registry.fault.RegistryFault.TheVariants as faults
use Rattle.droid_cmd_profile.specs.declared.named_registry.NamedRegistry.{NamedRegistry}
use Rattle.droid_cmd_profile.specs.declared.named_registry.RegistryName.{RegistryName}

-- it is the registry of these bytes, from this file
pub record NamesRegistry (path : Option (List ℕ)) (bytes : List ℕ) (name : RegistryName) : Type 0 where
  pub path_is : option_map (λ text. text.now) name.path ≡ path
  pub md5_is : name.md5 ≡ md5 bytes

-- what was read is what these bytes are as a registry file, unless memory ran out
abbrev pub IsReadFrom : List ℕ → Result NamedRegistry RegistryFault → Type 0
IsReadFrom bytes (Ok named) = File bytes (Ok named.registry)
IsReadFrom bytes (Err fault) = fault ≢ faults.Memory → File bytes (Err fault)

-- ---- what is printed

-- the path of its file, or that it is the built-in one
abbrev pub source_text : Option (List ℕ) → List ℕ
source_text (Some path) = shown_text path
source_text None = codes "the built-in registry of everyday formats"

-- where it comes from, and the digits of its MD5
abbrev pub registry_text : RegistryName → List ℕ
registry_text name =
    source_text (option_map (λ text. text.now) name.path) ++ (codes ", MD5 " ++ shown_text (encode_lower name.md5))

-- the line on standard error
abbrev pub registry_line : RegistryName → List ℕ
registry_line name = codes "registry: " ++ (registry_text name ++ 10 ∷ [])
