-- Which functions the setting of a service has: how its registry identifies files, and the text of its exports.
use Rattle.std.specs.Prelude.{◌≡◌, ℕ, Bool, List}
use Rattle.droid_frame.specs.declared.filter.Filter.{Filter}
use Rattle.droid_frame.specs.declared.hash_kind.HashKind.{HashKind}
use Rattle.droid_frame.specs.declared.record.Record.{Record}
use Rattle.droid_export.specs.Text.{text}
use Rattle.droid_pronom.specs.declared.identification.Found.{Found}
use Rattle.droid_pronom.specs.Finding as answers
use Rattle.droid_pronom.specs.Found.{IsFound}
use Rattle.droid_pronom.specs.Registry.{Contents}
use Rattle.droid_core_spec.specs.Limits.{Limits}
use Rattle.droid_core_spec.specs.Setting.{Setting, Identification}

-- what a file is identified as, as the registry's crate has it
abbrev pub found_in : Identification → Found
found_in identification =
    record { method = identification.method; mismatch = identification.mismatch; puids = identification.puids }

-- The setting identifies every file as the registry does (which has exactly one answer, by a law of droid_pronom), and
-- its exports are the texts of this registry.
pub record IsOf (registry : Contents) (setting : Setting) : Type 0 where
  pub identifies : (name bytes : List ℕ) (limit : ℕ) (match_all : Bool)
      → IsFound registry name bytes limit match_all (found_in (setting.identify name bytes limit match_all))
  pub exports : (records : List Record) (filter : Filter) (hash : HashKind)
      → setting.export_text records filter hash ≡ text registry filter hash records

-- what a file is identified as, as a world has it
abbrev pub as_identification : Found → Identification
as_identification found = record { method = found.method; mismatch = found.mismatch; puids = found.puids }

-- the setting of these limits and this registry
abbrev pub setting_of : Limits → Contents → Setting
setting_of limits registry = record {
  limits = limits;
  identify = λ name bytes scan_limit match_all.
      as_identification (answers.found_in registry name bytes scan_limit match_all);
  export_text = λ records filter hash. text registry filter hash records;
}
