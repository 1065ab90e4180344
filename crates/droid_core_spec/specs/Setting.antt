-- What a service is made with: its limits, and the functions of its registry.
use Rattle.std.specs.Prelude.{ℕ, Bool, List}
use Rattle.droid_frame.specs.declared.hash_kind.HashKind.{HashKind}
use Rattle.droid_frame.specs.declared.method.Method.{Method}
use Rattle.droid_frame.specs.declared.filter.Filter.{Filter}
use Rattle.droid_frame.specs.declared.record.Record.{Record}
use Rattle.droid_core_spec.specs.Limits.{Limits}

-- what a file is identified as: the method, whether its extension is none of its formats', and their PUIDs
pub record Identification : Type 0 where
  pub method : Method
  pub mismatch : Bool
  pub puids : List (List ℕ)

-- Identifies a file by its name, its bytes, the number of bytes that are scanned from each end, and whether a format
-- with signatures may be found by its extension. droid_core's Identified.antt says which function this is.
abbrev pub Identify : Type 0
Identify = (name bytes : List ℕ) (scan_limit : ℕ) (match_all : Bool) → Identification

-- The text of an export of records by a filter, for files with this kind of hash. droid_core's Identified.antt
-- says which function this is.
abbrev pub ExportText : Type 0
ExportText = (records : List Record) (filter : Filter) (hash : HashKind) → List ℕ

-- the limits, how a file is identified, and how an export is spelled
pub record Setting : Type 0 where
  pub limits : Limits
  pub identify : Identify
  pub export_text : ExportText
