-- For clauses: the code's values.
use Rattle.std.specs.Prelude.{List, map}
use Rattle.droid_signature.specs.Formats.{Placed}
use Rattle.droid_signature.specs.declared.formats.Kept.{Kept}

-- a format that the registry has
abbrev pub kept_of : Kept → Placed
kept_of it = record { place = it.place; format = it.format.now }

-- the formats that the registry has
abbrev pub all_of : List Kept → List Placed
all_of kept = map kept_of kept
