-- For inner clauses and proofs: the formats of rows, gathered by path.
use Rattle.std.specs.Prelude.{ℕ, List, []}
use Rattle.std.specs.BTreeMap.{BTreeMap, get_by}
use Rattle.std.specs.Borrow.{Bor}
use Rattle.std.specs.Cmp.Lexicographic.{slice_cmp}
use Rattle.std.specs.List.{flat_map}
use Rattle.std.specs.Option.{option_map_or}
use Rattle.std.specs.Ordering.{nat_cmp}
use Rattle.std.specs.declared.alloc.Global.{Global}
use Rattle.std.specs.declared.vec.Vec.{Vec}
use Rattle.droid_lists.specs.Formats.{change_if}
use Rattle.droid_lists.specs.declared.format_lists.file_formats.FileFormats.{FileFormats}
use Rattle.droid_lists.specs.declared.format_lists.format_change.FormatChange.{FormatChange}

-- the formats of a path
abbrev pub formats_in : BTreeMap (Bor (List ℕ)) (Vec (List ℕ) Global) → List ℕ → List (List ℕ)
formats_in listed path =
    option_map_or (λ formats. formats.items) (get_by (λ key. slice_cmp nat_cmp path key.now) listed) []

-- the files whose formats differ from these
abbrev pub change_by : BTreeMap (Bor (List ℕ)) (Vec (List ℕ) Global) → FileFormats → List FormatChange
change_by listed file = change_if file.path (formats_in listed file.path) file.puids

-- the changes of all files, in order
abbrev pub changes_by : BTreeMap (Bor (List ℕ)) (Vec (List ℕ) Global) → List FileFormats → List FormatChange
changes_by listed files = flat_map (change_by listed) files
