use Rattle.std.proofs.Common.{◌≡◌, ℕ, List, take}
use Rattle.droid_lists.specs.Formats.{formats_at}
use Rattle.droid_lists.specs.ListedFormats.{formats_in}
use Rattle.droid_lists.proofs.format_lists.listed_formats.gathered.Given as goal

abbrev pub invariant-loop-row : goal.invariant-loop-row
invariant-loop-row l = (path : List ℕ) → formats_in l.listed path ≡ formats_at (take l.row-index l.rows) path
