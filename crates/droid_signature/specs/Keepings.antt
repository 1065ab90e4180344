-- The formats that are kept, with their rows.
use Rattle.std.specs.Prelude.{◌≡◌, List}
use Rattle.droid_signature.specs.RegistryTables.{format_lines}
use Rattle.droid_signature.specs.Formats.{LeavesFormat, Placed, TakesFormat, formats_of}
use Rattle.droid_signature.specs.PlaceMaps.{AreOf}
use Rattle.droid_signature.specs.Sifting.{Sifted}
use Rattle.droid_signature.specs.Views.{all_of}
use Rattle.droid_signature.specs.declared.formats.Keeping.{Keeping}

-- Of these formats some are kept, and the others are left out.
pub record Keeps (xs : List Placed) (it : Keeping) : Type 0 where
  pub sifted : Sifted TakesFormat LeavesFormat xs (all_of it.kept.items) it.table.left_out.items
  pub text : it.table.text.items ≡ format_lines (formats_of (all_of it.kept.items))
  pub places : AreOf it.places (formats_of (all_of it.kept.items))
