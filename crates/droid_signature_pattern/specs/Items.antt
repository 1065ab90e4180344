-- The items of an alternative.
use Rattle.std.specs.Prelude.{List, map}
use Rattle.std.specs.declared.vec.Vec.{Vec}
use Rattle.std.specs.declared.alloc.Global.{Global}
use Rattle.droid_signature_pattern.specs.TermValues.{atom_of}
use Rattle.droid_signature_pattern.specs.declared.term.TextItem.{TextItem}
use Rattle.droid_signature_file.specs.Terms.{Atom}

-- the items of an alternative
abbrev pub items_of : Vec TextItem Global → List Atom
items_of items = map atom_of items.items
