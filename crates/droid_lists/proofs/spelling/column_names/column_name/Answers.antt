use Rattle.std.proofs.Common.{◌∙◌, sym}
use Rattle.droid_export.specs.Table as table
use Rattle.droid_lists.proofs.NamesRead.{name_at, none_at}
use Rattle.droid_lists.proofs.spelling.column_names.column_name.Goals as goal

pub returns-in-Some : goal.returns-in-Some
returns-in-Some c = c.name.ensures ∙ name_at (table.name_of c.args.hash) table.columns c.args.column c.in-Some.found (sym c.at.ensures ∙ c.in-Some.is)

pub returns-in-None : goal.returns-in-None
returns-in-None c = none_at (table.name_of c.args.hash) table.columns c.args.column (sym c.at.ensures ∙ c.in-None.is)
