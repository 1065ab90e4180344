-- A new table that no rule of names and sizes refuses.
use Rattle.std.specs.Prelude.{◌≡◌, ◌+◌, ◌*◌, ◌^◌, ◌<◌, ℕ, true, false, List, length, codes, IsUtf8}
use Rattle.std.specs.List.{AllByRecursion}
use Rattle.sqlite_catalog.specs.Listing.{is_fit, is_formed}
use Rattle.sqlite_schema.specs.declared.schema.Index.{Index}
use Rattle.sqlite_schema.specs.Rules.{table_reals, index_reals}
use Rattle.sqlite.specs.Change.{automatics, is_reserved, is_used, next_tree}
use Rattle.sqlite.specs.declared.types.Value.TheVariants.{Text}
use Rattle.sqlite.specs.Schema.{Schema}
use Rattle.sqlite.specs.Table.{Table}

-- no rule refuses the table in a database of this schema
pub record IsNewTable (schema : Schema) (text : List ℕ) (made : Table) : Type 0 where
  pub utf8 : IsUtf8 text
  pub name_utf8 : IsUtf8 made.name
  pub unused : is_used schema made.name ≡ false
  pub indexes_unused : AllByRecursion (λ (i : Index). is_used schema i.name ≡ false) (automatics made 0 0 made.uniques)
  pub unreserved : is_reserved made.name ≡ false
  pub few : next_tree schema + length made.uniques < 65536
  pub no_reals : table_reals made < 2 ^ 64
  pub no_key_reals : AllByRecursion (λ key. index_reals (table_reals made) key < 2 ^ 64) made.uniques
  pub formed : is_formed made ≡ true
  pub fit : is_fit (Text (codes "table")) (Text made.name) (Text made.name) (Text text) ≡ true
  pub short : 2 * length made.name + length text + 200 < 10 ^ 9
