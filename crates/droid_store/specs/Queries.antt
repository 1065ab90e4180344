-- SELECTs of one table: which columns they return, of the rows that meet every test, and in which order.
use Rattle.std.specs.Prelude.{ℕ, pos, negsuc, false, None, List, [], ◌∷◌}
use Rattle.sqlite.specs.declared.types.Value.TheVariants.{Int}
use Rattle.sqlite.specs.Query.{Query, inner, end}
use Rattle.sqlite.specs.Term.{Term, lit, op2}
use Rattle.sqlite.specs.Collation.TheVariants.{Binary}
use Rattle.sqlite_sql.specs.declared.ops.BinaryOp.TheVariants.{Compare}
use Rattle.sqlite_sql.specs.declared.ops.CompareOp.TheVariants.{Eq, Ne}
use Rattle.sqlite_value.specs.declared.keys.Key.{Key}

-- SELECT columns FROM the table with that tree WHERE tests ORDER BY order
abbrev pub select : ℕ → List Term → List Term → List (Term × Key) → Query
select tree tests columns order = record {
  from = inner tree end;
  filter = tests;
  group = None;
  project = columns;
  distinct = false;
  collations = [];
  order = order;
  limit = lit (Int (negsuc 0));
  offset = lit (Int (pos 0));
}

-- a = b, byte for byte where they are texts
abbrev pub equals : Term → Term → Term
equals a b = op2 (Compare Eq Binary) a b

-- a <> b, byte for byte where they are texts
abbrev pub differs : Term → Term → Term
differs a b = op2 (Compare Ne Binary) a b

-- ORDER BY one column, rising
abbrev pub rising_by : Term → List (Term × Key)
rising_by column = (column, record { descending = false; collation = Binary }) ∷ []
