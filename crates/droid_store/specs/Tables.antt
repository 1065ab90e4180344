-- The tables of the store.
use Rattle.std.specs.Prelude.{true, false, [], ◌∷◌, Some, None, codes, List, ℕ}
use Rattle.sqlite.specs.Collation.TheVariants.{Binary}
use Rattle.sqlite.specs.declared.types.Value.TheVariants.{Null}
use Rattle.sqlite.specs.Table.{Table}
use Rattle.sqlite.specs.Schema.{Schema}
use Rattle.sqlite.specs.Kind.{Kind}
use Rattle.sqlite.specs.Kind.TheVariants.{Integer, Text, Blob}
use Rattle.sqlite_schema.specs.declared.schema.Column.{Column}
use Rattle.sqlite_value.specs.Keys.{plain}
use Rattle.sqlite.specs.Change.{created}

-- a column that is the number of its row
abbrev pub key_column : List ℕ → Column
key_column name =
    record { name = name; kind = Integer; is_strict = true; not_null = false; default = Null; collation = Binary }

-- a column that is not NULL
abbrev pub column_named : List ℕ → Kind → Column
column_named name kind =
    record { name = name; kind = kind; is_strict = true; not_null = true; default = Null; collation = Binary }

-- the table of profiles
abbrev pub profiles : Table
profiles = record {
  name = codes "profiles";
  tree = 0;
  columns =
      key_column (codes "id")
      ∷ column_named (codes "scan_limit") Integer
      ∷ column_named (codes "match_all") Integer
      ∷ column_named (codes "nodes") Integer
      ∷ column_named (codes "hash") Integer
      ∷ [];
  key = Some 0;
  primary = 0 ∷ [];
  uniques = [];
  orders = [];
  checks = [];
  references = [];
  computed = [];
  stamps = record { places = []; terms = []; formats = [] };
  is_counted = false;
}

-- the table of folders and files
abbrev pub nodes : Table
nodes = record {
  name = codes "nodes";
  tree = 0;
  columns =
      column_named (codes "profile") Integer
      ∷ column_named (codes "id") Integer
      ∷ column_named (codes "parent") Integer
      ∷ column_named (codes "modified") Integer
      ∷ column_named (codes "state") Integer
      ∷ column_named (codes "size") Integer
      ∷ column_named (codes "piece_size") Integer
      ∷ column_named (codes "method") Integer
      ∷ column_named (codes "mismatch") Integer
      ∷ column_named (codes "name") Text
      ∷ column_named (codes "path") Text
      ∷ column_named (codes "formats") Text
      ∷ column_named (codes "hash") Blob
      ∷ [];
  key = None;
  primary = 1 ∷ 2 ∷ [];
  uniques = (1 ∷ 2 ∷ []) ∷ (1 ∷ 3 ∷ 10 ∷ []) ∷ [];
  orders = plain ∷ plain ∷ [];
  checks = [];
  references = [];
  computed = [];
  stamps = record { places = []; terms = []; formats = [] };
  is_counted = false;
}

-- the table of accepted commands and their replies
abbrev pub replies : Table
replies = record {
  name = codes "replies";
  tree = 0;
  columns =
      key_column (codes "seq")
      ∷ column_named (codes "client") Integer
      ∷ column_named (codes "number") Integer
      ∷ column_named (codes "version") Integer
      ∷ column_named (codes "kind") Integer
      ∷ column_named (codes "mark") Blob
      ∷ column_named (codes "body") Blob
      ∷ [];
  key = Some 0;
  primary = 0 ∷ [];
  uniques = (2 ∷ 3 ∷ []) ∷ [];
  orders = plain ∷ [];
  checks = [];
  references = [];
  computed = [];
  stamps = record { places = []; terms = []; formats = [] };
  is_counted = false;
}

-- no table
abbrev pub no_schema : Schema
no_schema = record { tables = []; indexes = []; views = [] }

-- the table of profiles
abbrev pub first_schema : Schema
first_schema = created no_schema profiles

-- that of folders and files too
abbrev pub second_schema : Schema
second_schema = created first_schema nodes

-- tree 0 has the profiles, tree 1 the nodes with indexes 2 and 3, tree 4 the replies with index 5
abbrev pub store_schema : Schema
store_schema = created second_schema replies
