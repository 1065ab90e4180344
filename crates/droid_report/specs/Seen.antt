-- Tables without where they lie in memory.
use Rattle.std.specs.Prelude.{ℕ, ◌-◌, ◌*◌, ◌/◌, ◌^◌, max, min, List, map, Vec, string_bytes}
use Rattle.std.specs.declared.alloc.Global.{Global}
use Rattle.droid_report.specs.declared.html.tables.Cell.{Cell}
use Rattle.droid_report.specs.declared.html.tables.Cell.TheVariants as cells
use Rattle.droid_report.specs.declared.html.tables.Table.{Table}

-- a cell: a text, a text that leads elsewhere, a number, or a bar in thousandths
pub data Seen : Type 0 where
  Words : List ℕ → Seen
  Link : List ℕ → List ℕ → Seen
  Amount : ℕ → Seen
  Bar : ℕ → Seen

-- a cell, seen so
abbrev pub seen : Cell → Seen
seen (cells.Text text) = Words (string_bytes text)
seen (cells.Link target text) = Link (string_bytes target) (string_bytes text)
seen (cells.Number n) = Amount n
seen (cells.Bar share) = Bar share

-- a row, seen so
abbrev pub row_seen : Vec Cell Global → List Seen
row_seen row = map seen row.items

-- rows, seen so
abbrev pub rows_seen : List (Vec Cell Global) → List (List Seen)
rows_seen rows = map row_seen rows

-- a table: its title, what stands below that, the names of its columns, and its rows
pub record Shown : Type 0 where
  pub title : List ℕ
  pub note : List ℕ
  pub heads : List (List ℕ)
  pub rows : List (List Seen)

-- a table, seen so
abbrev pub table_seen : Table → Shown
table_seen table =
    record {
      title = string_bytes table.title;
      note = string_bytes table.note;
      heads = map string_bytes table.heads.items;
      rows = rows_seen table.rows.items;
    }

-- tables, seen so
abbrev pub tables_seen : List Table → List Shown
tables_seen tables = map table_seen tables

-- a number in thousandths of the greatest
abbrev pub share_of : ℕ → ℕ → ℕ
share_of count most = min (min (count * 1000) (2 ^ 64 - 1) / max most 1) 1000
