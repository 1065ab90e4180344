-- For inner clauses and proofs: the columns of a record that all its rows share.
use Rattle.std.specs.Prelude.{◌≡◌, length}
use Rattle.std.specs.Fmt.{decimal}
use Rattle.hex.specs.Hex.{encode_lower}
use Rattle.droid_frame.specs.Hashes.{hash_bytes}
use Rattle.droid_frame.specs.declared.record.Record.{Record}
use Rattle.droid_export.specs.Moments.{moment_text}
use Rattle.std.specs.Option.{option_copied}
use Rattle.droid_export.specs.Rows.{Row, of_file, parent_text, row, shown_by}
use Rattle.droid_export.specs.Uris.{uri}
use Rattle.droid_export.specs.declared.rows.RowParts.{RowParts}
use Rattle.droid_export.specs.declared.shared_columns.Common.{Common}

-- the columns that all rows of a record share and that are computed from it
pub record IsCommon (node : Record) (common : Common) : Type 0 where
  pub id : common.id.now ≡ decimal node.id
  pub parent_id : common.parent_id.now ≡ parent_text node.parent
  pub uri : common.uri.now ≡ uri node.path node.kind
  pub size : common.size.now ≡ of_file node (decimal node.size)
  pub last_modified : common.last_modified ≡ moment_text node.modified
  pub hash : common.hash.now ≡ of_file node (encode_lower (hash_bytes node.hash))
  pub format_count : common.format_count.now ≡ of_file node (decimal (length node.puids))

-- the row that is shown
abbrev pub row_of : RowParts → Row
row_of parts = row parts.node.now (shown_by parts.puid.now (option_copied parts.format))
