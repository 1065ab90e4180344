-- A row of the same request is of its version.
use Rattle.std.proofs.Common.{◌≡◌, ◌==◌, true}
use Rattle.std.proofs.lemmas.Bool.{and_parts, eqb-true}
use Rattle.std.specs.Str.{bytes_eq}
use Rattle.droid_core.specs.Changes.{is_row_of}
use Rattle.droid_core.specs.declared.stamps.Stamp.{Stamp}
use Rattle.droid_store.specs.declared.rows.Entry as rows

pub same_version : (entry : rows.Entry) (stamp : Stamp) → is_row_of entry stamp ≡ true → entry.version ≡ stamp.version
same_version entry stamp is = eqb-true entry.version stamp.version (and_parts (entry.version == stamp.version) (bytes_eq entry.mark stamp.mark) is).0
