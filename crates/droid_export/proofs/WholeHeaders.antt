-- The header of an export has all columns.
use Rattle.std.proofs.Common.{◌≡◌, Some, refl}
use Rattle.csv.specs.Records.{field_at}
use Rattle.droid_frame.specs.declared.hash_kind.HashKind.{HashKind}
use Rattle.droid_frame.specs.declared.hash_kind.HashKind.TheVariants as kinds
use Rattle.droid_export.specs.Headers.{header_of, whole}
use Rattle.droid_export.specs.Rows.{fields, header}

pub header_is : (hash : HashKind) → header_of (fields (header hash)) ≡ Some (whole hash)
unfolding field_at
header_is kinds.Nothing = refl
header_is kinds.Md5 = refl
header_is kinds.Sha256 = refl
