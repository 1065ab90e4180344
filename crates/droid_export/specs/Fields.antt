-- What TYPE and the numbers of a profile's rows say (docs/CSV.md).
use Rattle.std.specs.Prelude.{ℕ, ◌&&◌, ◌^◌, nat_lt, List, length, Option, Some, None, codes, if◌then◌else◌}
use Rattle.std.specs.Char.{is_ascii_digit}
use Rattle.std.specs.List.{list_all}
use Rattle.std.specs.Str.{bytes_eq}
use Rattle.std.specs.Str.Parse.{digits_value}
use Rattle.droid_frame.specs.declared.node_kind.NodeKind.{NodeKind}
use Rattle.droid_frame.specs.declared.node_kind.NodeKind.TheVariants.{File, Folder}

-- TYPE
abbrev pub kind_of : List ℕ → Option NodeKind
kind_of text =
    if bytes_eq text (codes "File") then Some File
    else if bytes_eq text (codes "Folder") then Some Folder else None

-- the number that decimal digits stand for, below 2 ^ 64
abbrev pub number_of : List ℕ → Option ℕ
number_of text =
    if list_all is_ascii_digit text && nat_lt 0 (length text) && nat_lt (digits_value 10 text) (2 ^ 64)
    then Some (digits_value 10 text) else None
