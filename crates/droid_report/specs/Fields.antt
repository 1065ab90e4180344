-- What the fields of a profile's rows say (docs/CSV.md). TYPE, SIZE, FORMAT_COUNT and LAST_MODIFIED are those of rows
-- that `read_profile` takes.
use Rattle.std.specs.Prelude.{ℕ, ◌==◌, ◌&&◌, ◌^◌, ◌+◌, ◌-◌, ◌*◌, min, nat_lt, Bool, true, false, List, [], ◌∷◌, length}
use Rattle.std.specs.Prelude.{take, count_by, Option, Some, None, codes, if◌then◌else◌}
use Rattle.std.specs.Char.{is_ascii_digit}
use Rattle.std.specs.List.{fold}
use Rattle.std.specs.Option.{unwrap_or}
use Rattle.std.specs.Str.{bytes_eq}
use Rattle.droid_export.specs.Fields.{kind_of, number_of}
use Rattle.droid_frame.specs.declared.method.Method.{Method}
use Rattle.droid_frame.specs.declared.method.Method.TheVariants.{Unidentified, Signature, Extension}
use Rattle.droid_frame.specs.declared.node_kind.NodeKind.{NodeKind}
use Rattle.droid_frame.specs.declared.node_kind.NodeKind.TheVariants.{Folder}

-- METHOD
abbrev pub method_of : List ℕ → Option Method
method_of text =
    if bytes_eq text [] then Some Unidentified
    else if bytes_eq text (codes "Signature") then Some Signature
    else if bytes_eq text (codes "Extension") then Some Extension else None

-- EXTENSION_MISMATCH
abbrev pub truth_of : List ℕ → Option Bool
truth_of text =
    if bytes_eq text (codes "true") then Some true
    else if bytes_eq text (codes "false") then Some false else None

-- TYPE
abbrev pub kind_in : List ℕ → NodeKind
kind_in text = unwrap_or (kind_of text) Folder

-- SIZE and FORMAT_COUNT: a folder has neither, which counts as 0
abbrev pub number_in : List ℕ → ℕ
number_in text = unwrap_or (number_of text) 0

-- the year of LAST_MODIFIED, which may be empty
abbrev pub year_of : List ℕ → Option ℕ
year_of text = if nat_lt (length text) 4 then None else number_of (take 4 text)

-- a number with a digit behind it, as far as 64 bits hold it; another byte changes nothing
abbrev pub with_digit : ℕ → ℕ → ℕ
with_digit number b = if is_ascii_digit b then min (min (number * 10) (2 ^ 64 - 1) + (b - 48)) (2 ^ 64 - 1) else number

-- the digits of a text as one number; of moments the later one has the greater number
abbrev pub digits_of : List ℕ → ℕ
digits_of text = fold with_digit 0 text

-- how deep a path is: the number of its slashes
abbrev pub depth_of : List ℕ → ℕ
depth_of path = count_by (λ b. b == 47) path
