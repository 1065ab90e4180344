-- The line of a file, as `md5sum` and `sha256sum` of GNU coreutils write and check it.
use Rattle.std.specs.Prelude.{◌≡◌, ℕ, ◌==◌, List, [], ◌∷◌, ◌++◌, length, take, codes, if◌then◌else◌}
use Rattle.std.specs.List.{list_any}
use Rattle.std.specs.Str.{bytes_eq}
use Rattle.hex.specs.Hex.{encode_lower}
use Rattle.droid_frame.specs.declared.hash_value.HashValue.{HashValue}
use Rattle.droid_frame.specs.declared.hash_value.HashValue.TheVariants.{Nothing, Md5, Sha256}
use Rattle.droid_fixity.specs.Spellings.{escaped, is_escaped}

-- the path below the folder: without the `/` in front
abbrev pub without_slash : List ℕ → List ℕ
without_slash [] = []
without_slash (b ∷ path) = if b == 47 then path else b ∷ path

-- The path as it is written. `md5sum -c` would read standard input for `-` alone.
abbrev pub shown : List ℕ → List ℕ
shown path = if bytes_eq path (codes "-") then codes "./-" else path

-- digits, two spaces, a path and a line feed
abbrev pub plain_line : List ℕ → List ℕ → List ℕ
plain_line digits path = digits ++ (32 ∷ 32 ∷ (path ++ 10 ∷ []))

-- If the path has a backslash, a line feed or a carriage return, it is escaped, and a backslash stands in front of the
-- line.
abbrev pub line_by : List ℕ → List ℕ → List ℕ
line_by digits path = if list_any is_escaped path then 92 ∷ plain_line digits (escaped path) else plain_line digits path

-- the line of a file below the folder; a file without a hash has none
abbrev pub line_below : HashValue → List ℕ → List ℕ
line_below Nothing path = []
line_below (Md5 digest) path = line_by (encode_lower digest) path
line_below (Sha256 digest) path = line_by (encode_lower digest) path

-- the line of a file by its path in the profile, which has a slash in front
abbrev pub line : HashValue → List ℕ → List ℕ
line hash path = line_below hash (shown (without_slash path))

-- bytes in front are kept
abbrev pub KeepsFront : List ℕ → List ℕ → Type 0
KeepsFront front bytes = take (length front) bytes ≡ front
