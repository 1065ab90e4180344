-- The URI of a node: `file:` and its path, percent-encoded (RFC 3986, section 2).
use Rattle.std.specs.Prelude.{ℕ, ◌+◌, ◌/◌, ◌%◌, Bool, ◌||◌, ◌&&◌, ◌==◌, nat_lt, nat_le, List, [], ◌∷◌, ◌++◌, codes}
use Rattle.std.specs.Prelude.{if◌then◌else◌}
use Rattle.std.specs.List.{flat_map}
use Rattle.droid_frame.specs.declared.node_kind.NodeKind.{NodeKind}
use Rattle.droid_frame.specs.declared.node_kind.NodeKind.TheVariants.{File, Folder}

-- whether a byte lies between `first` and `last`, both included
abbrev pub is_from_to : ℕ → ℕ → ℕ → Bool
is_from_to first last b = nat_le first b && nat_le b last

-- The bytes that stand for themselves: ASCII letters, digits, `-`, `.`, `_`, `~` (the unreserved characters of RFC
-- 3986, section 2.3) and `/`.
abbrev pub stands_for_itself : ℕ → Bool
stands_for_itself b =
    is_from_to 65 90 b || is_from_to 97 122 b || is_from_to 48 57 b
    || (b == 45) || (b == 46) || (b == 95) || (b == 126) || (b == 47)

-- an upper-case hexadecimal digit
abbrev pub hex_digit : ℕ → ℕ
hex_digit n = if nat_lt n 10 then 48 + n else 55 + n

-- a byte, or `%` and its two digits (RFC 3986, section 2.1)
abbrev pub escaped_byte : ℕ → List ℕ
escaped_byte b = if stands_for_itself b then b ∷ [] else 37 ∷ hex_digit (b / 16) ∷ hex_digit (b % 16) ∷ []

-- the end of a URI: a slash for a folder (this project's own rule)
abbrev pub uri_end : NodeKind → List ℕ
uri_end File = []
uri_end Folder = 47 ∷ []

-- the URI of a node with this path
unfoldable pub uri : List ℕ → NodeKind → List ℕ
uri path kind = codes "file:" ++ flat_map escaped_byte path ++ uri_end kind
