-- How the bytes of a path are spelled in a line.
use Rattle.std.specs.Prelude.{ℕ, ◌==◌, Bool, true, false, ◌||◌, List, [], ◌∷◌, ◌++◌, drop, take, Option, Some, None}
use Rattle.std.specs.Prelude.{codes, if◌then◌else◌}
use Rattle.std.specs.List.{flat_map, slice_split}
use Rattle.std.specs.Option.{option_map}
use Rattle.std.specs.Str.{bytes_eq}
use Rattle.droid_fixity.specs.declared.checksum_lists.form.Escapes.{Escapes}
use Rattle.droid_fixity.specs.declared.checksum_lists.form.Escapes.TheVariants as escapes

-- what follows where there is a value; `None` stays `None`
infixl 10 ◌>>=◌
abbrev pub ◌>>=◌ : {A B : Type 0} → Option A → (A → Option B) → Option B
None >>= f = None
(Some x) >>= f = f x

-- ---- backslashes (GNU coreutils, md5sum)

-- the byte that a letter behind a backslash stands for
abbrev pub byte_behind_backslash : ℕ → Option ℕ
byte_behind_backslash letter =
    if letter == 92 then Some 92
    else if letter == 110 then Some 10
    else if letter == 114 then Some 13 else None

-- bytes behind another one, if there are such
abbrev pub onto : ℕ → Option (List ℕ) → Option (List ℕ)
onto byte rest = option_map (λ bytes. byte ∷ bytes) rest

-- The bytes that are spelled, if each backslash has a letter that stands for a byte. `opened` says that a backslash
-- stands in front.
abbrev pub unescaped_from : Bool → List ℕ → Option (List ℕ)
unescaped_from true [] = None
unescaped_from true (b ∷ text) = byte_behind_backslash b >>= λ byte. onto byte (unescaped_from false text)
unescaped_from false [] = Some []
unescaped_from false (b ∷ text) = if b == 92 then unescaped_from true text else onto b (unescaped_from false text)

-- the bytes that a text with backslashes spells, if it spells any
abbrev pub unescaped : List ℕ → Option (List ℕ)
unescaped text = unescaped_from false text

-- how one byte is spelled with backslashes
abbrev pub escaped_byte : ℕ → List ℕ
escaped_byte b =
    if b == 92 then codes "\\\\"
    else if b == 10 then codes "\\n"
    else if b == 13 then codes "\\r" else b ∷ []

-- how bytes are spelled with backslashes
abbrev pub escaped : List ℕ → List ℕ
escaped bytes = flat_map escaped_byte bytes

-- whether a byte of a path is one that is escaped
abbrev pub is_escaped : ℕ → Bool
is_escaped b = (b == 92) || (b == 10) || (b == 13)

-- ---- percent signs (RFC 8493, section 2.1.3: a line feed, a carriage return and a percent sign, and nothing else)

-- the byte that two digits behind a percent sign stand for
abbrev pub byte_behind_percent : List ℕ → Option ℕ
byte_behind_percent digits =
    if bytes_eq digits (codes "25") then Some 37
    else if bytes_eq digits (codes "0A") || bytes_eq digits (codes "0a") then Some 10
    else if bytes_eq digits (codes "0D") || bytes_eq digits (codes "0d") then Some 13 else None

-- the bytes of a text that stands behind a percent sign; one that encodes nothing stands for itself
abbrev pub behind_percent_by : List ℕ → Option ℕ → List ℕ
behind_percent_by text None = 37 ∷ text
behind_percent_by text (Some byte) = byte ∷ drop 2 text

-- the bytes of a text that stands behind a percent sign
abbrev pub behind_percent : List ℕ → List ℕ
behind_percent text = behind_percent_by text (byte_behind_percent (take 2 text))

-- the bytes that are spelled by the parts between percent signs
abbrev pub decoded_parts : List (List ℕ) → List ℕ
decoded_parts [] = []
decoded_parts (first ∷ parts) = first ++ flat_map behind_percent parts

-- the bytes that a text with percent signs spells
abbrev pub decoded : List ℕ → List ℕ
decoded text = decoded_parts (slice_split (λ b. b == 37) text)

-- ---- any spelling

-- the bytes that a text spells
abbrev pub spelled : Escapes → List ℕ → Option (List ℕ)
spelled escapes.Nothing text = Some text
spelled escapes.Backslash text = unescaped text
spelled escapes.Percent text = Some (decoded text)
