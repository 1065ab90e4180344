-- The XML declaration (XML 1.0, sections 2.8, 2.9 and 4.3.3). As expat does, it takes any word for the version.
use Rattle.std.specs.Prelude.{ℕ, ◌==◌, ◌||◌, nat_lt, Bool, true, false, if◌then◌else◌, List, [], ◌∷◌, codes, Option}
use Rattle.std.specs.Prelude.{Some, None}
use Rattle.std.specs.List.{list_all, prefix_len}
use Rattle.std.specs.Str.{bytes_eq, str_to_ascii_lowercase}
use Rattle.droid_xml.specs.Bytes.{◌>>=◌, only_if, choose, after, cut_at_byte, is_space, past_spaces, past_some_space}
use Rattle.droid_xml.specs.Characters.{is_in}

-- a character of a declared word: a letter, a digit, `.`, `-` or `_`
abbrev pub is_word_byte : ℕ → Bool
is_word_byte b = is_in 65 90 b || is_in 97 122 b || is_in 48 57 b || b == 46 || b == 45 || b == 95

-- a declared word between its quotes
unfoldable pub word_by : ℕ → List ℕ → Option (List ℕ × List ℕ)
word_by quote bytes = do
  cut ← cut_at_byte quote bytes
  only_if (list_all is_word_byte cut.0) cut

-- a declared word in either kind of quotes
unfoldable pub word_at : List ℕ → Option (List ℕ × List ℕ)
word_at [] = None
word_at (quote ∷ bytes) = if quote == 34 then word_by 34 bytes else if quote == 39 then word_by 39 bytes else None

-- a word that is declared under a name, behind white space: [24] VersionInfo, [80] EncodingDecl, [32] SDDecl
unfoldable pub declared_at : List ℕ → List ℕ → Option (List ℕ × List ℕ)
declared_at name bytes = do
  start ← past_some_space bytes
  behind ← after name start
  rest ← after (codes "=") (past_spaces behind)
  word_at (past_spaces rest)

-- the same, where it may be missing and then is the default
unfoldable pub declared_or : List ℕ → List ℕ → List ℕ → List ℕ × List ℕ
declared_or default name bytes = choose (declared_at name bytes) (λ found. found) (default, bytes)

-- whether a word is one that `standalone` may have
abbrev pub is_yes_or_no : List ℕ → Bool
is_yes_or_no word = bytes_eq word (codes "yes") || bytes_eq word (codes "no")

-- the end of a declaration, with the word for `standalone` before it
unfoldable pub declaration_end : List ℕ × List ℕ → Option (List ℕ)
declaration_end standing = do
  rest ← after (codes "?>") (past_spaces standing.1)
  only_if (is_yes_or_no standing.0) rest

-- what stands behind the version: the encoding, and what follows the declaration
unfoldable pub behind_version : List ℕ × List ℕ → Option (List ℕ × List ℕ)
behind_version encoding = do
  rest ← declaration_end (declared_or (codes "no") (codes "standalone") encoding.1)
  Some (encoding.0, rest)

-- [23] XMLDecl behind `<?xml`: the encoding that it declares, and what follows
unfoldable pub declaration_at : List ℕ → Option (List ℕ × List ℕ)
declaration_at bytes = do
  version ← declared_at (codes "version") bytes
  behind_version (declared_or (codes "UTF-8") (codes "encoding") version.1)

-- what follows `<?xml`, where a declaration begins so
unfoldable pub declaration_start : List ℕ → Option (List ℕ)
declaration_start bytes = do
  rest ← after (codes "<?xml") bytes
  only_if (nat_lt 0 (prefix_len is_space rest)) rest

-- whether each byte is ASCII
abbrev pub are_ascii : List ℕ → Bool
are_ascii bytes = list_all (λ b. nat_lt b 128) bytes

-- whether bytes of this declared encoding can be read as UTF-8
unfoldable pub is_readable : List ℕ → List ℕ → Bool
is_readable encoding bytes =
    if bytes_eq (str_to_ascii_lowercase encoding) (codes "utf-8") then true
    else if bytes_eq (str_to_ascii_lowercase encoding) (codes "us-ascii") then are_ascii bytes
    else false
