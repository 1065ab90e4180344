-- Lines of a script with and without a client and a number in front (this project's own rule).
use Rattle.std.specs.Prelude.{◌≡◌, ℕ, ◌^◌, ◌==◌, if◌then◌else◌, List, [], ◌∷◌, ◌++◌, codes, Some, is_none}
use Rattle.std.specs.Option.{option_map}
use Rattle.droid_lines.specs.Lines.{line_value, request_value, version_at}
use Rattle.droid_lines.specs.Words.{number_below}
use Rattle.droid_lines.specs.declared.parser.Line.{Line}
use Rattle.droid_lines.specs.declared.parser.VersionedRequest.{VersionedRequest}

-- two words, each followed by a space, and then the text
abbrev pub with_words : List ℕ → List ℕ → List ℕ → List ℕ
with_words client number text = client ++ (32 ∷ (number ++ (32 ∷ text)))

-- what a line of this version begins with
abbrev pub version_words : ℕ → List ℕ
version_words version = if version == 2 then codes "v2 " else []

-- the line with two words in front, or after its `v2 ` if it has that
abbrev pub with_front : List ℕ → List ℕ → List ℕ → List ℕ
with_front client number line = version_words (version_at line).0 ++ with_words client number (version_at line).1

-- the request, from this client and under this number
abbrev pub line_of : ℕ → ℕ → VersionedRequest → Line
line_of client number asked =
    record { version = asked.version; client = client; number = number; request = asked.request }

-- With a client and a number in front, a line has the same request in the same version. It is bad exactly if the line
-- without them is.
pub record SameInFront (client_word number_word line : List ℕ) (client number : ℕ) : Type 0 where
  pub asks : line_value (with_front client_word number_word line)
      ≡ option_map (line_of client number) (request_value line)
  pub bad : is_none (line_value (with_front client_word number_word line)) ≡ is_none (request_value line)

-- this holds for every line, every client and every number
abbrev pub AskTheSame : Type 0
AskTheSame =
    (client_word number_word line : List ℕ) (client number : ℕ) → number_below (2 ^ 32) client_word ≡ Some client
    → number_below (2 ^ 64) number_word ≡ Some number
    → SameInFront client_word number_word line client number
