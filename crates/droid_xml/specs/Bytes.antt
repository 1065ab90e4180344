-- What stands at the front of bytes, and what stands after it. The grammar of XML is written in these words.
use Rattle.std.specs.Prelude.{ℕ, ◌==◌, ◌||◌, Bool, if◌then◌else◌, nat_eq, nat_lt, List, [], ◌∷◌, length, drop, Option}
use Rattle.std.specs.Prelude.{Some, None}
use Rattle.std.specs.List.{starts_with, prefix_len, position_or_len, before_first, after_first}

-- the next step, if the one before it found something
infixl 10 ◌>>=◌
abbrev pub ◌>>=◌ : {A B : Type 0} → Option A → (A → Option B) → Option B
None >>= next = None
(Some x) >>= next = next x

-- the value, if the test holds
abbrev pub only_if : {A : Type 0} → Bool → A → Option A
only_if test value = if test then Some value else None

-- one way to go on where something was found, another where it was not
abbrev pub choose : {A B : Type 0} → Option A → (A → B) → B → B
choose None found other = other
choose (Some x) found other = found x

-- what follows this text, where the bytes begin with it
unfoldable pub after : List ℕ → List ℕ → Option (List ℕ)
after text bytes = only_if (starts_with nat_eq bytes text) (drop (length text) bytes)

-- one byte more before a cut
abbrev pub behind : ℕ → Option (List ℕ × List ℕ) → Option (List ℕ × List ℕ)
behind b None = None
behind b (Some cut) = Some (b ∷ cut.0, cut.1)

-- the bytes before the first place where this text stands, and those that follow the text
unfoldable pub cut_at : List ℕ → List ℕ → Option (List ℕ × List ℕ)
cut_at text [] = None
cut_at text (b ∷ bytes) = choose (after text (b ∷ bytes)) (λ rest. Some ([], rest)) (behind b (cut_at text bytes))

-- whether a byte is the wanted one
abbrev pub is_byte : ℕ → ℕ → Bool
is_byte wanted byte = byte == wanted

-- the same for a text of one byte
unfoldable pub cut_at_byte : ℕ → List ℕ → Option (List ℕ × List ℕ)
cut_at_byte byte bytes =
    only_if (nat_lt (position_or_len (is_byte byte) bytes) (length bytes))
    (before_first (is_byte byte) bytes, after_first (is_byte byte) bytes)

-- [3] S: space, tab, carriage return, line feed
abbrev pub is_space : ℕ → Bool
is_space byte = byte == 32 || byte == 9 || byte == 13 || byte == 10

-- what follows the white space, of which there may be none
unfoldable pub past_spaces : List ℕ → List ℕ
past_spaces bytes = drop (prefix_len is_space bytes) bytes

-- what follows white space that has to be there
unfoldable pub past_some_space : List ℕ → Option (List ℕ)
past_some_space bytes = only_if (nat_lt 0 (prefix_len is_space bytes)) (past_spaces bytes)
