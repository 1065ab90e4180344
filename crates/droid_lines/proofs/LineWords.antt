-- What `split_once` at a character gives, and lines that are text.
use Rattle.std.proofs.Common.{◌≡◌, ℕ, ◌<◌, List, length, Option, Some, None, refl, MatchOption, Bor, arith, Bool, cond, true, false}
use Rattle.std.proofs.lemmas.Bool.{lt-ltb, le-ltb}
use Rattle.std.specs.List.{position_or_len, before_first, after_first}
use Rattle.std.specs.Option.{option_map}
use Rattle.droid_lines.specs.Lines.{line_value, request_value, text_line, text_request}
use Rattle.droid_lines.specs.Words.{is_byte, cut_at}
use Rattle.droid_frame.specs.Reading.{◌>>=◌, text_at}
use Rattle.std.specs.Str.{IsUtf8, is_utf8}
use Rattle.std.proofs.lemmas.Str.{IsUtf8-from_is_utf8, is_utf8-from_IsUtf8}

pub cut_split : (c : ℕ) (bs : List ℕ) (r : Option (Bor (List ℕ) × Bor (List ℕ)))
    → MatchOption r (position_or_len (is_byte c) bs ≡ length bs) (λ x. (position_or_len (is_byte c) bs < length bs) × (x.0.now ≡ before_first (is_byte c) bs) × (x.1.now ≡ after_first (is_byte c) bs))
    → option_map (λ x. (x.0.now, x.1.now)) r ≡ cut_at c bs
unfolding cut_at
cut_split c bs None e = rw (le-ltb (position_or_len (is_byte c) bs) (length bs) (omega (arith, e))) refl
cut_split c bs (Some x) found = rw (lt-ltb (position_or_len (is_byte c) bs) (length bs) found.0, found.1, found.2) refl

-- a line that is text is read as text, and any other is bad
pub line_of_text : (bytes : List ℕ) → IsUtf8 bytes → line_value bytes ≡ text_line bytes
unfolding line_value text_at
line_of_text bytes utf8 = rw (is_utf8-from_IsUtf8 bytes utf8) refl

not_utf8 : {A : Type 0} (read : List ℕ → Option A) (b : Bool) (bytes : List ℕ) → (b ≡ true → IsUtf8 bytes) → (IsUtf8 bytes → ⊥) → (cond b (Some bytes) None >>= read) ≡ None
not_utf8 read true bytes is not = absurd (not (is refl))
not_utf8 read false bytes is not = refl

pub line_of_other : (bytes : List ℕ) → (IsUtf8 bytes → ⊥) → line_value bytes ≡ None
unfolding line_value text_at
line_of_other bytes not = not_utf8 text_line (is_utf8 bytes) bytes (IsUtf8-from_is_utf8 bytes) not

-- the same of a line without client and number
pub request_of_text : (bytes : List ℕ) → IsUtf8 bytes → request_value bytes ≡ text_request bytes
unfolding request_value text_at
request_of_text bytes utf8 = rw (is_utf8-from_IsUtf8 bytes utf8) refl

pub request_of_other : (bytes : List ℕ) → (IsUtf8 bytes → ⊥) → request_value bytes ≡ None
unfolding request_value text_at
request_of_other bytes not = not_utf8 text_request (is_utf8 bytes) bytes (IsUtf8-from_is_utf8 bytes) not
