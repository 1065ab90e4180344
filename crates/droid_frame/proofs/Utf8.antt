-- A text is read exactly where the bytes are UTF-8.
use Rattle.std.proofs.Common.{◌≡◌, ℕ, Bool, true, false, cond, List, Some, None, refl}
use Rattle.std.specs.Str.{IsUtf8, is_utf8}
use Rattle.std.proofs.lemmas.Str.{IsUtf8-from_is_utf8, is_utf8-from_IsUtf8}
use Rattle.droid_frame.specs.Reading.{text_at}

pub text_at-utf8 : (bytes : List ℕ) → IsUtf8 bytes → text_at bytes ≡ Some bytes
unfolding text_at
text_at-utf8 bytes h = rw (is_utf8-from_IsUtf8 bytes h) refl

none_where_false : (b : Bool) (bytes : List ℕ) → (b ≡ true → IsUtf8 bytes) → (IsUtf8 bytes → ⊥) → cond b (Some bytes) None ≡ None
none_where_false true bytes is not = absurd (not (is refl))
none_where_false false bytes is not = refl

pub text_at-other : (bytes : List ℕ) → (IsUtf8 bytes → ⊥) → text_at bytes ≡ None
unfolding text_at
text_at-other bytes not = none_where_false (is_utf8 bytes) bytes (IsUtf8-from_is_utf8 bytes) not
