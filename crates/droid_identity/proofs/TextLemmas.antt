-- Bytes that are UTF-8, or not.
use Rattle.std.proofs.Common.{◌≡◌, ℕ, Bool, false, List, IsUtf8, chars, refl}
use Rattle.std.specs.List.{list_all}
use Rattle.std.specs.Str.{is_utf8}
use Rattle.std.proofs.lemmas.Bool.{false_from_ne_true}
use Rattle.std.proofs.lemmas.Str.{IsUtf8-from_is_utf8, is_utf8-from_IsUtf8}
use Rattle.droid_identity.specs.TextKinds.{is_text_char, is_utf8_text}

pub text_is : (bytes text : List ℕ) (all : Bool) → text ≡ bytes → IsUtf8 bytes → all ≡ list_all is_text_char (chars text) → all ≡ is_utf8_text bytes
unfolding is_utf8_text
text_is bytes text all same utf8 e = rw (is_utf8-from_IsUtf8 bytes utf8) (rw same at e)

pub no_text : (bytes : List ℕ) → ¬ (IsUtf8 bytes) → false ≡ is_utf8_text bytes
unfolding is_utf8_text
no_text bytes other = rw (false_from_ne_true (is_utf8 bytes) (λ e. other (IsUtf8-from_is_utf8 bytes e))) refl
