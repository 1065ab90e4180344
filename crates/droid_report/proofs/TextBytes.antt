-- Bytes that are text, and bytes that are not.
use Rattle.std.proofs.Common.{◌≡◌, ℕ, false, true, List, IsUtf8}
use Rattle.std.specs.Str.{is_utf8}
use Rattle.std.proofs.lemmas.Bool.{false_from_ne_true}
use Rattle.std.proofs.lemmas.Str.{IsUtf8-from_is_utf8, is_utf8-from_IsUtf8}

pub no_text : (bytes : List ℕ) → ¬ (IsUtf8 bytes) → is_utf8 bytes ≡ false
no_text bytes other = false_from_ne_true (is_utf8 bytes) (λ e. other (IsUtf8-from_is_utf8 bytes e))

pub a_text : (bytes : List ℕ) → IsUtf8 bytes → is_utf8 bytes ≡ true
a_text bytes utf8 = is_utf8-from_IsUtf8 bytes utf8
