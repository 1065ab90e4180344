-- Names that are UTF-8, or not.
use Rattle.std.proofs.Common.{◌≡◌, ℕ, true, false, List, IsUtf8, sym}
use Rattle.std.specs.Str.{is_utf8}
use Rattle.std.proofs.lemmas.Bool.{false_from_ne_true}
use Rattle.std.proofs.lemmas.Str.{IsUtf8-from_is_utf8, is_utf8-from_IsUtf8}

pub is_text : (name : List ℕ) → IsUtf8 name → true ≡ is_utf8 name
is_text name utf8 = sym (is_utf8-from_IsUtf8 name utf8)

pub is_no_text : (name : List ℕ) → ¬ (IsUtf8 name) → false ≡ is_utf8 name
is_no_text name other = sym (false_from_ne_true (is_utf8 name) (λ e. other (IsUtf8-from_is_utf8 name e)))
