-- Paths that are plain, and paths that are not UTF-8.
use Rattle.std.proofs.Common.{◌≡◌, ℕ, Bool, true, false, List, Some, None, IsUtf8, if◌then◌else◌, refl, sym, ap, ◌∙◌}
use Rattle.std.specs.Char.{is_control}
use Rattle.std.specs.List.{list_any}
use Rattle.std.specs.Str.{chars, is_utf8}
use Rattle.std.proofs.lemmas.Bool.{false_from_ne_true}
use Rattle.std.proofs.lemmas.Str.{IsUtf8-from_is_utf8, is_utf8-from_IsUtf8}
use Rattle.droid_terminal.specs.Paths.{is_plain}

pub no_text : (path : List ℕ) → ¬ (IsUtf8 path) → None ≡ (if is_plain path then Some path else None)
no_text path other =
    let no : is_utf8 path ≡ false = false_from_ne_true (is_utf8 path) (λ e. other (IsUtf8-from_is_utf8 path e)) in
    rw no refl

pub plain : (path text : List ℕ) (control : Bool) → text ≡ path → IsUtf8 path → control ≡ list_any is_control (chars text) → control ≡ false
    → Some text ≡ (if is_plain path then Some path else None)
plain path text control same utf8 its none =
    let yes : is_utf8 path ≡ true = is_utf8-from_IsUtf8 path utf8 in
    let without : list_any is_control (chars path) ≡ false = ap (λ (t : List ℕ). list_any is_control (chars t)) (sym same) ∙ (sym its ∙ none) in
    rw (yes, without) (ap Some same)
