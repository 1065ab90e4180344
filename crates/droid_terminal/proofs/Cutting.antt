-- Where texts are cut.
use Rattle.std.proofs.Common.{◌≡◌, ℕ, ◌+◌, ◌-◌, ◌*◌, ◌<◌, ◌≤◌, List, [], length, take, drop, IsUtf8, sym, ap, ◌∙◌, arith}
use Rattle.std.specs.Str.{chars, IsCharBoundary}
use Rattle.std.proofs.lemmas.List.{length-drop, length-take-le}
use Rattle.std.proofs.lemmas.Str.{IsCharBoundary-start, IsCharBoundary-end, IsCharBoundary-from_drop, IsCharBoundary-from_take}
use Rattle.unicode_width.specs.Width.{str_width}
use Rattle.droid_terminal.specs.Cuts.{columns_of, IsFront, IsEnd}

-- an empty text takes no columns
pub nothing_fits : (columns : ℕ) → columns_of [] ≤ columns
unfolding str_width chars
nothing_fits columns = omega arith

-- a text can be cut only where a character ends
pub no_front : (text : List ℕ) (count columns : ℕ) → IsUtf8 text → count ≤ length text
    → (0 ≤ count → IsCharBoundary text 0 → ¬ (IsCharBoundary text count)) → IsUtf8 (take count text) → columns < columns_of (take count text)
no_front text count columns utf8 within none its =
    absurd (none (omega arith) (IsCharBoundary-start text utf8) (IsCharBoundary-from_take text count utf8 within its))

pub no_end : (text : List ℕ) (from columns : ℕ) → from ≤ length text
    → (from ≤ length text → IsCharBoundary text from → ¬ (IsCharBoundary text (length text))) → IsUtf8 (drop from text) → columns < columns_of (drop from text)
no_end text from columns within none its =
    absurd (none within (IsCharBoundary-from_drop text from within its) (IsCharBoundary-end text))

-- a beginning that fits, where no longer one fits
pub front_is : (text front : List ℕ) (columns most count : ℕ) → most ≤ length text → ((n : ℕ) → n ≤ length text → n ≤ columns * 4 → n ≤ most) → count ≤ most
    → front ≡ take count text → columns_of front ≤ columns
    → ((n : ℕ) → count < n → n ≤ most → IsUtf8 (take n text) → columns < columns_of (take n text))
    → IsFront text columns front
front_is text front columns most count within all least its fits none =
    let counted : length front ≡ count = ap length its ∙ length-take-le count text (omega arith) in
    record {
      its = its ∙ ap (λ n. take n text) (sym counted);
      fits = fits;
      longest = λ n more small short utf8. none n (omega arith) (all n small short) utf8;
    }

-- an end that fits, where no longer one fits
pub end_is : (text end : List ℕ) (columns low from : ℕ) → from ≤ length text → ((n : ℕ) → length text ≤ n + columns * 4 → low ≤ n)
    → end ≡ drop from text → columns_of end ≤ columns
    → ((n : ℕ) → low ≤ n → n < from → IsUtf8 (drop n text) → columns < columns_of (drop n text))
    → IsEnd text columns end
end_is text end columns low from within all its fits none =
    let counted : length end ≡ length text - from = ap length its ∙ length-drop from text in
    let place : length text - length end ≡ from = omega arith in
    record {
      its = its ∙ ap (λ n. drop n text) (sym place);
      fits = fits;
      longest = λ n less short utf8. none n (all n short) (omega arith) utf8;
    }
