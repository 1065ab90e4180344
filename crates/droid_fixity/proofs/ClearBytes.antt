-- The bytes of a line: no line feed and no carriage return.
use Rattle.std.proofs.Common.{◌≡◌, ◌∙◌, ℕ, suc, zero, ◌==◌, ◌-◌, ◌&&◌, ◌||◌, Bool, true, false, not, List, [], ◌∷◌, ◌++◌, length, slice_index, refl, sym, ap}
use Rattle.std.specs.List.{list_all, list_any, onto_first, slice_split}
use Rattle.std.proofs.lemmas.Bool.{and_from, and_parts, and_right, or_from, or_parts}
use Rattle.hex.specs.Hex.{is_hex_digit}
use Rattle.droid_fixity.specs.Lines.{ends_in_return, without_return}
use Rattle.droid_fixity.specs.Spellings.{is_escaped}
use Rattle.droid_fixity.proofs.Tests.{other_sign}

abbrev pub is_clear : ℕ → Bool
is_clear b = not (b == 10) && not (b == 13)

clear_parts : (feed return : Bool) → (not feed && not return) ≡ true → (feed ≡ false) × (return ≡ false)
clear_parts false false h = (refl, refl)
clear_parts false true h = absurd cc
clear_parts true return h = absurd cc

-- digits
pub digits_clear : (digits : List ℕ) → list_all is_hex_digit digits ≡ true → list_all is_clear digits ≡ true
digits_clear [] h = refl
digits_clear (b ∷ digits) h =
    let both = and_parts (is_hex_digit b) (list_all is_hex_digit digits) h in
    and_from (is_clear b) (list_all is_clear digits)
    (and_from (not (b == 10)) (not (b == 13)) (ap not (other_sign is_hex_digit b 10 both.0 refl)) (ap not (other_sign is_hex_digit b 13 both.0 refl)))
    (digits_clear digits both.1)

-- a path without bytes that are escaped
pub plain_clear : (path : List ℕ) → list_any is_escaped path ≡ false → list_all is_clear path ≡ true
plain_clear [] h = refl
plain_clear (b ∷ path) h =
    let both = or_parts (is_escaped b) (list_any is_escaped path) h in
    let return = or_parts ((b == 92) || (b == 10)) (b == 13) both.0 in
    let feed = or_parts (b == 92) (b == 10) return.0 in
    and_from (is_clear b) (list_all is_clear path) (and_from (not (b == 10)) (not (b == 13)) (ap not feed.1) (ap not return.1)) (plain_clear path both.1)

-- the first line of a text
pub first_line : (line text : List ℕ) → list_all is_clear line ≡ true → slice_split (λ b. b == 10) (line ++ 10 ∷ text) ≡ line ∷ slice_split (λ b. b == 10) text
first_line [] text h = refl
first_line (b ∷ line) text h =
    let both = and_parts (is_clear b) (list_all is_clear line) h in
    let here = clear_parts (b == 10) (b == 13) both.0 in
    rw here.0 (ap (onto_first b) (first_line line text both.1))

-- a line does not end in a carriage return
place_clear : (line : List ℕ) (place : ℕ) → list_all is_clear line ≡ true → (slice_index line place == 13) ≡ false
place_clear [] place h = refl
place_clear (b ∷ line) zero h =
    let both = and_parts (is_clear b) (list_all is_clear line) h in
    (clear_parts (b == 10) (b == 13) both.0).1
place_clear (b ∷ line) (suc place) h =
    let both = and_parts (is_clear b) (list_all is_clear line) h in
    place_clear line place both.1

pub no_return : (line : List ℕ) → list_all is_clear line ≡ true → without_return line ≡ line
no_return line h =
    let ends : ends_in_return line ≡ false = and_right (not (length line == 0)) (slice_index line (length line - 1) == 13) (place_clear line (length line - 1) h) in
    rw ends refl
