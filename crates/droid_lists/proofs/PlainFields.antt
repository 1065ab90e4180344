-- A field without a double quote is read as it stands.
use Rattle.std.proofs.Common.{◌≡◌, ◌∙◌, ◌<◌, ◌≤◌, ◌+◌, ◌-◌, ℕ, suc, zero, ◌==◌, Bool, true, false, not, cond, List, [], ◌∷◌, ◌++◌, append-nil, append_assoc, length, take, drop, get_or, Option, Some, None, refl, sym, ap, subst, arith, eq-eqb}
use Rattle.std.specs.List.{list_all, position, position_from}
use Rattle.std.proofs.lemmas.Iterator.Adapters.{position_from-zero}
use Rattle.std.proofs.lemmas.Bool.{and_from, and_parts, eqb-true, ne_eqb, not-true}
use Rattle.std.proofs.lemmas.List.{drop_all, drop_more, length-drop, take-append-drop, take_all}
use Rattle.std.proofs.lemmas.List.Quantifiers.{position-Some}
use Rattle.droid_lists.specs.RowReading.{Field, field_by, with_front}

abbrev no_quote : ℕ → Bool
no_quote b = not (b == 34)

-- ---- what was read, in front

pub front_none : (field : Option Field) → field ≡ with_front [] field
front_none None = refl
front_none (Some field) = refl

pub front_more : (front more : List ℕ) (field : Option Field) → with_front front (with_front more field) ≡ with_front (front ++ more) field
front_more front more None = refl
front_more front more (Some field) = ap (λ (value : List ℕ). Some (record { value = value; rest = field.rest })) (sym (append_assoc front more field.value))

-- ---- a field without a quote

plain_run : (mark : ℕ) (field text : List ℕ) → list_all no_quote field ≡ true → field_by mark false (field ++ text) ≡ with_front field (field_by mark false text)
plain_run mark [] text plain = front_none (field_by mark false text)
plain_run mark (b ∷ field) text plain =
    let both = and_parts (no_quote b) (list_all no_quote field) plain in
    rw (not-true (b == 34) both.0) (ap (λ (it : Option Field). with_front (b ∷ []) it) (plain_run mark field text both.1) ∙ front_more (b ∷ []) field (field_by mark false text))

none_before : (text : List ℕ) (n : ℕ) → ((k : ℕ) → k < n → (get_or text k 0 == 34) ≡ false) → list_all no_quote (take n text) ≡ true
none_before text zero none = refl
none_before [] (suc n) none = refl
none_before (b ∷ text) (suc n) none =
    and_from (no_quote b) (list_all no_quote (take n text)) (ap not (none 0 (omega arith)))
    (none_before text n (λ k below. none (suc k) (omega (arith, below))))

-- the closing quote and the mark
pub closed : (mark : ℕ) (rest : List ℕ) → (mark == 34) ≡ false → field_by mark false (34 ∷ mark ∷ rest) ≡ Some (record { value = []; rest = rest })
closed mark rest apart = rw (apart, eq-eqb mark mark refl) refl

same_value : (field front rest : List ℕ) → field ≡ front → with_front front (Some (record { value = []; rest = rest })) ≡ Some (record { value = field; rest = rest })
same_value field front rest same = rw (append-nil front, same) refl

-- a field before the first quote, and the mark behind it
pub plain_found : (mark : ℕ) (text field back behind rest : List ℕ) (other found n : ℕ) → position (λ b. b == 34) text ≡ Some n
    → field ≡ take n text → back ≡ drop n text → back ≡ other ∷ behind → behind ≡ found ∷ rest → (found == 34) ≡ false → found ≡ mark
    → field_by mark false text ≡ Some (record { value = field; rest = rest })
plain_found mark text field back behind rest other found n is front from ends next apart mark_is =
    let at = position-Some (λ b. b == 34) text n 0 is in
    let starts : drop n text ≡ get_or text n 0 ∷ drop (n + 1) text = drop_more text n 0 at.0 in
    let more : drop (n + 1) text ≡ mark ∷ rest = ap (λ (t : List ℕ). drop 1 t) (sym starts ∙ (sym from ∙ ends)) ∙ (next ∙ ap (λ (b : ℕ). b ∷ rest) mark_is) in
    let whole : text ≡ take n text ++ 34 ∷ mark ∷ rest = sym (take-append-drop n text) ∙ ap (λ (t : List ℕ). take n text ++ t) (starts ∙ rw (eqb-true (get_or text n 0) 34 at.1, more) refl) in
    let plain : list_all no_quote (take n text) ≡ true = none_before text n at.2 in
    let run : field_by mark false (take n text ++ 34 ∷ mark ∷ rest) ≡ with_front (take n text) (field_by mark false (34 ∷ mark ∷ rest)) = plain_run mark (take n text) (34 ∷ mark ∷ rest) plain in
    let end : field_by mark false (34 ∷ mark ∷ rest) ≡ Some (record { value = []; rest = rest }) = closed mark rest (subst (λ (m : ℕ). (m == 34) ≡ false) mark_is apart) in
    ap (λ (t : List ℕ). field_by mark false t) whole ∙ (run ∙ (ap (λ (it : Option Field). with_front (take n text) it) end ∙ same_value field (take n text) rest front))

-- ---- a text without a quote

never_closed : (mark : ℕ) (text : List ℕ) → list_all no_quote text ≡ true → field_by mark false text ≡ None
never_closed mark [] plain = refl
never_closed mark (b ∷ text) plain =
    let both = and_parts (no_quote b) (list_all no_quote text) plain in
    rw (not-true (b == 34) both.0) (ap (λ (it : Option Field). with_front (b ∷ []) it) (never_closed mark text both.1))

no_first_by : (place b : ℕ) (text : List ℕ) (t : Bool) → (b == 34) ≡ t → cond t (Some place) (position_from (λ b. b == 34) (place + 1) text) ≡ None
    → (position_from (λ b. b == 34) (place + 1) text ≡ None → list_all no_quote text ≡ true) → list_all no_quote (b ∷ text) ≡ true
no_first_by place b text true test is more = absurd (cc)
no_first_by place b text false test is more = and_from (no_quote b) (list_all no_quote text) (ap not test) (more is)

no_first : (place : ℕ) (text : List ℕ) → position_from (λ b. b == 34) place text ≡ None → list_all no_quote text ≡ true
no_first place [] is = refl
no_first place (b ∷ text) is = no_first_by place b text (b == 34) refl is (λ e. no_first (place + 1) text e)

-- a text in which no quote stands has no field
pub none_found : (mark : ℕ) (text : List ℕ) → position (λ b. b == 34) text ≡ None → field_by mark false text ≡ None
none_found mark text is = never_closed mark text (no_first 0 text (sym (position_from-zero (λ b. b == 34) text) ∙ is))

-- ---- one more byte

-- the next byte stands in front of what is left
next_byte : (mark : ℕ) (text value : List ℕ) (quote : Bool) (place : ℕ) → place < length text
    → field_by mark false text ≡ with_front value (field_by mark quote (drop place text))
    → field_by mark false text ≡ with_front value (field_by mark quote (get_or text place 0 ∷ drop (place + 1) text))
next_byte mark text value quote place below is =
    is ∙ ap (λ (t : List ℕ). with_front value (field_by mark quote t)) (drop_more text place 0 below)

-- the byte is a quote that comes after a quote
pub second_quote : (mark : ℕ) (text value more : List ℕ) (quote after : Bool) (place : ℕ) → place < length text
    → field_by mark false text ≡ with_front value (field_by mark quote (drop place text)) → quote ≡ true → get_or text place 0 ≡ 34
    → more ≡ value ++ get_or text place 0 ∷ [] → after ≡ false
    → field_by mark false text ≡ with_front more (field_by mark after (drop (place + 1) text))
second_quote mark text value more quote after place below is was byte grown now =
    let read : field_by mark quote (get_or text place 0 ∷ drop (place + 1) text) ≡ with_front (34 ∷ []) (field_by mark false (drop (place + 1) text)) = rw (was, byte) refl in
    next_byte mark text value quote place below is
    ∙ (ap (λ (it : Option Field). with_front value it) read
    ∙ (front_more value (34 ∷ []) (field_by mark false (drop (place + 1) text)) ∙ rw (grown, byte, now) refl))

-- the byte is a quote, and the one before it was none
pub first_quote : (mark : ℕ) (text value more : List ℕ) (quote after : Bool) (place : ℕ) → place < length text
    → field_by mark false text ≡ with_front value (field_by mark quote (drop place text)) → quote ≡ false → get_or text place 0 ≡ 34
    → more ≡ value → after ≡ true
    → field_by mark false text ≡ with_front more (field_by mark after (drop (place + 1) text))
first_quote mark text value more quote after place below is was byte same now =
    let read : field_by mark quote (get_or text place 0 ∷ drop (place + 1) text) ≡ field_by mark true (drop (place + 1) text) = rw (was, byte) refl in
    next_byte mark text value quote place below is ∙ (ap (λ (it : Option Field). with_front value it) read ∙ rw (same, now) refl)

-- the byte is no quote
pub plain_byte : (mark : ℕ) (text value more : List ℕ) (quote after : Bool) (place : ℕ) → place < length text
    → field_by mark false text ≡ with_front value (field_by mark quote (drop place text)) → quote ≡ false → (get_or text place 0 ≡ 34 → ⊥)
    → more ≡ value ++ get_or text place 0 ∷ [] → after ≡ quote
    → field_by mark false text ≡ with_front more (field_by mark after (drop (place + 1) text))
plain_byte mark text value more quote after place below is was byte grown now =
    let b = get_or text place 0 in
    let read : field_by mark quote (b ∷ drop (place + 1) text) ≡ with_front (b ∷ []) (field_by mark false (drop (place + 1) text)) = rw (was, ne_eqb b 34 byte) refl in
    next_byte mark text value quote place below is
    ∙ (ap (λ (it : Option Field). with_front value it) read
    ∙ (front_more value (b ∷ []) (field_by mark false (drop (place + 1) text)) ∙ rw (grown, now, was) refl))

-- the mark comes behind a quote
pub mark_behind_quote : (mark : ℕ) (text value rest : List ℕ) (quote : Bool) (place : ℕ) → place < length text
    → field_by mark false text ≡ with_front value (field_by mark quote (drop place text)) → quote ≡ true → (get_or text place 0 ≡ 34 → ⊥) → get_or text place 0 ≡ mark
    → rest ≡ drop (place + 1) text
    → Some (record { value = value; rest = rest }) ≡ field_by mark false text
mark_behind_quote mark text value rest quote place below is was byte marked left =
    let b = get_or text place 0 in
    let read : field_by mark quote (b ∷ drop (place + 1) text) ≡ Some (record { value = []; rest = drop (place + 1) text }) =
    rw (was, ne_eqb b 34 byte, eq-eqb b mark marked) refl in
    sym (next_byte mark text value quote place below is ∙ (ap (λ (it : Option Field). with_front value it) read ∙ rw (append-nil value, left) refl))

-- another byte comes behind a quote
pub other_behind_quote : (mark : ℕ) (text value : List ℕ) (quote : Bool) (place : ℕ) → place < length text
    → field_by mark false text ≡ with_front value (field_by mark quote (drop place text)) → quote ≡ true → (get_or text place 0 ≡ 34 → ⊥) → (get_or text place 0 ≡ mark → ⊥)
    → None ≡ field_by mark false text
other_behind_quote mark text value quote place below is was byte other =
    let b = get_or text place 0 in
    let read : field_by mark quote (b ∷ drop (place + 1) text) ≡ None = rw (was, ne_eqb b 34 byte, ne_eqb b mark other) refl in
    sym (next_byte mark text value quote place below is ∙ ap (λ (it : Option Field). with_front value it) read)

empty_read : (mark : ℕ) (quote : Bool) → field_by mark quote [] ≡ None
empty_read mark true = refl
empty_read mark false = refl

-- the text ends inside the field
pub none_left : (mark : ℕ) (text value : List ℕ) (quote : Bool) (place : ℕ) → length text ≤ place
    → field_by mark false text ≡ with_front value (field_by mark quote (drop place text)) → None ≡ field_by mark false text
none_left mark text value quote place past is =
    let none : drop place text ≡ [] = drop_all place text past in
    sym (is ∙ (ap (λ (t : List ℕ). with_front value (field_by mark quote t)) none ∙ ap (λ (it : Option Field). with_front value it) (empty_read mark quote)))

pub rest_all : (text : List ℕ) (place : ℕ) → take (length text - place) (drop place text) ≡ drop place text
rest_all text place = take_all (length text - place) (drop place text) (omega (arith, length-drop place text))
