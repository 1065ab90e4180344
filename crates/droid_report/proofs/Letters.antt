-- A text is escaped byte by byte as it is character by character.
use Rattle.std.proofs.Common.{◌≡◌, ◌∙◌, ◌==◌, ◌+◌, ◌/◌, ◌%◌, ◌≤◌, ◌<◌, ℕ, Bool, true, false, cond, nat_lt, List, [], ◌∷◌, ◌++◌, append-nil, codes, flat_map, map, refl, sym, ap, arith}
use Rattle.std.specs.Prelude.{encode_utf8}
use Rattle.std.specs.List.{AllByRecursion}
use Rattle.std.specs.Str.{IsUtf8, chars}
use Rattle.std.proofs.lemmas.Bool.{cases_lt, cond_both, ltb-true, le-ltb, lt-ltb}
use mathlib.Core.Logic.{⊎_elim}
use Rattle.std.proofs.lemmas.Bool.Decides.{nat_tests}
use Rattle.std.proofs.lemmas.Grind.{flat_map-append}
use Rattle.std.proofs.lemmas.Str.{encode_ascii, encodes-chars}
use lib.Utf8.{encode, encodes}
use Rattle.droid_report.specs.Escapes.{escape, escaped, pictured}
use Rattle.droid_report.specs.Letters.{escaped_letter, picture_of}

-- ---- from 128 on

abbrev IsHigh : ℕ → Type 0
IsHigh b = 128 ≤ b

high : (b : ℕ) → IsHigh b → escaped b ≡ b ∷ []
high b h = grind (arith, nat_tests)

all_high : (bs : List ℕ) → AllByRecursion IsHigh bs → escape bs ≡ bs
all_high [] h = refl
all_high (b ∷ bs) h = ap (λ (x : List ℕ). x ++ escape bs) (high b h.0) ∙ ap (λ (x : List ℕ). b ∷ x) (all_high bs h.1)

high_bytes : (c : ℕ) → 128 ≤ c → AllByRecursion IsHigh (encode c)
unfolding encode
high_bytes c h =
    cond_both (nat_lt c 128) (c ∷ []) (cond (nat_lt c 2048) ((192 + c / 64) ∷ (128 + c % 64) ∷ []) (cond (nat_lt c 65536) ((224 + c / 4096) ∷ (128 + c / 64 % 64) ∷ (128 + c % 64) ∷ []) ((240 + c / 262144) ∷ (128 + c / 4096 % 64) ∷ (128 + c / 64 % 64) ∷ (128 + c % 64) ∷ []))) (AllByRecursion IsHigh)
    (λ _. (h, tt))
    (λ _. cond_both (nat_lt c 2048) ((192 + c / 64) ∷ (128 + c % 64) ∷ []) (cond (nat_lt c 65536) ((224 + c / 4096) ∷ (128 + c / 64 % 64) ∷ (128 + c % 64) ∷ []) ((240 + c / 262144) ∷ (128 + c / 4096 % 64) ∷ (128 + c / 64 % 64) ∷ (128 + c % 64) ∷ [])) (AllByRecursion IsHigh)
    (λ _. (omega arith, (omega arith, tt)))
    (λ _. cond_both (nat_lt c 65536) ((224 + c / 4096) ∷ (128 + c / 64 % 64) ∷ (128 + c % 64) ∷ []) ((240 + c / 262144) ∷ (128 + c / 4096 % 64) ∷ (128 + c / 64 % 64) ∷ (128 + c % 64) ∷ []) (AllByRecursion IsHigh)
    (λ _. (omega arith, (omega arith, (omega arith, tt))))
    (λ _. (omega arith, (omega arith, (omega arith, (omega arith, tt)))))))

high_letter : (c : ℕ) → 128 ≤ c → escaped_letter c ≡ encode_utf8 c
unfolding escaped_letter
high_letter c h = grind (arith, nat_tests)

-- ---- below 128

three_same : (a b c x y z : ℕ) → a ≡ x → b ≡ y → c ≡ z → a ∷ b ∷ c ∷ [] ≡ x ∷ y ∷ z ∷ []
three_same a b c x y z p q r = cc

picture_bytes : (c : ℕ) → c < 32 → encode_utf8 (9216 + c) ≡ 226 ∷ 144 ∷ (128 + c) ∷ []
unfolding encode
picture_bytes c h =
    let n : ℕ = 9216 + c in
    let one : List ℕ = n ∷ [] in
    let two : List ℕ = (192 + n / 64) ∷ (128 + n % 64) ∷ [] in
    let three : List ℕ = (224 + n / 4096) ∷ (128 + n / 64 % 64) ∷ (128 + n % 64) ∷ [] in
    let four : List ℕ = (240 + n / 262144) ∷ (128 + n / 4096 % 64) ∷ (128 + n / 64 % 64) ∷ (128 + n % 64) ∷ [] in
    ap (λ b. cond b one (cond (nat_lt n 2048) two (cond (nat_lt n 65536) three four))) (le-ltb n 128 (omega arith))
    ∙ (ap (λ b. cond b two (cond (nat_lt n 65536) three four)) (le-ltb n 2048 (omega arith))
    ∙ (ap (λ b. cond b three four) (lt-ltb n 65536 (omega arith))
    ∙ three_same (224 + n / 4096) (128 + n / 64 % 64) (128 + n % 64) 226 144 (128 + c) (omega arith) (omega arith) (omega arith)))

delete_bytes : encode_utf8 9249 ≡ 226 ∷ 144 ∷ 161 ∷ []
unfolding encode
delete_bytes = refl

pictured_by : (c : ℕ) → c < 128 → pictured c ≡ encode_utf8 (picture_of c)
pictured_by c h =
    let goal : Bool → Bool → Type 0 = λ b d. cond b (226 ∷ 144 ∷ (128 + c) ∷ []) (cond d (226 ∷ 144 ∷ 161 ∷ []) (c ∷ [])) ≡ encode_utf8 (cond b (9216 + c) (cond d 9249 c)) in
    let each : (b d : Bool) → nat_lt c 32 ≡ b → goal b d = λ b d. elim b as (λ x. nat_lt c 32 ≡ x → goal x d) [
      | true ↦ λ e. sym (picture_bytes c (ltb-true c 32 e))
      | false ↦ λ _. elim d as (λ x. goal false x) [ true ↦ sym delete_bytes | false ↦ sym (encode_ascii c h) ]
    ] in
    each (nat_lt c 32) (c == 127) refl

escaped_byte : (c : ℕ) → c < 128 → escaped c ≡ escaped_letter c
unfolding escaped_letter
escaped_byte c h =
    ap (λ (text : List ℕ). cond (c == 38) (codes "&amp;") (cond (c == 60) (codes "&lt;") (cond (c == 62) (codes "&gt;") (cond (c == 34) (codes "&quot;") text))))
    (pictured_by c h)

-- ---- any character

letter_bytes : (c : ℕ) → escape (encode c) ≡ escaped_letter c
letter_bytes c = ⊎_elim
    (λ h. ap escape (encode_ascii c h) ∙ (append-nil (escaped c) ∙ escaped_byte c h))
    (λ h. all_high (encode c) (high_bytes c h) ∙ sym (high_letter c h))
    (cases_lt c 128)

letters : (cs : List ℕ) → escape (encodes cs) ≡ flat_map escaped_letter cs
letters [] = refl
letters (c ∷ cs) =
    flat_map-append escaped (encode c) (encodes cs)
    ∙ (ap (λ (x : List ℕ). x ++ escape (encodes cs)) (letter_bytes c) ∙ ap (λ (x : List ℕ). escaped_letter c ++ x) (letters cs))

as_they_are : (cs : List ℕ) → map (λ (c : ℕ). c) cs ≡ cs
as_they_are [] = refl
as_they_are (c ∷ cs) = ap (λ (rest : List ℕ). c ∷ rest) (as_they_are cs)

pub all_letters : (text yielded : List ℕ) → IsUtf8 text → map (λ (c : ℕ). c) yielded ≡ chars text → flat_map escaped_letter yielded ≡ escape text
all_letters text yielded utf8 all =
    ap (flat_map escaped_letter) (sym (as_they_are yielded) ∙ all) ∙ (sym (letters (chars text)) ∙ ap escape (encodes-chars text utf8))
