-- Lists of bytes: numbers and texts are spelled by such.
use Rattle.std.proofs.Common.{◌≡◌, ℕ, zero, suc, ◌+◌, ◌/◌, ◌%◌, ◌^◌, ◌<◌, Bool, true, false, cond, ltb, ◌&&◌, List, [], ◌∷◌, ◌++◌, refl, subst, arith, inl, inr}
use Rattle.std.specs.Int.{Width, byte_at, byte_len, to_be_bytes, bytes_high_first}
use Rattle.std.specs.Str.{IsUtf8}
use Rattle.std.proofs.lemmas.Bool.{ltb-true}
use lib.Utf8.{next, scalar, scalars, scalar_cases, encode, encodes}
use Rattle.droid_frame.specs.Fields.{IsBytes}

pub IsBytes-nil : IsBytes []
IsBytes-nil i = omega arith

pub IsBytes-cons : (b : ℕ) (bytes : List ℕ) → b < 256 → IsBytes bytes → IsBytes (b ∷ bytes)
IsBytes-cons b bytes small are zero = small
IsBytes-cons b bytes small are (suc i) = are i

pub IsBytes-append : (front rest : List ℕ) → IsBytes front → IsBytes rest → IsBytes (front ++ rest)
IsBytes-append [] rest are others = others
IsBytes-append (b ∷ front) rest are others = IsBytes-cons b (front ++ rest) (are 0) (IsBytes-append front rest (λ i. are (suc i)) others)

-- ---- numbers

remainder_small : (n : ℕ) → n % 256 < 256
remainder_small n = omega arith

byte_small : (k n : ℕ) → byte_at k n < 256
byte_small zero n = remainder_small n
byte_small (suc k) n = remainder_small (n / 256 ^ suc k)

high_first : (count n : ℕ) → IsBytes (bytes_high_first count n)
high_first zero n = IsBytes-nil
high_first (suc count) n = IsBytes-cons _ (bytes_high_first count n) (byte_small count n) (high_first count n)

pub number_bytes : (w : Width) (n : ℕ) → IsBytes (to_be_bytes w n)
number_bytes w n = high_first (byte_len w) n

-- ---- texts

small_scalar : (c : ℕ) → scalar c ≡ true → c < 1114112
small_scalar c is = elim (scalar_cases c is) [ inl low ↦ omega arith | inr high ↦ high.1 ]

last : (b : ℕ) → b < 256 → IsBytes (b ∷ [])
last b small = IsBytes-cons b [] small IsBytes-nil

one_of_two : (b : Bool) (first second : List ℕ) → (b ≡ true → IsBytes first) → IsBytes second → IsBytes (cond b first second)
one_of_two true first second where_true others = where_true refl
one_of_two false first second where_true others = others

following : (bits : ℕ) → next bits < 256
following bits = omega arith

abbrev of_two : ℕ → List ℕ
of_two c = (192 + c / 64) ∷ next c ∷ []

abbrev of_three : ℕ → List ℕ
of_three c = (224 + c / 4096) ∷ next (c / 64) ∷ next c ∷ []

abbrev of_four : ℕ → List ℕ
of_four c = (240 + c / 262144) ∷ next (c / 4096) ∷ next (c / 64) ∷ next c ∷ []

two_bytes : (c : ℕ) → c < 2048 → IsBytes (of_two c)
two_bytes c small = IsBytes-cons (192 + c / 64) (next c ∷ []) (omega arith) (last (next c) (following c))

three_bytes : (c : ℕ) → c < 65536 → IsBytes (of_three c)
three_bytes c small =
    IsBytes-cons (224 + c / 4096) (next (c / 64) ∷ next c ∷ []) (omega arith)
    (IsBytes-cons (next (c / 64)) (next c ∷ []) (following (c / 64)) (last (next c) (following c)))

four_bytes : (c : ℕ) → c < 1114112 → IsBytes (of_four c)
four_bytes c small =
    IsBytes-cons (240 + c / 262144) (next (c / 4096) ∷ next (c / 64) ∷ next c ∷ []) (omega arith)
    (IsBytes-cons (next (c / 4096)) (next (c / 64) ∷ next c ∷ []) (following (c / 4096))
    (IsBytes-cons (next (c / 64)) (next c ∷ []) (following (c / 64)) (last (next c) (following c))))

one_byte : (c : ℕ) → c < 128 → IsBytes (c ∷ [])
one_byte c small = last c (omega arith)

encode_bytes : (c : ℕ) → c < 1114112 → IsBytes (encode c)
unfolding encode
encode_bytes c small =
    one_of_two (ltb c 128) (c ∷ []) (cond (ltb c 2048) (of_two c) (cond (ltb c 65536) (of_three c) (of_four c))) (λ below. one_byte c (ltb-true c 128 below))
    (one_of_two (ltb c 2048) (of_two c) (cond (ltb c 65536) (of_three c) (of_four c)) (λ below. two_bytes c (ltb-true c 2048 below))
    (one_of_two (ltb c 65536) (of_three c) (of_four c) (λ below. three_bytes c (ltb-true c 65536 below)) (four_bytes c small)))

both : (x y : Bool) → (x && y) ≡ true → (x ≡ true) × (y ≡ true)
both true y e = (refl, e)
both false y e = absurd cc

encodes_bytes : (cs : List ℕ) → scalars cs ≡ true → IsBytes (encodes cs)
encodes_bytes [] all = IsBytes-nil
encodes_bytes (c ∷ cs) all =
    let parts = both (scalar c) (scalars cs) all in
    IsBytes-append (encode c) (encodes cs) (encode_bytes c (small_scalar c parts.0)) (encodes_bytes cs parts.1)

pub text_bytes : (text : List ℕ) → IsUtf8 text → IsBytes text
text_bytes text is = subst IsBytes is.1.1 (encodes_bytes is.0 is.1.0)
