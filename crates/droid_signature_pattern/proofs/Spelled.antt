-- What is written is read: each element's text spells it.
use Rattle.std.proofs.Common.{◌≡◌, ℕ, zero, suc, ◌+◌, ◌*◌, ◌/◌, ◌%◌, ◌^◌, ◌<◌, ◌≤◌, Bool, true, false, List, [], ◌∷◌, ◌++◌, length, inl, inr, refl, sym, ap, subst, arith, append_assoc}
use Rattle.std.specs.Prelude.{◌==◌, decimal, codes, if◌then◌else◌}
use Rattle.std.specs.Char.{digit_value}
use Rattle.std.specs.List.{flat_map, All, AllByRecursion}
use Rattle.std.proofs.lemmas.Bool.{eqb-true}
use Rattle.std.proofs.lemmas.Fmt.{decimal_by_steps, decimal_nonempty, length-decimal-le}
use Rattle.std.proofs.lemmas.List.{append-nil}
use Rattle.std.proofs.lemmas.List.Elements.{All-push}
use Rattle.droid_pattern.specs.Patterns.{Element, Byte, AnyByte, Gap, OpenGap, Range, Except, Choice}
use Rattle.droid_pattern.specs.PatternText.{IsPair, IsNumber, SpellsBytes, SpellsAlternative, SpellsChoice, SpellsElement, SpellsAll, decimal_after}
use Rattle.droid_pattern.proofs.TextLemmas.{decimal_push}
use Rattle.droid_signature_file.specs.Terms.{AreBytes}
use Rattle.droid_signature_pattern.specs.Written.{digit, pair, marked, written, written_all, IsWritable, AreWritable}

-- a hexadecimal digit has its value
value_of_digit : (n : ℕ) → n < 16 → digit_value (digit n) ≡ n
value_of_digit zero small = refl
value_of_digit (suc zero) small = refl
value_of_digit (suc (suc zero)) small = refl
value_of_digit (suc (suc (suc zero))) small = refl
value_of_digit (suc (suc (suc (suc zero)))) small = refl
value_of_digit (suc (suc (suc (suc (suc zero))))) small = refl
value_of_digit (suc (suc (suc (suc (suc (suc zero)))))) small = refl
value_of_digit (suc (suc (suc (suc (suc (suc (suc zero))))))) small = refl
value_of_digit (suc (suc (suc (suc (suc (suc (suc (suc zero)))))))) small = refl
value_of_digit (suc (suc (suc (suc (suc (suc (suc (suc (suc zero))))))))) small = refl
value_of_digit (suc (suc (suc (suc (suc (suc (suc (suc (suc (suc zero)))))))))) small = refl
value_of_digit (suc (suc (suc (suc (suc (suc (suc (suc (suc (suc (suc zero))))))))))) small = refl
value_of_digit (suc (suc (suc (suc (suc (suc (suc (suc (suc (suc (suc (suc zero)))))))))))) small = refl
value_of_digit (suc (suc (suc (suc (suc (suc (suc (suc (suc (suc (suc (suc (suc zero))))))))))))) small = refl
value_of_digit (suc (suc (suc (suc (suc (suc (suc (suc (suc (suc (suc (suc (suc (suc zero)))))))))))))) small = refl
value_of_digit (suc (suc (suc (suc (suc (suc (suc (suc (suc (suc (suc (suc (suc (suc (suc zero))))))))))))))) small = refl
value_of_digit (suc (suc (suc (suc (suc (suc (suc (suc (suc (suc (suc (suc (suc (suc (suc (suc n)))))))))))))))) small = absurd (omega arith)

-- a decimal digit has its value
value_of_decimal : (n : ℕ) → n < 10 → digit_value (48 + n) ≡ n
value_of_decimal zero small = refl
value_of_decimal (suc zero) small = refl
value_of_decimal (suc (suc zero)) small = refl
value_of_decimal (suc (suc (suc zero))) small = refl
value_of_decimal (suc (suc (suc (suc zero)))) small = refl
value_of_decimal (suc (suc (suc (suc (suc zero))))) small = refl
value_of_decimal (suc (suc (suc (suc (suc (suc zero)))))) small = refl
value_of_decimal (suc (suc (suc (suc (suc (suc (suc zero))))))) small = refl
value_of_decimal (suc (suc (suc (suc (suc (suc (suc (suc zero)))))))) small = refl
value_of_decimal (suc (suc (suc (suc (suc (suc (suc (suc (suc zero))))))))) small = refl
value_of_decimal (suc (suc (suc (suc (suc (suc (suc (suc (suc (suc n)))))))))) small = absurd (omega arith)

pair_where : (h l b : ℕ) → h ≡ b / 16 → l ≡ b % 16 → b < 256 → (h < 16) × (l < 16) × (b ≡ 16 * h + l)
pair_where h l b first second small = (omega arith, omega arith, omega arith)

pub pair_is : (b : ℕ) → b < 256 → IsPair (digit (b / 16)) (digit (b % 16)) b
pair_is b small =
    let high : b / 16 < 16 = omega arith in
    let low : b % 16 < 16 = omega arith in
    let first = value_of_digit (b / 16) high in
    let second = value_of_digit (b % 16) low in
    pair_where (digit_value (digit (b / 16))) (digit_value (digit (b % 16))) b first second small

pub bytes_are : (bs : List ℕ) → AreBytes bs → SpellsBytes (flat_map pair bs) bs
bytes_are [] each = refl
bytes_are (b ∷ bs) (small, each) = (digit (b / 16), digit (b % 16), flat_map pair bs, refl, pair_is b small, bytes_are bs each)

byte_is : (b : ℕ) → b < 256 → SpellsBytes (pair b) (b ∷ [])
byte_is b small = bytes_are (b ∷ []) (small, tt)

-- decimal digits
record AreDecimal (n : ℕ) (digits : List ℕ) : Type 0 where
  each : All (λ d. digit_value d < 10) digits
  value : n ≡ decimal_after 0 digits

small_by : (v n : ℕ) → v ≡ n → n < 10 → v < 10
small_by v n is small = omega arith

value_by : (v n : ℕ) → v ≡ n → n ≡ 10 * 0 + v
value_by v n is = omega arith

value_more : (n whole front v : ℕ) → whole ≡ 10 * front + v → n / 10 ≡ front → v ≡ n % 10 → n ≡ whole
value_more n whole front v is so_far last = omega arith

one_digit : (n : ℕ) → n < 10 → AreDecimal n ((48 + n) ∷ [])
one_digit n small =
    let is = value_of_decimal n small in
    record { each = All-push (λ d. digit_value d < 10) [] (48 + n) (λ k d below. absurd (omega arith)) (small_by (digit_value (48 + n)) n is small); value = value_by (digit_value (48 + n)) n is }

more_digits : (n : ℕ) (ds : List ℕ) → 10 ≤ n → AreDecimal (n / 10) ds → AreDecimal n (ds ++ (48 + n % 10) ∷ [])
more_digits n ds large so_far =
    let small : n % 10 < 10 = omega arith in
    let is = value_of_decimal (n % 10) small in
    let whole = decimal_push 0 ds (48 + n % 10) in
    let front = so_far.value in
    record { each = All-push (λ d. digit_value d < 10) ds (48 + n % 10) so_far.each (small_by (digit_value (48 + n % 10)) (n % 10) is small); value = value_more n (decimal_after 0 (ds ++ (48 + n % 10) ∷ [])) (decimal_after 0 ds) (digit_value (48 + n % 10)) whole front is }

pub number_is : (n : ℕ) → n ≤ 65535 → IsNumber (decimal n) n
number_is n small =
    let fits : n < 2 ^ 64 = omega arith in
    let all = decimal_by_steps AreDecimal one_digit more_digits n fits in
    record {
      some = decimal_nonempty n fits;
      few = length-decimal-le 5 n (omega arith) (omega arith) fits;
      digits = all.each;
      value = all.value;
      small = small;
    }

gap_where : (t : Bool) (n m : ℕ) → (n == m) ≡ t → n ≤ m → m ≤ 65535 → SpellsElement (if t then 123 ∷ (decimal n ++ 125 ∷ []) else 123 ∷ (decimal n ++ (45 ∷ (decimal m ++ 125 ∷ [])))) (Gap n m)
gap_where true n m test ordered small = (decimal n, refl, inl (number_is n (omega arith), sym (eqb-true n m test)))
gap_where false n m test ordered small =
    (decimal n ++ (45 ∷ decimal m), ap (λ l. 123 ∷ l) (sym (append_assoc (decimal n) (45 ∷ decimal m) (125 ∷ []))), inr (decimal n, decimal m, refl, number_is n (omega arith), number_is m small, ordered))

open_where : (t : Bool) (n : ℕ) → (n == 0) ≡ t → n ≤ 65535 → SpellsElement (if t then 42 ∷ [] else 123 ∷ (decimal n ++ codes "-*}")) (OpenGap n)
open_where true n test small = inl (refl, eqb-true n 0 test)
open_where false n test small = inr (decimal n, refl, number_is n small)

-- alternatives behind their mark
choice_is : (run : List ℕ) (runs : List (List ℕ)) → (0 < length run) × AreBytes run → AllByRecursion (λ r. (0 < length r) × AreBytes r) runs
    → SpellsChoice (flat_map pair run ++ marked (flat_map pair) 124 runs) (run ∷ runs)
choice_is run [] (some, each) more = let P : List ℕ → Type 0 = λ text. SpellsAlternative text run in subst P (sym (append-nil (flat_map pair run))) (bytes_are run each, some)
choice_is run (next ∷ runs) (some, each) (here, more) =
    (flat_map pair run, flat_map pair next ++ marked (flat_map pair) 124 runs, refl, (bytes_are run each, some), choice_is next runs here more)

pub element_is : (e : Element) → IsWritable e → SpellsElement (written e) e
element_is (Byte b) small = byte_is b small
element_is AnyByte fine = refl
element_is (Gap n m) (ordered, small) = gap_where (n == m) n m refl ordered small
element_is (OpenGap n) small = open_where (n == 0) n refl small
element_is (Range low high) (ordered, small) = (pair low, pair high, refl, byte_is low (omega arith), byte_is high small, ordered)
element_is (Except b) small = (pair b, refl, byte_is b small)
element_is (Choice []) (some, each) = absurd (omega arith)
element_is (Choice (run ∷ runs)) (some, (here, more)) = (flat_map pair run ++ marked (flat_map pair) 124 runs, refl, choice_is run runs here more)

pub all_are : (es : List Element) → AreWritable es → SpellsAll (written_all es) es
all_are [] fine = refl
all_are (e ∷ es) (here, more) = (written e, written_all es, refl, element_is e here, all_are es more)
