-- A field that is read is the field that is spelled, and what is spelled is read again.
use Rattle.std.proofs.Common.{◌≡◌, ℕ, zero, suc, ℤ, ◌+◌, ◌^◌, ◌<◌, ◌≤◌, Bool, true, false, cond, eqb, ltb, List, [], ◌∷◌, ◌++◌, length, take, drop, Option, Some, None, refl, sym, ap, subst, arith, inl, inr, Fits}
use Rattle.std.specs.Int.{Width, w16, w32, w64, byte_len, from_be_bytes, to_be_bytes, cast_signed, cast_unsigned}
use Rattle.std.specs.Str.{IsUtf8, is_utf8}
use Rattle.std.proofs.Math.Facts.{sfits_to_z, Fits-of_z}
use Rattle.std.proofs.lemmas.Bool.{cases_lt, ltb-false, le-ltb, eqb-true}
use Rattle.std.proofs.lemmas.Int.{to_z-of_z, of_z-to_z}
use Rattle.std.proofs.lemmas.List.{take_at, drop_at, take-append-drop, length-append, length-take, get_or-drop, get_or-take, get_or_past}
use Rattle.std.proofs.lemmas.Nat.{be_bytes_2, be_bytes_4, be_bytes_8, from_be_bytes-to_be_bytes_2, from_be_bytes-to_be_bytes_4, from_be_bytes-to_be_bytes_8}
use Rattle.std.proofs.lemmas.Str.{IsUtf8-from_is_utf8}
use Rattle.droid_frame.specs.declared.method.Method.{Method}
use Rattle.droid_frame.specs.declared.method.Method.TheVariants.{Unidentified, Signature, Extension}
use Rattle.droid_frame.specs.Fields.{IsBytes, u16_bytes, u32_bytes, u64_bytes, i64_bytes, truth_bytes, method_bytes, IsU32, IsU64, IsI64}
use Rattle.droid_frame.specs.Reading.{◌>>=◌, byte_at, number_at, signed_at, truth_at, method_at, text_at, whole}

pub IsBytes-drop : (n : ℕ) (bytes : List ℕ) → IsBytes bytes → IsBytes (drop n bytes)
IsBytes-drop n bytes are i = rw get_or-drop (are (n + i))

pub IsBytes-take : (n : ℕ) (bytes : List ℕ) → IsBytes bytes → IsBytes (take n bytes)
IsBytes-take n bytes are i =
    elim (cases_lt i n) [
      | inl below ↦ rw (get_or-take n bytes i 0 below) (are i)
      | inr past ↦ rw (get_or_past (take n bytes) i 0 (omega (arith, length-take n bytes))) (omega arith)
    ]

pub IsBytes-rest : (b : ℕ) (bytes : List ℕ) → IsBytes (b ∷ bytes) → IsBytes bytes
IsBytes-rest b bytes are i = are (suc i)

-- what a step found that did not fail
pub bind_some : {A B : Type 0} (o : Option A) (next : A → Option B) (y : B) → (o >>= next) ≡ Some y → (x : A) × (o ≡ Some x) × (next x ≡ Some y)
bind_some None next y e = absurd cc
bind_some (Some x) next y e = (x, refl, e)

abbrev pub found : {A : Type 0} → A → Option A
found x = Some x

pub some_is : {A : Type 0} (x y : A) → found x ≡ found y → x ≡ y
some_is x y e = cc

pub unless_some : {A : Type 0} (b : Bool) (x y : A) → cond b None (Some x) ≡ Some y → (b ≡ false) × (x ≡ y)
unless_some true x y e = absurd cc
unless_some false x y e = (refl, cc)

pub if_some : {A : Type 0} (b : Bool) (x y : A) → cond b (Some x) None ≡ Some y → (b ≡ true) × (x ≡ y)
if_some true x y e = (refl, cc)
if_some false x y e = absurd cc

-- what is there only where a test holds
pub where_true : {A : Type 0} (b : Bool) (o : Option A) (x : A) → cond b o None ≡ Some x → (b ≡ true) × (o ≡ Some x)
where_true true o x e = (refl, e)
where_true false o x e = absurd cc

by_test : {A : Type 0} {number n : ℕ} (b : Bool) → (b ≡ true → number ≡ n) → (P : ℕ → Type 0) (this others : Option A) (x : A) → (this ≡ Some x → P n) → (others ≡ Some x → P number) → cond b this others ≡ Some x → P number
by_test true same P this others x one other e = subst P (sym (same refl)) (one e)
by_test false same P this others x one other e = other e

-- where the number is this one, what it gives, and else what the others give
pub by_number : {A : Type 0} (n : ℕ) (P : ℕ → Type 0) (number : ℕ) (this others : Option A) (x : A) → (this ≡ Some x → P n) → (others ≡ Some x → P number) → cond (eqb number n) this others ≡ Some x → P number
by_number n P number this others x one other e = by_test (eqb number n) (eqb-true number n) P this others x one other e

-- the field's spelling was at the front, and bytes follow it
pub record IsFront (bytes spelled rest : List ℕ) : Type 0 where
  pub parts : bytes ≡ spelled ++ rest
  pub bytes_follow : IsBytes rest

-- a reader of a field, its spelling, and which values have one
pub record IsField {A : Type 0} (at : List ℕ → Option (A × List ℕ)) (spelled : A → List ℕ) (HasOne : A → Type 0) : Type 0 where
  pub reads : (bytes : List ℕ) (x : A × List ℕ) → IsBytes bytes → at bytes ≡ Some x → IsFront bytes (spelled x.0) x.1 × HasOne x.0
  pub again : (value : A) (rest : List ℕ) → HasOne value → at (spelled value ++ rest) ≡ Some (value, rest)

-- ---- numbers

-- a width whose numbers are those below the limit
pub record IsWidth (w : Width) (limit : ℕ) : Type 0 where
  pub size : (n : ℕ) → length (to_be_bytes w n) ≡ byte_len w
  pub spells : (bytes : List ℕ) → length bytes ≡ byte_len w → IsBytes bytes → to_be_bytes w (from_be_bytes w bytes) ≡ bytes
  pub reads : (n : ℕ) → n < limit → from_be_bytes w (to_be_bytes w n) ≡ n
  pub small : (bytes : List ℕ) → IsBytes bytes → from_be_bytes w bytes < limit

width16 : IsWidth w16 (2 ^ 16)
width16 = record {
  size = λ n. refl;
  spells = λ bytes size are. be_bytes_2 bytes _ size are refl;
  reads = λ n small. from_be_bytes-to_be_bytes_2 n small;
  small = λ bytes are. omega (arith, are 0, are 1);
}

width32 : IsWidth w32 (2 ^ 32)
width32 = record {
  size = λ n. refl;
  spells = λ bytes size are. be_bytes_4 bytes _ size are refl;
  reads = λ n small. from_be_bytes-to_be_bytes_4 n small;
  small = λ bytes are. omega (arith, are 0, are 1, are 2, are 3);
}

width64 : IsWidth w64 (2 ^ 64)
width64 = record {
  size = λ n. refl;
  spells = λ bytes size are. be_bytes_8 bytes _ size are refl;
  reads = λ n small. from_be_bytes-to_be_bytes_8 n small;
  small = λ bytes are. omega (arith, are 0, are 1, are 2, are 3, are 4, are 5, are 6, are 7);
}

number_reads : (w : Width) (limit : ℕ) → IsWidth w limit → (bytes : List ℕ) (x : ℕ × List ℕ) → IsBytes bytes → number_at w bytes ≡ Some x → IsFront bytes (to_be_bytes w x.0) x.1 × (x.0 < limit)
number_reads w limit width bytes x are e =
    let front = take (byte_len w) bytes in
    let long = unless_some (ltb (length bytes) (byte_len w)) (from_be_bytes w front, drop (byte_len w) bytes) x e in
    let enough : byte_len w ≤ length bytes = ltb-false _ _ long.0 in
    let size : length front ≡ byte_len w = omega (arith, length-take (byte_len w) bytes) in
    let is_front : IsFront bytes (to_be_bytes w (from_be_bytes w front)) (drop (byte_len w) bytes) = record {
      parts = rw (width.spells front size (IsBytes-take (byte_len w) bytes are)) (sym (take-append-drop (byte_len w) bytes));
      bytes_follow = IsBytes-drop (byte_len w) bytes are;
    } in
    subst (λ (y : ℕ × List ℕ). IsFront bytes (to_be_bytes w y.0) y.1 × (y.0 < limit)) long.1 (is_front, width.small front (IsBytes-take (byte_len w) bytes are))

number_again : (w : Width) (limit : ℕ) → IsWidth w limit → (n : ℕ) (rest : List ℕ) → n < limit → number_at w (to_be_bytes w n ++ rest) ≡ Some (n, rest)
number_again w limit width n rest small =
    let size = width.size n in
    let long : ltb (length (to_be_bytes w n ++ rest)) (byte_len w) ≡ false = le-ltb _ _ (omega (arith, length-append (to_be_bytes w n) rest)) in
    rw (long, take_at (to_be_bytes w n) rest (byte_len w) size, drop_at (to_be_bytes w n) rest (byte_len w) size, width.reads n small) refl

pub u16_field : IsField (number_at w16) u16_bytes (λ n. n < 2 ^ 16)
u16_field = record { reads = number_reads w16 (2 ^ 16) width16; again = number_again w16 (2 ^ 16) width16 }

pub u32_field : IsField (number_at w32) u32_bytes IsU32
u32_field = record { reads = number_reads w32 (2 ^ 32) width32; again = number_again w32 (2 ^ 32) width32 }

pub u64_field : IsField (number_at w64) u64_bytes IsU64
u64_field = record { reads = number_reads w64 (2 ^ 64) width64; again = number_again w64 (2 ^ 64) width64 }

-- ---- signed numbers

signed_reads : (bytes : List ℕ) (x : ℤ × List ℕ) → IsBytes bytes → signed_at bytes ≡ Some x → IsFront bytes (i64_bytes x.0) x.1 × IsI64 x.0
unfolding signed_at
signed_reads bytes x are e =
    let number = bind_some (number_at w64 bytes) (λ n. Some (cast_signed w64 n.0, n.1)) x e in
    let front = u64_field.reads bytes number.0 are number.1 in
    let fits : Fits w64 number.0.0 = record { fits = front.1 } in
    let same : u64_bytes number.0.0 ≡ i64_bytes (cast_signed w64 number.0.0) = ap u64_bytes (sym (of_z-to_z w64 number.0.0 front.1)) in
    let made : IsFront bytes (i64_bytes (cast_signed w64 number.0.0)) number.0.1 = rw (← same) front.0 in
    let value : ℤ × List ℕ = (cast_signed w64 number.0.0, number.0.1) in
    subst (λ (y : ℤ × List ℕ). IsFront bytes (i64_bytes y.0) y.1 × IsI64 y.0) (some_is value x number.2) (made, sfits_to_z fits)

signed_again : (z : ℤ) (rest : List ℕ) → IsI64 z → signed_at (i64_bytes z ++ rest) ≡ Some (z, rest)
unfolding signed_at
signed_again z rest fits =
    let unsigned : Fits w64 (cast_unsigned w64 z) = Fits-of_z fits in
    rw (u64_field.again (cast_unsigned w64 z) rest unsigned.fits, to_z-of_z w64 z fits) refl

pub i64_field : IsField signed_at i64_bytes IsI64
i64_field = record { reads = signed_reads; again = signed_again }

-- ---- truth values

abbrev pub Always : Bool → Type 0
Always b = Unit {0}

truth_reads : (bytes : List ℕ) (x : Bool × List ℕ) → IsBytes bytes → truth_at bytes ≡ Some x → IsFront bytes (truth_bytes x.0) x.1 × Always x.0
unfolding truth_at
truth_reads [] x are e = absurd cc
truth_reads (zero ∷ bytes) x are e =
    subst (λ (y : Bool × List ℕ). IsFront (0 ∷ bytes) (truth_bytes y.0) y.1 × Always y.0) (some_is (false, bytes) x e) (record { parts = refl; bytes_follow = IsBytes-rest 0 bytes are }, tt)
truth_reads (suc zero ∷ bytes) x are e =
    subst (λ (y : Bool × List ℕ). IsFront (1 ∷ bytes) (truth_bytes y.0) y.1 × Always y.0) (some_is (true, bytes) x e) (record { parts = refl; bytes_follow = IsBytes-rest 1 bytes are }, tt)
truth_reads (suc (suc b) ∷ bytes) x are e = absurd cc

truth_again : (b : Bool) (rest : List ℕ) → Always b → truth_at (truth_bytes b ++ rest) ≡ Some (b, rest)
unfolding truth_at
truth_again false rest always = refl
truth_again true rest always = refl

pub truth_field : IsField truth_at truth_bytes Always
truth_field = record { reads = truth_reads; again = truth_again }

-- ---- bytes that stand for a choice

pub byte_reads : (bytes : List ℕ) (x : ℕ × List ℕ) → IsBytes bytes → byte_at bytes ≡ Some x → IsFront bytes (x.0 ∷ []) x.1 × (x.0 < 256)
unfolding byte_at
byte_reads [] x are e = absurd cc
byte_reads (b ∷ bytes) x are e =
    subst (λ (y : ℕ × List ℕ). IsFront (b ∷ bytes) (y.0 ∷ []) y.1 × (y.0 < 256)) (some_is (b, bytes) x e) (record { parts = refl; bytes_follow = IsBytes-rest b bytes are }, are 0)

byte_again : (n : ℕ) (rest : List ℕ) → n < 256 → byte_at (n ∷ rest) ≡ Some (n, rest)
unfolding byte_at
byte_again n rest small = refl

pub byte_field : IsField byte_at (λ n. n ∷ []) (λ n. n < 256)
byte_field = record { reads = byte_reads; again = byte_again }

abbrev pub AlwaysMethod : Method → Type 0
AlwaysMethod method = Unit {0}

abbrev LeavesMethod : List ℕ → Method × List ℕ → Type 0
LeavesMethod bytes x = IsFront bytes (method_bytes x.0) x.1 × AlwaysMethod x.0

method_reads : (bytes : List ℕ) (x : Method × List ℕ) → IsBytes bytes → method_at bytes ≡ Some x → LeavesMethod bytes x
unfolding method_at
method_reads [] x are e = absurd cc
method_reads (zero ∷ bytes) x are e =
    subst (LeavesMethod (0 ∷ bytes)) (some_is (Unidentified, bytes) x e) (record { parts = refl; bytes_follow = IsBytes-rest 0 bytes are }, tt)
method_reads (suc zero ∷ bytes) x are e =
    subst (LeavesMethod (1 ∷ bytes)) (some_is (Signature, bytes) x e) (record { parts = refl; bytes_follow = IsBytes-rest 1 bytes are }, tt)
method_reads (suc (suc zero) ∷ bytes) x are e =
    subst (LeavesMethod (2 ∷ bytes)) (some_is (Extension, bytes) x e) (record { parts = refl; bytes_follow = IsBytes-rest 2 bytes are }, tt)
method_reads (suc (suc (suc b)) ∷ bytes) x are e = absurd cc

method_again : (method : Method) (rest : List ℕ) → AlwaysMethod method → method_at (method_bytes method ++ rest) ≡ Some (method, rest)
unfolding method_at
method_again Unidentified rest always = refl
method_again Signature rest always = refl
method_again Extension rest always = refl

pub method_field : IsField method_at method_bytes AlwaysMethod
method_field = record { reads = method_reads; again = method_again }

-- ---- what runs to the end

pub text_reads : (bytes text : List ℕ) → text_at bytes ≡ Some text → (bytes ≡ text) × IsUtf8 text
unfolding text_at
text_reads bytes text e =
    let ok = if_some (is_utf8 bytes) bytes text e in
    (ok.1, subst IsUtf8 ok.1 (IsUtf8-from_is_utf8 bytes ok.0))

pub whole_reads : {A : Type 0} (bytes : List ℕ) (x y : A) → whole bytes x ≡ Some y → (bytes ≡ []) × (x ≡ y)
unfolding whole
whole_reads [] x y e = (refl, cc)
whole_reads (b ∷ bytes) x y e = absurd cc

pub whole_again : {A : Type 0} (x : A) → whole [] x ≡ Some x
unfolding whole
whole_again x = refl
