-- For inner clauses and proofs, and for the clauses `exact`: functions that read single fields from the front of bytes,
-- and return the value and the bytes after it.
use Rattle.std.specs.Prelude.{ℕ, zero, suc, ℤ, Bool, true, false, nat_lt, if◌then◌else◌, List, [], ◌∷◌, length, take}
use Rattle.std.specs.Prelude.{drop, Option, Some, None}
use Rattle.std.specs.Int.{Width, w64, byte_len, from_be_bytes, cast_signed}
use Rattle.std.specs.Str.{is_utf8}
use Rattle.droid_frame.specs.declared.method.Method.{Method}
use Rattle.droid_frame.specs.declared.method.Method.TheVariants.{Unidentified, Signature, Extension}

-- the next step, if the value before it was found
infixl 10 ◌>>=◌
abbrev pub ◌>>=◌ : {A B : Type 0} → Option A → (A → Option B) → Option B
None >>= next = None
(Some x) >>= next = next x

-- a number at the front, and the bytes after it
abbrev pub number_at : Width → List ℕ → Option (ℕ × List ℕ)
number_at w bytes =
    if nat_lt (length bytes) (byte_len w) then None
    else Some (from_be_bytes w (take (byte_len w) bytes), drop (byte_len w) bytes)

-- a signed number of eight bytes at the front
unfoldable pub signed_at : List ℕ → Option (ℤ × List ℕ)
signed_at bytes = do
  number ← number_at w64 bytes
  Some (cast_signed w64 number.0, number.1)

-- a byte at the front
unfoldable pub byte_at : List ℕ → Option (ℕ × List ℕ)
byte_at [] = None
byte_at (b ∷ rest) = Some (b, rest)

-- a truth value at the front
unfoldable pub truth_at : List ℕ → Option (Bool × List ℕ)
truth_at [] = None
truth_at (zero ∷ rest) = Some (false, rest)
truth_at (suc zero ∷ rest) = Some (true, rest)
truth_at (suc (suc b) ∷ rest) = None

-- a method at the front
unfoldable pub method_at : List ℕ → Option (Method × List ℕ)
method_at [] = None
method_at (zero ∷ rest) = Some (Unidentified, rest)
method_at (suc zero ∷ rest) = Some (Signature, rest)
method_at (suc (suc zero) ∷ rest) = Some (Extension, rest)
method_at (suc (suc (suc b)) ∷ rest) = None

-- a text that takes all the bytes; so, unlike the others here, it returns no bytes after it
unfoldable pub text_at : List ℕ → Option (List ℕ)
text_at bytes = if is_utf8 bytes then Some bytes else None

-- the value, if no bytes are left
unfoldable pub whole : {A : Type 0} → List ℕ → A → Option A
whole [] value = Some value
whole (b ∷ bytes) value = None
