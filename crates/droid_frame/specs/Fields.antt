-- The fields of frames and bodies, and the bytes of each (this project's own).
use Rattle.std.specs.Prelude.{ℕ, ℤ, ◌<◌, ◌^◌, Bool, true, false, List, [], ◌∷◌, FitsSigned, slice_index}
use Rattle.std.specs.Int.{w16, w32, w64, to_be_bytes, cast_unsigned}
use Rattle.droid_frame.specs.declared.method.Method.{Method}
use Rattle.droid_frame.specs.declared.method.Method.TheVariants.{Unidentified, Signature, Extension}

-- each item is a byte
abbrev pub IsBytes : List ℕ → Type 0
IsBytes bytes = (i : ℕ) → slice_index bytes i < 256

-- a number of two bytes, big-endian
abbrev pub u16_bytes : ℕ → List ℕ
u16_bytes n = to_be_bytes w16 n

-- a number of four bytes, big-endian
abbrev pub u32_bytes : ℕ → List ℕ
u32_bytes n = to_be_bytes w32 n

-- a number of eight bytes, big-endian
abbrev pub u64_bytes : ℕ → List ℕ
u64_bytes n = to_be_bytes w64 n

-- a signed number of eight bytes, in two's complement, big-endian
abbrev pub i64_bytes : ℤ → List ℕ
i64_bytes z = to_be_bytes w64 (cast_unsigned w64 z)

-- a truth value is one byte, 0 or 1
abbrev pub truth_bytes : Bool → List ℕ
truth_bytes false = 0 ∷ []
truth_bytes true = 1 ∷ []

-- a method is one byte, 0 to 2
abbrev pub method_number : Method → ℕ
method_number Unidentified = 0
method_number Signature = 1
method_number Extension = 2

-- the byte of a method
abbrev pub method_bytes : Method → List ℕ
method_bytes method = method_number method ∷ []

-- the number fits an unsigned field of four bytes
abbrev pub IsU32 : ℕ → Type 0
IsU32 n = n < 2 ^ 32

-- the number fits an unsigned field of eight bytes
abbrev pub IsU64 : ℕ → Type 0
IsU64 n = n < 2 ^ 64

-- the number fits a signed field of eight bytes
abbrev pub IsI64 : ℤ → Type 0
IsI64 z = FitsSigned w64 z
