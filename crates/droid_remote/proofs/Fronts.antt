-- The numbers inside a body are those whose bytes stand there.
use Rattle.std.proofs.Common.{◌≡◌, ℕ, ◌+◌, ◌^◌, ◌<◌, ◌≤◌, List, ◌++◌, length, take, drop, refl, sym, ap, ◌∙◌, arith, inl, inr}
use Rattle.std.specs.Int.{w32, w64, from_be_bytes}
use Rattle.std.proofs.lemmas.Bool.{cases_lt}
use Rattle.std.proofs.lemmas.List.{drop-drop, get_or-drop, get_or-take, get_or_past, length-drop, length-take, take-append-drop}
use Rattle.std.proofs.lemmas.Nat.{be_bytes_4, be_bytes_8}
use Rattle.droid_frame.specs.Fields.{IsBytes, IsU32, IsU64, u32_bytes, u64_bytes}
use Rattle.droid_remote.specs.BodyFields.{u32_in, u64_in}

pub drop_bytes : (n : ℕ) (bytes : List ℕ) → IsBytes bytes → IsBytes (drop n bytes)
drop_bytes n bytes are i = rw get_or-drop (are (n + i))

pub take_bytes : (n : ℕ) (bytes : List ℕ) → IsBytes bytes → IsBytes (take n bytes)
take_bytes n bytes are i =
    elim (cases_lt i n) [
      | inl below ↦ rw (get_or-take n bytes i 0 below) (are i)
      | inr past ↦ rw (get_or_past (take n bytes) i 0 (omega (arith, length-take n bytes))) (omega arith)
    ]

-- `size` bytes from an index on
cut_bytes : (size at : ℕ) (body : List ℕ) → IsBytes body → IsBytes (take size (drop at body))
cut_bytes size at body are = take_bytes size (drop at body) (drop_bytes at body are)

cut_size : (size at : ℕ) (body : List ℕ) → at + size ≤ length body → length (take size (drop at body)) ≡ size
cut_size size at body long = omega (arith, length-take size (drop at body), length-drop at body)

cut : (size at : ℕ) (body : List ℕ) → drop at body ≡ take size (drop at body) ++ drop (at + size) body
cut size at body = sym (take-append-drop size (drop at body)) ∙ ap (λ (r : List ℕ). take size (drop at body) ++ r) (drop-drop size at body)

pub u32_front : (at : ℕ) (body : List ℕ) → IsBytes body → at + 4 ≤ length body → drop at body ≡ u32_bytes (u32_in at body) ++ drop (at + 4) body
u32_front at body are long =
    cut 4 at body ∙ ap (λ (front : List ℕ). front ++ drop (at + 4) body) (sym (be_bytes_4 (take 4 (drop at body)) (u32_in at body) (cut_size 4 at body long) (cut_bytes 4 at body are) refl))

pub u64_front : (at : ℕ) (body : List ℕ) → IsBytes body → at + 8 ≤ length body → drop at body ≡ u64_bytes (u64_in at body) ++ drop (at + 8) body
u64_front at body are long =
    cut 8 at body ∙ ap (λ (front : List ℕ). front ++ drop (at + 8) body) (sym (be_bytes_8 (take 8 (drop at body)) (u64_in at body) (cut_size 8 at body long) (cut_bytes 8 at body are) refl))

small_4 : (bytes : List ℕ) → IsBytes bytes → from_be_bytes w32 bytes < 2 ^ 32
small_4 bytes are = omega (arith, are 0, are 1, are 2, are 3)

pub small_8 : (bytes : List ℕ) → IsBytes bytes → from_be_bytes w64 bytes < 2 ^ 64
small_8 bytes are = omega (arith, are 0, are 1, are 2, are 3, are 4, are 5, are 6, are 7)

pub u32_small : (at : ℕ) (body : List ℕ) → IsBytes body → IsU32 (u32_in at body)
u32_small at body are = small_4 (take 4 (drop at body)) (cut_bytes 4 at body are)

pub u64_small : (at : ℕ) (body : List ℕ) → IsBytes body → IsU64 (u64_in at body)
u64_small at body are = small_8 (take 8 (drop at body)) (cut_bytes 8 at body are)
