-- The fields in the bytes of a frame.
use Rattle.std.proofs.Common.{◌≡◌, ℕ, ◌+◌, ◌*◌, ◌<◌, ◌≤◌, ◌^◌, ◌==◌, Bool, true, false, cond, nat_lt, List, ◌++◌, length, drop, refl, sym, ap, ◌∙◌, arith}
use Rattle.std.proofs.lemmas.Bool.{eq-eqb, eqb-true, le-ltb}
use Rattle.std.proofs.lemmas.Nat.{from_be_bytes-to_be_bytes_4, from_be_bytes-to_be_bytes_8}
use Rattle.std.specs.Prelude.{slice_index}
use Rattle.droid_frame.specs.Fields.{IsU32, u32_bytes}
use Rattle.droid_frame.specs.Frames.{frame_bytes}
use Rattle.droid_frame.specs.Streams.{IsFrame}
use Rattle.droid_frame.specs.declared.frame.Frame.{Frame}
use Rattle.droid_compaction.specs.Fields.{client_at, file_in, is_about, number_at, stamp_in}
use Rattle.droid_recovery.specs.SmallerFiles.{file_number}

pub stamp_is : (frame : Frame) → IsFrame frame → stamp_in (frame_bytes frame) ≡ frame.client * 18446744073709551616 + frame.number
stamp_is frame is =
    let client = from_be_bytes-to_be_bytes_4 frame.client is.client_fits in
    let number = from_be_bytes-to_be_bytes_8 frame.number is.number_fits in
    ap (λ (c : ℕ). c * 18446744073709551616 + number_at (drop 6 (frame_bytes frame))) client ∙ ap (λ (n : ℕ). frame.client * 18446744073709551616 + n) number

joined : (profile file : ℕ) (rest : List ℕ) → IsU32 profile → IsU32 file → number_at (u32_bytes profile ++ (u32_bytes file ++ rest)) ≡ file_number profile file
joined profile file rest one other = omega (arith, from_be_bytes-to_be_bytes_4 profile one, from_be_bytes-to_be_bytes_4 file other)

pub file_is : (frame : Frame) (profile file : ℕ) (rest : List ℕ) → frame.body ≡ u32_bytes profile ++ (u32_bytes file ++ rest) → IsU32 profile → IsU32 file → file_in (frame_bytes frame) ≡ file_number profile file
file_is frame profile file rest body one other = ap number_at body ∙ joined profile file rest one other

-- ---- whether a request is of a kind

guarded : (a b c d : Bool) → d ≡ false → cond a false (cond b false (cond c false d)) ≡ false
guarded true b c d isnt = refl
guarded false true c d isnt = refl
guarded false false true d isnt = refl
guarded false false false d isnt = isnt

pub about_not : (kind : ℕ) (request reply : List ℕ) → (slice_index request 1 == kind) ≡ false → is_about kind request reply ≡ false
about_not kind request reply isnt = guarded (nat_lt (length request) 26) (nat_lt 4194386 (length request)) (nat_lt 1048658 (length reply)) (slice_index request 1 == kind) isnt

passed : (a b c d : Bool) → a ≡ false → b ≡ false → c ≡ false → d ≡ true → cond a false (cond b false (cond c false d)) ≡ true
passed a b c d one two three is = rw (one, two, three) is

pub about_is : (kind : ℕ) (request reply : List ℕ) → 26 ≤ length request → length request ≤ 4194386 → length reply ≤ 1048658 → slice_index request 1 ≡ kind → is_about kind request reply ≡ true
about_is kind request reply long within short is =
    passed (nat_lt (length request) 26) (nat_lt 4194386 (length request)) (nat_lt 1048658 (length reply)) (slice_index request 1 == kind) (le-ltb (length request) 26 long) (le-ltb 4194386 (length request) within) (le-ltb 1048658 (length reply) short)
    (eq-eqb (slice_index request 1) kind is)

when_true : (a b c d : Bool) → cond a false (cond b false (cond c false d)) ≡ true → d ≡ true
when_true true b c d is = absurd cc
when_true false true c d is = absurd cc
when_true false false true d is = absurd cc
when_true false false false d is = is

pub about_kind : (kind : ℕ) (request reply : List ℕ) → is_about kind request reply ≡ true → slice_index request 1 ≡ kind
about_kind kind request reply is = eqb-true (slice_index request 1) kind (when_true (nat_lt (length request) 26) (nat_lt 4194386 (length request)) (nat_lt 1048658 (length reply)) (slice_index request 1 == kind) is)
