-- Lists of bytes as big-endian numbers.
use Rattle.std.proofs.Common.{◌≡◌, ℕ, zero, suc, ◌+◌, ◌*◌, ◌<◌, ◌≤◌, List, [], ◌∷◌, length, refl, arith}
use Rattle.droid_signature_file.specs.Terms.{AreBytes, number_after}

-- of two lists of one length, the one that begins with less is less
pub less_after : (xs ys : List ℕ) (a b : ℕ) → length xs ≡ length ys → AreBytes xs → a < b → number_after a xs < number_after b ys
less_after [] [] a b same bytes less = less
less_after [] (y ∷ ys) a b same bytes less = absurd (omega arith)
less_after (x ∷ xs) [] a b same bytes less = absurd (omega arith)
less_after (x ∷ xs) (y ∷ ys) a b same bytes less =
    let small : x < 256 = bytes.0 in
    less_after xs ys (256 * a + x) (256 * b + y) (omega arith) bytes.1 (omega arith)
