-- Checksums that were computed side by side.
use Rattle.std.proofs.Common.{◌≡◌, ℕ, ◌-◌, ◌<◌, ◌≤◌, List, [], ◌∷◌, ◌++◌, Option, Some, None, length, drop, take, refl, sym, ap, subst, ◌∙◌, append_assoc, arith}
use Rattle.std.proofs.lemmas.List.{length-append, drop_at}
use Rattle.std.specs.Prelude.{IfSome, slice_index, slice_index_or}
use Rattle.md5.specs.Md5.{md5}
use Rattle.droid_compaction.specs.Sums.{AreSumsIn, IsEndOf, IsSumOf, body_in, kind_in, last_in, request_or_none}
use Rattle.droid_compaction.specs.declared.sums.Sums.{Sums}
use Rattle.droid_journal.specs.declared.records.key.Form.{Form}

pub end_end : (bytes rest more : List ℕ) → IsEndOf bytes rest → IsEndOf rest more → IsEndOf bytes more
end_end bytes rest more one two = (one.0 ++ two.0, one.1 ∙ ap (λ (t : List ℕ). one.0 ++ t) two.1 ∙ sym (append_assoc one.0 two.0 more))

-- an end is the last bytes, as many as it has
pub end_is_last : (bytes rest : List ℕ) (count : ℕ) → IsEndOf bytes rest → length rest ≡ count → last_in bytes count ≡ rest
end_is_last bytes rest count is same =
    let front : length bytes - count ≡ length is.0 = omega (arith, same, ap length is.1, length-append is.0 rest) in
    ap (λ (n : ℕ). drop n bytes) front ∙ ap (λ (t : List ℕ). drop (length is.0) t) is.1 ∙ drop_at is.0 rest (length is.0) refl

-- what is said of all ends of some bytes holds of an end of them
pub sums_on : (form : Form) (bytes rest : List ℕ) (sums : Sums) → AreSumsIn form bytes sums → IsEndOf bytes rest → AreSumsIn form rest sums
sums_on form bytes rest sums are is = λ lane few more its left. are lane few more (end_end bytes rest more is its) left

-- the bytes of which a lane computes the MD5
pub marked_is : (request : List ℕ) → 18 ≤ length request → take 1 (drop 1 request) ++ drop 18 request ≡ slice_index request 1 ∷ drop 18 request
marked_is [] long = absurd (omega (arith, long))
marked_is (a ∷ []) long = absurd (omega (arith, long))
marked_is (a ∷ b ∷ rest) long = refl

sum_is : (form : Form) (rest : List ℕ) → IsSumOf form rest (md5 (kind_in form rest ++ body_in form rest))
sum_is form rest = λ request there long.
    ap (λ (r : Option (List ℕ)). md5 (take 1 (drop 1 (request_or_none r)) ++ drop 18 (request_or_none r))) there ∙ ap md5 (marked_is request long)

-- what eight lanes computed are the checksums
pub sums_are : (form : Form) (bytes : List ℕ) (left : List ℕ) (digests : List (List ℕ)) → ((lane : ℕ) → lane < 8 → slice_index_or digests lane [] ≡ md5 (kind_in form (last_in bytes (slice_index left lane)) ++ body_in form (last_in bytes (slice_index left lane))))
    → AreSumsIn form bytes (record { left = left; digests = digests })
sums_are form bytes left digests computed = λ lane below rest is there.
    subst (IsSumOf form rest) (sym (computed lane below ∙ ap (λ (t : List ℕ). md5 (kind_in form t ++ body_in form t)) (end_is_last bytes rest (slice_index left lane) is there))) (sum_is form rest)

-- what is known of the request at the front
pub sum_at : (form : Form) (bytes : List ℕ) (sums : Sums) (sum : Option (List ℕ)) → AreSumsIn form bytes sums → IfSome sum (λ it. (lane : ℕ) × (lane < 8) × (slice_index sums.left lane ≡ length bytes) × (it ≡ slice_index_or sums.digests lane []))
    → IfSome sum (λ it. IsSumOf form bytes it)
sum_at form bytes sums None are it = tt
sum_at form bytes sums (Some s) are it = subst (IsSumOf form bytes) (sym it.3) (are it.0 it.1 bytes ([], refl) (sym it.2))
