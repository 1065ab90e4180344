-- One more byte sequence of a way.
use Rattle.std.proofs.Common.{◌≡◌, ◌∙◌, ℕ, ◌+◌, ◌*◌, ◌/◌, ◌%◌, ◌<◌, ◌≤◌, List, ◌∷◌, ◌++◌, length, drop, get_or, sym, ap, subst, append_assoc, arith}
use Rattle.std.specs.Prelude.{codes, min}
use Rattle.std.specs.List.{flat_map}
use Rattle.droid_signature.specs.Csv.{line}
use Rattle.droid_pronom.proofs.Flags.{rest_of_item}
use Rattle.droid_signature_pattern.specs.Choices.{ways}
use Rattle.droid_signature_pattern.specs.declared.choices.Choices.{Choices}
use Rattle.droid_signature.specs.Combinations.{further_fields, pick, pick_fields, pick_rows, picks}
use Rattle.droid_signature.proofs.Counting.{factors, quotient_below, quotient_is, remainder_below, rest_small}

-- the size of a block, and the place and the rest of a number
pub record Turn (rest : List Choices) (i : ℕ) (x : Choices) (size len left : ℕ) : Type 0 where
  pub some : 0 < len
  pub quotient : size / len ≡ ways (drop (i + 1) rest)
  pub place : left / (size / len) < length x.texts
  pub below : left % (size / len) < size / len

pub turn : (rest : List Choices) (i : ℕ) (x : Choices) (size len left : ℕ) → i < length rest → x ≡ get_or rest i x → size ≡ ways (drop i rest) → len ≡ length x.texts → left < size → Turn rest i x size len left
turn rest i x size len left inside is sized long below =
    let w = ways (drop (i + 1) rest) in
    let product : size ≡ length x.texts * w = sized ∙ ap ways (rest_of_item rest i x inside is) in
    let less = subst (λ s. left < s) product below in
    let both = factors (length x.texts) w left less in
    let quotient : size / len ≡ w = ap (λ s. s / len) product ∙ ap (λ k. (length x.texts * w) / k) long ∙ quotient_is (length x.texts) w both.0 in
    record {
      some = subst (λ k. 0 < k) (sym long) both.0;
      quotient = quotient;
      place = subst (λ d. left / d < length x.texts) (sym quotient) (quotient_below (length x.texts) w left less);
      below = subst (λ d. left % d < d) (sym quotient) (remainder_below (length x.texts) w left less);
    }

pub written_turn : (puid : List ℕ) (rest : List Choices) (i : ℕ) (x : Choices) (block left : ℕ) (text new whole : List ℕ) → i < length rest → x ≡ get_or rest i x → block ≡ ways (drop (i + 1) rest)
    → new ≡ text ++ line (pick_fields (codes "B") puid (pick x (left / block))) → text ++ flat_map line (further_fields puid (picks (drop i rest) left)) ≡ whole
    → new ++ flat_map line (further_fields puid (picks (drop (i + 1) rest) (left % block))) ≡ whole
written_turn puid rest i x block left text new whole inside is sized grown so_far =
    let more = drop (i + 1) rest in
    ap (λ t. t ++ flat_map line (further_fields puid (picks more (left % block)))) grown
    ∙ append_assoc text (line (pick_fields (codes "B") puid (pick x (left / block)))) (flat_map line (further_fields puid (picks more (left % block))))
    ∙ ap (λ b. text ++ (line (pick_fields (codes "B") puid (pick x (left / b))) ++ flat_map line (further_fields puid (picks more (left % b))))) sized
    ∙ ap (λ l. text ++ flat_map line (further_fields puid (picks l left))) (sym (rest_of_item rest i x inside is))
    ∙ so_far

-- the first byte sequence of a way
pub record First (all : List Choices) (first : Choices) (rest : List Choices) (block number : ℕ) : Type 0 where
  pub size : block ≡ ways rest
  pub some : 0 < block
  pub place : number / block < length first.texts
  pub below : number % block < block

pub first_of : (all : List Choices) (first : Choices) (rest : List Choices) (block number : ℕ) → all ≡ first ∷ rest → ways all ≤ 64 → number < ways all → block ≡ min (ways rest) 18446744073709551615 → First all first rest block number
first_of all first rest block number is few below made =
    let whole : ways all ≡ length first.texts * ways rest = ap ways is in
    let less = subst (λ n. number < n) whole below in
    let both = factors (length first.texts) (ways rest) number less in
    let small = rest_small (length first.texts) (ways rest) 64 both.0 (subst (λ n. n ≤ 64) whole few) in
    let size : block ≡ ways rest = omega arith in
    record {
      size = size;
      some = subst (λ n. 0 < n) (sym size) both.1;
      place = subst (λ n. number / n < length first.texts) (sym size) (quotient_below (length first.texts) (ways rest) number less);
      below = subst (λ n. number % n < n) (sym size) (remainder_below (length first.texts) (ways rest) number less);
    }

pub written_first : (puid : List ℕ) (all : List Choices) (first : Choices) (rest : List Choices) (block number : ℕ) (text one new : List ℕ) → all ≡ first ∷ rest → block ≡ ways rest
    → one ≡ text ++ line (pick_fields (codes "S") puid (pick first (number / block))) → new ≡ one ++ flat_map line (further_fields puid (picks rest (number % block)))
    → new ≡ text ++ flat_map line (pick_rows puid (picks all number))
written_first puid all first rest block number text one new is sized begun grown =
    grown
    ∙ ap (λ t. t ++ flat_map line (further_fields puid (picks rest (number % block)))) begun
    ∙ append_assoc text (line (pick_fields (codes "S") puid (pick first (number / block)))) (flat_map line (further_fields puid (picks rest (number % block))))
    ∙ ap (λ b. text ++ (line (pick_fields (codes "S") puid (pick first (number / b))) ++ flat_map line (further_fields puid (picks rest (number % b))))) sized
    ∙ ap (λ l. text ++ flat_map line (pick_rows puid (picks l number))) (sym is)
