-- A header, and the file that it was made for.
use Rattle.std.proofs.Common.{◌≡◌, ◌⊎◌, ℕ, ◌+◌, ◌≤◌, ◌<◌, List, [], ◌++◌, length, take, drop, refl, sym, ap, ◌∙◌, append_assoc, arith, inl, inr}
use Rattle.std.proofs.lemmas.List.{append-nil, drop_all, drop_at, length-append, length-drop, length-take, take-append-drop, take_all}
use Rattle.droid_journal.specs.Opening.{HasHeader, IsBegun}
use Rattle.droid_journal.specs.Fronts.{IsFront}

module _ (fixed s fresh header : List ℕ) (full : length fresh ≡ 16) (is : header ≡ fixed ++ (take 16 (drop (length fixed) s) ++ drop (length (take 16 (drop (length fixed) s))) fresh)) where
  abbrev found : List ℕ
  found = take 16 (drop (length fixed) s)

  pub header_size : length header ≡ length fixed + 16
  header_size =
      omega (arith, ap length is, full, length-append fixed (found ++ drop (length found) fresh), length-append found (drop (length found) fresh), length-drop (length found) fresh, length-take 16 (drop (length fixed) s))

  -- what the file has behind the text
  behind : (front : IsFront fixed s) → drop (length fixed) s ≡ front.0
  behind front = ap (λ (t : List ℕ). drop (length fixed) t) front.1 ∙ drop_at fixed front.0 (length fixed) refl

  pub whole_header : length fixed + 16 ≤ length s → HasHeader fixed s → HasHeader header s
  whole_header long front =
      let rest : List ℕ = front.0 in
      let more : 16 ≤ length rest = omega (arith, long, ap length front.1, length-append fixed rest) in
      let all : found ≡ take 16 rest = ap (λ (t : List ℕ). take 16 t) (behind front) in
      let none : drop (length found) fresh ≡ [] = drop_all (length found) fresh (omega (arith, full, ap length all, more, length-take 16 rest)) in
      let short : header ≡ fixed ++ take 16 rest = is ∙ ap (λ (t : List ℕ). fixed ++ (found ++ t)) none ∙ ap (λ (t : List ℕ). fixed ++ t) (append-nil found ∙ all) in (
        drop 16 rest,
        front.1 ∙ ap (λ (t : List ℕ). fixed ++ t) (sym (take-append-drop 16 rest)) ∙ sym (append_assoc fixed (take 16 rest) (drop 16 rest)) ∙ ap (λ (t : List ℕ). t ++ drop 16 rest) (sym short),
      )

  begun_front : length s < length fixed + 16 → IsFront s fixed ⊎ IsFront fixed s → IsFront s header
  begun_front short (inl front) = (
    front.0 ++ (found ++ drop (length found) fresh),
    is ∙ ap (λ (t : List ℕ). t ++ (found ++ drop (length found) fresh)) front.1 ∙ append_assoc s front.0 (found ++ drop (length found) fresh),
  )
  begun_front short (inr front) =
      let rest : List ℕ = front.0 in
      let few : length rest ≤ 16 = omega (arith, short, ap length front.1, length-append fixed rest) in
      let all : found ≡ rest = ap (λ (t : List ℕ). take 16 t) (behind front) ∙ take_all 16 rest few in
      let end : List ℕ = drop (length found) fresh in (
        end,
        is ∙ ap (λ (t : List ℕ). fixed ++ (t ++ end)) all ∙ sym (append_assoc fixed rest end) ∙ ap (λ (t : List ℕ). t ++ end) (sym front.1),
      )

  pub begun_header : length s < length fixed + 16 → IsFront s fixed ⊎ IsFront fixed s → IsBegun header s (length s)
  begun_header short fronts = record { front = begun_front short fronts; size = refl; short = omega (arith, short, header_size) }
