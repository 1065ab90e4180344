-- A text that is escaped is read as what is shown of it.
use Rattle.std.proofs.Common.{◌≡◌, ◌∙◌, ◌==◌, ◌+◌, ◌/◌, ◌%◌, ◌<◌, ℕ, zero, suc, nat_lt, Bool, true, false, cond, List, [], ◌∷◌, ◌++◌, append_assoc, append-nil, codes, refl, sym, ap, subst, arith}
use Rattle.std.proofs.lemmas.Bool.{cond_both, eqb-true, ne_eqb}
use Rattle.std.proofs.lemmas.Bool.Decides.{nat_tests}
use Rattle.std.specs.Fmt.{decimal, digits, digits_onto, digit_glyph}
use Rattle.droid_report.specs.Escapes.{escape, escaped, pictured, shown}
use Rattle.droid_report.specs.Readers.{Token}

-- a place where texts stand, by what comes of a text that was read there so far and of the bytes after it: all bytes but
-- the four stand for themselves, and the references for those
pub record TakesText (K : List ℕ → List ℕ → List Token) : Type 0 where
  pub plain : (seen rest : List ℕ) (c : ℕ) → (c == 38) ≡ false → (c == 60) ≡ false → (c == 34) ≡ false → K seen (c ∷ rest) ≡ K (seen ++ c ∷ []) rest
  pub amp : (seen rest : List ℕ) → K seen (codes "&amp;" ++ rest) ≡ K (seen ++ 38 ∷ []) rest
  pub less : (seen rest : List ℕ) → K seen (codes "&lt;" ++ rest) ≡ K (seen ++ 60 ∷ []) rest
  pub greater : (seen rest : List ℕ) → K seen (codes "&gt;" ++ rest) ≡ K (seen ++ 62 ∷ []) rest
  pub quote : (seen rest : List ℕ) → K seen (codes "&quot;" ++ rest) ≡ K (seen ++ 34 ∷ []) rest

module _ (K : List ℕ → List ℕ → List Token) (takes : TakesText K) where
  -- a byte from 61 on that is no reference's stands for itself
  high : (seen rest : List ℕ) (c : ℕ) → 128 < c + 1 → K seen (c ∷ rest) ≡ K (seen ++ c ∷ []) rest
  high seen rest c h = takes.plain seen rest c (ne_eqb c 38 (λ e. absurd (omega arith))) (ne_eqb c 60 (λ e. absurd (omega arith))) (ne_eqb c 34 (λ e. absurd (omega arith)))

  three : (seen rest : List ℕ) (a b c : ℕ) → 128 < a + 1 → 128 < b + 1 → 128 < c + 1 → K seen (a ∷ b ∷ c ∷ rest) ≡ K (seen ++ a ∷ b ∷ c ∷ []) rest
  three seen rest a b c ha hb hc =
      high seen (b ∷ c ∷ rest) a ha ∙ (high (seen ++ a ∷ []) (c ∷ rest) b hb ∙ (high ((seen ++ a ∷ []) ++ b ∷ []) rest c hc ∙
      ap (λ (s : List ℕ). K s rest) (append_assoc (seen ++ a ∷ []) (b ∷ []) (c ∷ []) ∙ append_assoc seen (a ∷ []) (b ∷ c ∷ []))))

  -- a byte that is none of the four is shown by its picture
  as_picture : (seen rest : List ℕ) (c : ℕ) (control delete : Bool) → nat_lt c 32 ≡ control → (c == 127) ≡ delete
      → (c == 38) ≡ false → (c == 60) ≡ false → (c == 34) ≡ false → K seen (pictured c ++ rest) ≡ K (seen ++ pictured c) rest
  as_picture seen rest c true delete is_control is_delete a l q =
      let goal : Bool → Type 0 = λ b. K seen (cond b (226 ∷ 144 ∷ (128 + c) ∷ []) (cond (c == 127) (226 ∷ 144 ∷ 161 ∷ []) (c ∷ [])) ++ rest)
      ≡ K (seen ++ cond b (226 ∷ 144 ∷ (128 + c) ∷ []) (cond (c == 127) (226 ∷ 144 ∷ 161 ∷ []) (c ∷ []))) rest in
      subst goal (sym is_control) (three seen rest 226 144 (128 + c) (omega arith) (omega arith) (omega arith))
  as_picture seen rest c false true is_control is_delete a l q =
      let goal : Bool → Bool → Type 0 = λ b d. K seen (cond b (226 ∷ 144 ∷ (128 + c) ∷ []) (cond d (226 ∷ 144 ∷ 161 ∷ []) (c ∷ [])) ++ rest)
      ≡ K (seen ++ cond b (226 ∷ 144 ∷ (128 + c) ∷ []) (cond d (226 ∷ 144 ∷ 161 ∷ []) (c ∷ []))) rest in
      subst (λ b. goal b (c == 127)) (sym is_control) (subst (goal false) (sym is_delete) (three seen rest 226 144 161 (omega arith) (omega arith) (omega arith)))
  as_picture seen rest c false false is_control is_delete a l q =
      let goal : Bool → Bool → Type 0 = λ b d. K seen (cond b (226 ∷ 144 ∷ (128 + c) ∷ []) (cond d (226 ∷ 144 ∷ 161 ∷ []) (c ∷ [])) ++ rest)
      ≡ K (seen ++ cond b (226 ∷ 144 ∷ (128 + c) ∷ []) (cond d (226 ∷ 144 ∷ 161 ∷ []) (c ∷ []))) rest in
      subst (λ b. goal b (c == 127)) (sym is_control) (subst (goal false) (sym is_delete) (takes.plain seen rest c a l q))

  abbrev Byte : ℕ → Type 0
  Byte c = (seen rest : List ℕ) → K seen (escaped c ++ rest) ≡ K (seen ++ pictured c) rest

  byte_by : (c : ℕ) (amp less greater quote : Bool) → (c == 38) ≡ amp → (c == 60) ≡ less → (c == 62) ≡ greater → (c == 34) ≡ quote → Byte c
  byte_by c true less greater quote a l g q = subst Byte (sym (eqb-true c 38 a)) takes.amp
  byte_by c false true greater quote a l g q = subst Byte (sym (eqb-true c 60 l)) takes.less
  byte_by c false false true quote a l g q = subst Byte (sym (eqb-true c 62 g)) takes.greater
  byte_by c false false false true a l g q = subst Byte (sym (eqb-true c 34 q)) takes.quote
  byte_by c false false false false a l g q = λ seen rest.
      let text : Bool → Bool → Bool → Bool → List ℕ = λ w x y z. cond w (codes "&amp;") (cond x (codes "&lt;") (cond y (codes "&gt;") (cond z (codes "&quot;") (pictured c)))) in
      ap (λ (w : Bool). K seen (text w (c == 60) (c == 62) (c == 34) ++ rest)) a
      ∙ (ap (λ (x : Bool). K seen (text false x (c == 62) (c == 34) ++ rest)) l
      ∙ (ap (λ (y : Bool). K seen (text false false y (c == 34) ++ rest)) g
      ∙ (ap (λ (z : Bool). K seen (text false false false z ++ rest)) q
      ∙ as_picture seen rest c (nat_lt c 32) (c == 127) refl refl a l q)))

  pub text_taken : (text seen rest : List ℕ) → K seen (escape text ++ rest) ≡ K (seen ++ shown text) rest
  text_taken [] seen rest = ap (λ (s : List ℕ). K s rest) (sym (append-nil seen))
  text_taken (c ∷ text) seen rest =
      ap (K seen) (append_assoc (escaped c) (escape text) rest)
      ∙ (byte_by c (c == 38) (c == 60) (c == 62) (c == 34) refl refl refl refl seen (escape text ++ rest)
      ∙ (text_taken text (seen ++ pictured c) rest
      ∙ ap (λ (s : List ℕ). K s rest) (append_assoc seen (pictured c) (shown text))))

  -- ---- numbers

  digit_taken : (seen rest : List ℕ) (d : ℕ) → d < 10 → K seen (digit_glyph false d ∷ rest) ≡ K (seen ++ digit_glyph false d ∷ []) rest
  digit_taken seen rest d h =
      let is : 48 + d ≡ digit_glyph false d = grind (arith, nat_tests) in
      subst (λ (c : ℕ). K seen (c ∷ rest) ≡ K (seen ++ c ∷ []) rest) is
      (takes.plain seen rest (48 + d) (ne_eqb (48 + d) 38 (λ e. absurd (omega arith))) (ne_eqb (48 + d) 60 (λ e. absurd (omega arith))) (ne_eqb (48 + d) 34 (λ e. absurd (omega arith))))

  abbrev Taken : List ℕ → Type 0
  Taken text = (seen rest : List ℕ) → K seen (text ++ rest) ≡ K (seen ++ text) rest

  digits_taken : (k n : ℕ) (acc : List ℕ) → Taken acc → Taken (digits_onto k 10 false n acc)
  digits_taken zero n acc h = h
  digits_taken (suc k) n acc h =
      let d : List ℕ = digit_glyph false (n % 10) ∷ [] in
      let next : Taken (digit_glyph false (n % 10) ∷ acc) = λ seen rest.
      digit_taken seen (acc ++ rest) (n % 10) (omega arith) ∙ (h (seen ++ d) rest ∙ ap (λ (s : List ℕ). K s rest) (append_assoc seen d acc)) in
      cond_both (n / 10 == 0) (digit_glyph false (n % 10) ∷ acc) (digits_onto k 10 false (n / 10) (digit_glyph false (n % 10) ∷ acc)) Taken
      (λ _. next) (λ _. digits_taken k (n / 10) (digit_glyph false (n % 10) ∷ acc) next)

  pub number_taken : (n : ℕ) (seen rest : List ℕ) → K seen (decimal n ++ rest) ≡ K (seen ++ decimal n) rest
  unfolding digits
  number_taken n = digits_taken 64 n [] (λ seen rest. ap (λ (s : List ℕ). K s rest) (sym (append-nil seen)))
