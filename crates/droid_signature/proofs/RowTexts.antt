-- A row of six fields.
use Rattle.std.proofs.Common.{◌≡◌, Bool, true, false, ℕ, List, [], ◌∷◌, ◌++◌, refl, sym, ap, ◌∙◌, append_assoc}
use Rattle.std.specs.Prelude.{◌==◌, ◌&&◌, not, if◌then◌else◌}
use Rattle.std.specs.List.{flat_map, list_all}
use Rattle.std.proofs.lemmas.Bool.{false≢true}
use Rattle.droid_signature.specs.Csv.{doubled, joined, line, quoted}

pub quoted_joined : (text field : List ℕ) → ((text ++ 34 ∷ []) ++ flat_map doubled field) ++ 34 ∷ [] ≡ text ++ quoted field
unfolding quoted
quoted_joined text field = simp append_assoc

-- bytes without a double quote
plain_byte : (t : Bool) (b : ℕ) → (b == 34) ≡ t → not t ≡ true → doubled b ≡ b ∷ []
plain_byte true b test plain = absurd (false≢true plain)
plain_byte false b test plain = ap (λ t. if t then 34 ∷ 34 ∷ [] else b ∷ []) test

both_true : (a b : Bool) → (a && b) ≡ true → (a ≡ true) × (b ≡ true)
both_true true b e = (refl, e)
both_true false b e = absurd (false≢true e)

pub plain_doubled : (field : List ℕ) → list_all (λ c. not (c == 34)) field ≡ true → flat_map doubled field ≡ field
plain_doubled [] plain = refl
plain_doubled (b ∷ field) plain =
    let (here, more) = both_true (not (b == 34)) (list_all (λ c. not (c == 34)) field) plain in
    ap (λ l. l ++ flat_map doubled field) (plain_byte (b == 34) b refl here) ∙ ap (λ l. b ∷ l) (plain_doubled field more)

-- fields behind a field, and the end of the row
abbrev after : List (List ℕ) → List ℕ
after [] = 10 ∷ []
after (field ∷ fields) = 44 ∷ (quoted field ++ after fields)

joined_after : (field : List ℕ) (fields : List (List ℕ)) → joined (field ∷ fields) ++ 10 ∷ [] ≡ quoted field ++ after fields
unfolding joined
joined_after field [] = refl
joined_after field (next ∷ fields) = append_assoc (quoted field) (44 ∷ joined (next ∷ fields)) (10 ∷ []) ∙ ap (λ t. quoted field ++ 44 ∷ t) (joined_after next fields)

pub row_joined : (text a b c d e f : List ℕ)
    → ((((((text ++ quoted a) ++ (44 ∷ quoted b)) ++ (44 ∷ quoted c)) ++ (44 ∷ quoted d)) ++ (44 ∷ quoted e)) ++ (44 ∷ quoted f)) ++ 10 ∷ [] ≡ text ++ line (a ∷ b ∷ c ∷ d ∷ e ∷ f ∷ [])
unfolding line
row_joined text a b c d e f =
    append_assoc (((((text ++ quoted a) ++ (44 ∷ quoted b)) ++ (44 ∷ quoted c)) ++ (44 ∷ quoted d)) ++ (44 ∷ quoted e)) (44 ∷ quoted f) (10 ∷ [])
    ∙ append_assoc ((((text ++ quoted a) ++ (44 ∷ quoted b)) ++ (44 ∷ quoted c)) ++ (44 ∷ quoted d)) (44 ∷ quoted e) (after (f ∷ []))
    ∙ append_assoc (((text ++ quoted a) ++ (44 ∷ quoted b)) ++ (44 ∷ quoted c)) (44 ∷ quoted d) (after (e ∷ f ∷ []))
    ∙ append_assoc ((text ++ quoted a) ++ (44 ∷ quoted b)) (44 ∷ quoted c) (after (d ∷ e ∷ f ∷ []))
    ∙ append_assoc (text ++ quoted a) (44 ∷ quoted b) (after (c ∷ d ∷ e ∷ f ∷ []))
    ∙ append_assoc text (quoted a) (after (b ∷ c ∷ d ∷ e ∷ f ∷ []))
    ∙ ap (λ t. text ++ t) (sym (joined_after a (b ∷ c ∷ d ∷ e ∷ f ∷ [])))
