-- A text with percent signs, part by part.
use Rattle.std.proofs.Common.{◌≡◌, ◌∙◌, ℕ, Bool, true, false, List, [], ◌∷◌, ◌++◌, map, refl, ap, sym, append-nil, append_assoc, Bor}
use Rattle.std.proofs.lemmas.List.{flat_map_more, map-append}
use Rattle.droid_fixity.specs.Spellings.{behind_percent, decoded_parts}

-- whether there is no part so far
abbrev pub is_none : List (Bor (List ℕ)) → Bool
is_none [] = true
is_none (part ∷ parts) = false

abbrev pub texts : List (Bor (List ℕ)) → List (List ℕ)
texts parts = map (λ part. part.now) parts

parts_more : (first : List ℕ) (parts : List (List ℕ)) (part : List ℕ) → decoded_parts (first ∷ (parts ++ part ∷ [])) ≡ decoded_parts (first ∷ parts) ++ behind_percent part
parts_more first parts part = sym (flat_map_more behind_percent first parts part)

pub none_after : (parts : List (Bor (List ℕ))) (part : Bor (List ℕ)) → is_none (parts ++ part ∷ []) ≡ false
none_after [] part = refl
none_after (first ∷ parts) part = refl

pub first_part : (parts : List (Bor (List ℕ))) (part : Bor (List ℕ)) (front path after : List ℕ) → is_none parts ≡ true → path ≡ front ++ decoded_parts (texts parts)
    → after ≡ path ++ part.now → after ≡ front ++ decoded_parts (texts (parts ++ part ∷ []))
first_part [] part front path after none is added =
    added ∙ (ap (λ (p : List ℕ). p ++ part.now) (is ∙ append-nil front) ∙ ap (λ (p : List ℕ). front ++ p) (sym (append-nil part.now)))
first_part (first ∷ parts) part front path after none is added = absurd cc

pub next_part : (parts : List (Bor (List ℕ))) (part : Bor (List ℕ)) (front path after : List ℕ) → is_none parts ≡ false → path ≡ front ++ decoded_parts (texts parts)
    → after ≡ path ++ behind_percent part.now → after ≡ front ++ decoded_parts (texts (parts ++ part ∷ []))
next_part [] part front path after none is added = absurd cc
next_part (first ∷ parts) part front path after none is added =
    let whole : decoded_parts (texts ((first ∷ parts) ++ part ∷ [])) ≡ decoded_parts (texts (first ∷ parts)) ++ behind_percent part.now =
    ap decoded_parts (map-append (λ (p : Bor (List ℕ)). p.now) (first ∷ parts) (part ∷ [])) ∙ parts_more first.now (texts parts) part.now in
    added ∙ (ap (λ (p : List ℕ). p ++ behind_percent part.now) is
    ∙ (append_assoc front (decoded_parts (texts (first ∷ parts))) (behind_percent part.now) ∙ ap (λ (p : List ℕ). front ++ p) (sym whole)))
