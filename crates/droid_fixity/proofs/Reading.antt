-- A list of checksums, line by line.
use Rattle.std.proofs.Common.{◌≡◌, ◌∙◌, ◌<◌, ℕ, ◌+◌, List, [], ◌∷◌, ◌++◌, length, map, take, drop, get_or, Result, Ok, Err, refl, sym, ap, arith, append_assoc, Bor}
use Rattle.std.proofs.lemmas.List.{drop_more, length-map, map-append, take-append-drop}
use Rattle.droid_frame.specs.declared.item.Item.{Item}
use Rattle.droid_fixity.specs.Lines.{meaning, without_return}
use Rattle.droid_fixity.specs.Lists.{after, items_from, taken}
use Rattle.droid_fixity.specs.declared.checksum_lists.form.ManifestForm.{ManifestForm}
use Rattle.droid_fixity.specs.declared.checksum_lists.list_fault.ManifestFault.{ManifestFault}
use Rattle.droid_fixity.specs.declared.checksum_lists.line_content.Meaning.{Meaning}

onward : (form : ManifestForm) (number : ℕ) (xs ys : List (List ℕ)) (first : Result (List Item) ManifestFault)
    → ((more : List Item) → items_from form (number + 1) more (xs ++ ys) ≡ after (items_from form (number + 1) more xs) (λ items. items_from form (number + 1 + length xs) items ys))
    → after first (λ more. items_from form (number + 1) more (xs ++ ys))
    ≡ after (after first (λ more. items_from form (number + 1) more xs)) (λ items. items_from form (number + 1 + length xs) items ys)
onward form number xs ys (Ok more) rest = rest more
onward form number xs ys (Err fault) rest = refl

pub items_append : (form : ManifestForm) (number : ℕ) (items : List Item) (xs ys : List (List ℕ))
    → items_from form number items (xs ++ ys) ≡ after (items_from form number items xs) (λ more. items_from form (number + length xs) more ys)
items_append form number items [] ys =
    let same : number ≡ number + 0 = omega arith in
    ap (λ (k : ℕ). items_from form k items ys) same
items_append form number items (x ∷ xs) ys =
    let same : number + 1 + length xs ≡ number + length (x ∷ xs) = omega arith in
    onward form number xs ys (taken number items (meaning form (without_return x))) (λ more. items_append form (number + 1) more xs ys)
    ∙ ap (λ (k : ℕ). after (items_from form number items (x ∷ xs)) (λ more. items_from form k more ys)) same

-- the lines so far and one more
pub line_taken : (form : ManifestForm) (xs : List (List ℕ)) (line : List ℕ) (items more : List Item)
    → items_from form 1 [] xs ≡ Ok items → taken (1 + length xs) items (meaning form (without_return line)) ≡ Ok more → items_from form 1 [] (xs ++ line ∷ []) ≡ Ok more
line_taken form xs line items more front is =
    items_append form 1 [] xs (line ∷ []) ∙ (ap (λ (r : Result (List Item) ManifestFault). after r (λ all. items_from form (1 + length xs) all (line ∷ []))) front
    ∙ ap (λ (r : Result (List Item) ManifestFault). after r (λ all. items_from form (1 + length xs + 1) all [])) is)

-- the lines so far, one more that is at fault, and those after it
pub line_refused : (form : ManifestForm) (xs rest : List (List ℕ)) (line : List ℕ) (items : List Item) (fault : ManifestFault)
    → items_from form 1 [] xs ≡ Ok items → taken (1 + length xs) items (meaning form (without_return line)) ≡ Err fault → items_from form 1 [] (xs ++ line ∷ rest) ≡ Err fault
line_refused form xs rest line items fault front is =
    items_append form 1 [] xs (line ∷ rest) ∙ (ap (λ (r : Result (List Item) ManifestFault). after r (λ all. items_from form (1 + length xs) all (line ∷ rest))) front
    ∙ ap (λ (r : Result (List Item) ManifestFault). after r (λ all. items_from form (1 + length xs + 1) all rest)) is)

-- a list by what is in front of a place, at it and behind it
around : (all : List (List ℕ)) (place : ℕ) (line : List ℕ) → place < length all → line ≡ get_or all place line → all ≡ take place all ++ line ∷ drop (place + 1) all
around all place line below is =
    sym (take-append-drop place all) ∙ ap (λ (rest : List (List ℕ)). take place all ++ rest) (drop_more all place line below ∙ ap (λ (x : List ℕ). x ∷ drop (place + 1) all) (sym is))

-- ---- the loop over the lines

abbrev pub texts : List (Bor (List ℕ)) → List (List ℕ)
texts lines = map (λ line. line.now) lines

-- what the next line makes of the items, by its number
step_is : (form : ManifestForm) (yielded : List (Bor (List ℕ))) (line : List ℕ) (number : ℕ) (items : List Item) (what : Meaning)
    → number ≡ 1 + length yielded → what ≡ meaning form (without_return line) → taken (1 + length (texts yielded)) items (meaning form (without_return line)) ≡ taken number items what
step_is form yielded line number items what count is =
    let same : 1 + length (texts yielded) ≡ number = ap (λ (k : ℕ). 1 + k) (length-map yielded (λ (l : Bor (List ℕ)). l.now)) ∙ sym count in
    ap (λ (k : ℕ). taken k items (meaning form (without_return line))) same ∙ ap (taken number items) (sym is)

pub next_line : (form : ManifestForm) (yielded : List (Bor (List ℕ))) (line : Bor (List ℕ)) (number : ℕ) (items more : List Item) (what : Meaning)
    → items_from form 1 [] (texts yielded) ≡ Ok items → number ≡ 1 + length yielded → what ≡ meaning form (without_return line.now) → taken number items what ≡ Ok more
    → items_from form 1 [] (texts (yielded ++ line ∷ [])) ≡ Ok more
next_line form yielded line number items more what front count is step =
    ap (items_from form 1 []) (map-append (λ (l : Bor (List ℕ)). l.now) yielded (line ∷ []))
    ∙ line_taken form (texts yielded) line.now items more front (step_is form yielded line.now number items what count is ∙ step)

pub wrong_line : (form : ManifestForm) (all : List (List ℕ)) (yielded : List (Bor (List ℕ))) (line : Bor (List ℕ)) (number : ℕ) (items : List Item) (fault : ManifestFault) (what : Meaning)
    → texts yielded ≡ take (length yielded) all → length yielded < length all → line.now ≡ get_or all (length yielded) line.now
    → items_from form 1 [] (texts yielded) ≡ Ok items → number ≡ 1 + length yielded → what ≡ meaning form (without_return line.now) → taken number items what ≡ Err fault
    → items_from form 1 [] all ≡ Err fault
wrong_line form all yielded line number items fault what so_far below here front count is step =
    let rest = drop (length yielded + 1) all in
    ap (items_from form 1 []) (around all (length yielded) line.now below here)
    ∙ (ap (λ (l : List (List ℕ)). items_from form 1 [] (l ++ line.now ∷ rest)) (sym so_far)
    ∙ line_refused form (texts yielded) rest line.now items fault front (step_is form yielded line.now number items what count is ∙ step))
