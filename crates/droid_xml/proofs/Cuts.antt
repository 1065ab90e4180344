-- Loops that look for a mark.
use Rattle.std.proofs.Common.{◌≡◌, ℕ, ◌+◌, ◌<◌, List, [], ◌∷◌, ◌++◌, length, take, drop, get_or, Option, Some, None, refl, sym, ap, ◌∙◌, append_assoc, drop-cons, add-one}
use Rattle.std.proofs.lemmas.List.{append-nil, take_more}
use Rattle.droid_xml.specs.Bytes.{after, behind, choose, cut_at}

-- a cut of what follows these bytes, as one of the whole
abbrev pub put_before : List ℕ → Option (List ℕ × List ℕ) → Option (List ℕ × List ℕ)
put_before front None = None
put_before front (Some cut) = Some (front ++ cut.0, cut.1)

put_nothing : (cut : Option (List ℕ × List ℕ)) → put_before [] cut ≡ cut
put_nothing None = refl
put_nothing (Some cut) = refl

put_behind : (front : List ℕ) (b : ℕ) (cut : Option (List ℕ × List ℕ)) → put_before front (behind b cut) ≡ put_before (front ++ b ∷ []) cut
put_behind front b None = refl
put_behind front b (Some cut) = ap (λ xs. Some (xs, cut.1)) (sym (append_assoc front (b ∷ []) cut.0))

pub cut_begins : (mark text : List ℕ) → put_before (take 0 text) (cut_at mark (drop 0 text)) ≡ cut_at mark text
cut_begins mark text = put_nothing (cut_at mark text)

unmarked : (mark : List ℕ) (b : ℕ) (text : List ℕ) → after mark (b ∷ text) ≡ None → cut_at mark (b ∷ text) ≡ behind b (cut_at mark text)
unfolding cut_at
unmarked mark b text none = ap (λ found. choose found (λ rest. Some ([], rest)) (behind b (cut_at mark text))) none

marked : (mark : List ℕ) (b : ℕ) (text rest : List ℕ) → after mark (b ∷ text) ≡ Some rest → cut_at mark (b ∷ text) ≡ Some ([], rest)
unfolding cut_at
marked mark b text rest some = ap (λ found. choose found (λ rest. Some ([], rest)) (behind b (cut_at mark text))) some

nothing : (mark : List ℕ) → cut_at mark [] ≡ None
unfolding cut_at
nothing mark = refl

-- the mark doesn't begin here
pub cut_goes_on : (mark text : List ℕ) (place : ℕ) → place < length text → after mark (drop place text) ≡ None → put_before (take place text) (cut_at mark (drop place text)) ≡ cut_at mark text → put_before (take (place + 1) text) (cut_at mark (drop (place + 1) text)) ≡ cut_at mark text
cut_goes_on mark text place inside none so_far =
    let cell : drop place text ≡ get_or text place 0 ∷ drop (place + 1) text = rw (add-one, drop-cons text place 0) refl in
    ap (λ front. put_before front (cut_at mark (drop (place + 1) text))) (take_more text place 0 inside)
    ∙ (sym (put_behind (take place text) (get_or text place 0) (cut_at mark (drop (place + 1) text)))
    ∙ (ap (put_before (take place text)) (sym (unmarked mark (get_or text place 0) (drop (place + 1) text) (sym (ap (after mark) cell) ∙ none)))
    ∙ (ap (λ rest. put_before (take place text) (cut_at mark rest)) (sym cell) ∙ so_far)))

-- the mark begins here
pub cut_found : (mark text rest : List ℕ) (place : ℕ) → place < length text → after mark (drop place text) ≡ Some rest → put_before (take place text) (cut_at mark (drop place text)) ≡ cut_at mark text → Some (take place text, rest) ≡ cut_at mark text
cut_found mark text rest place inside some so_far =
    let cell : drop place text ≡ get_or text place 0 ∷ drop (place + 1) text = rw (add-one, drop-cons text place 0) refl in
    ap (λ front. Some (front, rest)) (sym (append-nil (take place text)))
    ∙ (ap (put_before (take place text)) (sym (ap (cut_at mark) cell ∙ marked mark (get_or text place 0) (drop (place + 1) text) rest (sym (ap (after mark) cell) ∙ some))) ∙ so_far)

-- the mark begins nowhere
pub cut_nowhere : (mark text : List ℕ) (place : ℕ) → drop place text ≡ [] → put_before (take place text) (cut_at mark (drop place text)) ≡ cut_at mark text → None ≡ cut_at mark text
cut_nowhere mark text place past so_far = ap (put_before (take place text)) (sym (ap (cut_at mark) past ∙ nothing mark)) ∙ so_far
