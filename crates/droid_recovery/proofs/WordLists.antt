-- Texts that are words, place by place.
use Rattle.std.proofs.Common.{◌≡◌, ◌≢◌, ℕ, ◌+◌, ◌<◌, ◌==◌, ◌||◌, ◌&&◌, List, [], ◌∷◌, length, drop, get_or, not, true, false, Bool, refl, sym, ap, ap₂, ◌∙◌, arith}
use Rattle.std.proofs.lemmas.Bool.{and_parts, eqb-false, ltb-true, lt-ltb, ne_eqb, or_parts}
use Rattle.std.proofs.lemmas.List.{drop_more}
use Rattle.std.proofs.lemmas.List.Elements.{All-cons, All-head, All-nil, All-tail}
use Rattle.std.specs.List.{All, AllByRecursion, list_all, list_any}
use Rattle.std.specs.Prelude.{nat_lt}
use Rattle.droid_recovery.specs.WordTests.{is_word}
use Rattle.droid_store.specs.Changes.{IsWord}

none_in : (text : List ℕ) → list_any (λ byte. byte == 32) text ≡ false → All (λ byte. byte ≢ 32) text
none_in [] none = All-nil (λ byte. byte ≢ 32)
none_in (byte ∷ text) none =
    let parts = or_parts (byte == 32) (list_any (λ byte. byte == 32) text) none in
    All-cons (λ byte. byte ≢ 32) byte text (eqb-false byte 32 parts.0) (none_in text parts.1)

none_seen : (text : List ℕ) → All (λ byte. byte ≢ 32) text → list_any (λ byte. byte == 32) text ≡ false
none_seen [] all = refl
none_seen (byte ∷ text) all =
    ap₂ (λ here later. here || later) (ne_eqb byte 32 (All-head (λ byte. byte ≢ 32) byte text all)) (none_seen text (All-tail (λ byte. byte ≢ 32) byte text all))

is_not : (b : Bool) → not b ≡ true → b ≡ false
is_not true is = absurd cc
is_not false is = refl

not_empty : (text : List ℕ) → 0 < length text → text ≢ []
not_empty [] some = absurd (omega (arith, some))
not_empty (byte ∷ text) some = λ none. absurd cc

some_there : (text : List ℕ) → text ≢ [] → 0 < length text
some_there [] some = absurd (some refl)
some_there (byte ∷ text) some = omega arith

word_of : (text : List ℕ) → is_word text ≡ true → IsWord text
word_of text is =
    let parts = and_parts (nat_lt 0 (length text)) (not (list_any (λ byte. byte == 32) text)) is in
    record { some = not_empty text (ltb-true 0 (length text) parts.0); no_space = none_in text (is_not (list_any (λ byte. byte == 32) text) parts.1) }

word_seen : (text : List ℕ) → IsWord text → is_word text ≡ true
word_seen text is = ap₂ (λ some spaces. some && not spaces) (lt-ltb 0 (length text) (some_there text is.some)) (none_seen text is.no_space)

pub words_of : (texts : List (List ℕ)) → list_all is_word texts ≡ true → AllByRecursion IsWord texts
words_of [] all = tt
words_of (text ∷ texts) all = (let parts = and_parts (is_word text) (list_all is_word texts) all in (word_of text parts.0, words_of texts parts.1))

pub words_seen : (texts : List (List ℕ)) → AllByRecursion IsWord texts → list_all is_word texts ≡ true
words_seen [] all = refl
words_seen (text ∷ texts) all = ap₂ (λ one more. one && more) (word_seen text all.0) (words_seen texts all.1)

-- from a place on
pub words_from : (texts : List (List ℕ)) (place : ℕ) (text : List ℕ) → place < length texts → text ≡ get_or texts place text
    → list_all is_word (drop place texts) ≡ (is_word text && list_all is_word (drop (place + 1) texts))
words_from texts place text within is = ap (λ (rest : List (List ℕ)). list_all is_word rest) (drop_more texts place text within ∙ ap (λ first. first ∷ drop (place + 1) texts) (sym is))
