-- What stands behind an element that stands directly among pieces, and before the first one.
use Rattle.std.proofs.Common.{◌≡◌, ℕ, zero, suc, ◌+◌, ◌<◌, ◌≤◌, true, false, List, [], ◌∷◌, ◌++◌, drop, get_or, length, map, refl, sym, ap, ◌∙◌, append_assoc, arith}
use Rattle.std.specs.Prelude.{Some, None}
use Rattle.std.proofs.lemmas.List.{drop-drop, drop-map, drop_all}
use Rattle.droid_xml.specs.Views.{part}
use Rattle.droid_xml.specs.declared.pieces.Piece.{Piece}
use Rattle.std.specs.List.{position_or_len}
use Rattle.droid_xml.specs.Pieces.{Part, Start, End, Text, Data, Reference, Comment, Instruction}
use Rattle.droid_xml.specs.Tags.{Tag}
use Rattle.droid_signature_file.proofs.Loops.{here}
use Rattle.droid_signature_file.specs.Elements.{Node, inner_len, is_start, len_of, node, opens, nodes_from, tag_of, word, words_from}

-- pieces that are skipped are those at the front
pub nodes_behind : (skip : ℕ) (parts : List Part) → nodes_from skip parts ≡ nodes_from 0 (drop skip parts)
nodes_behind zero parts = refl
nodes_behind (suc skip) [] = refl
nodes_behind (suc skip) (part ∷ parts) = nodes_behind skip parts

pub words_behind : (skip : ℕ) (parts : List Part) → words_from skip parts ≡ words_from 0 (drop skip parts)
words_behind zero parts = refl
words_behind (suc skip) [] = refl
words_behind (suc skip) (part ∷ parts) = words_behind skip parts

one_less : {A : Type 0} (n : ℕ) (x : A) (xs : List A) → drop (1 + n) (x ∷ xs) ≡ drop n xs
one_less n x xs = let e : 1 + n ≡ suc n = omega arith in rw e refl

-- no element stands before the first piece that begins one
first_start : (parts : List Part) → nodes_from 0 parts ≡ nodes_from 0 (drop (position_or_len is_start parts) parts)
first_start [] = refl
first_start (Start tag ∷ parts) = refl
first_start (End name ∷ parts) = first_start parts ∙ ap (nodes_from 0) (sym (one_less (position_or_len is_start parts) (End name) parts))
first_start (Text text ∷ parts) = first_start parts ∙ ap (nodes_from 0) (sym (one_less (position_or_len is_start parts) (Text text) parts))
first_start (Data text ∷ parts) = first_start parts ∙ ap (nodes_from 0) (sym (one_less (position_or_len is_start parts) (Data text) parts))
first_start (Reference char ∷ parts) = first_start parts ∙ ap (nodes_from 0) (sym (one_less (position_or_len is_start parts) (Reference char) parts))
first_start (Comment text ∷ parts) = first_start parts ∙ ap (nodes_from 0) (sym (one_less (position_or_len is_start parts) (Comment text) parts))
first_start (Instruction target text ∷ parts) = first_start parts ∙ ap (nodes_from 0) (sym (one_less (position_or_len is_start parts) (Instruction target text) parts))

-- and that piece begins one
start_there : (parts : List Part) (piece : Part) (rest : List Part) → drop (position_or_len is_start parts) parts ≡ piece ∷ rest → is_start piece ≡ true
start_there [] piece rest is = cc
start_there (Start tag ∷ parts) piece rest is = let same : Start tag ≡ piece = cc in sym (ap is_start same)
start_there (End name ∷ parts) piece rest is = start_there parts piece rest (sym (one_less (position_or_len is_start parts) (End name) parts) ∙ is)
start_there (Text text ∷ parts) piece rest is = start_there parts piece rest (sym (one_less (position_or_len is_start parts) (Text text) parts) ∙ is)
start_there (Data text ∷ parts) piece rest is = start_there parts piece rest (sym (one_less (position_or_len is_start parts) (Data text) parts) ∙ is)
start_there (Reference char ∷ parts) piece rest is = start_there parts piece rest (sym (one_less (position_or_len is_start parts) (Reference char) parts) ∙ is)
start_there (Comment text ∷ parts) piece rest is = start_there parts piece rest (sym (one_less (position_or_len is_start parts) (Comment text) parts) ∙ is)
start_there (Instruction target text ∷ parts) piece rest is = start_there parts piece rest (sym (one_less (position_or_len is_start parts) (Instruction target text) parts) ∙ is)

-- the pieces of the code
pub first_in : (pieces behind : List Piece) (piece : Piece) → drop (position_or_len is_start (map part pieces)) pieces ≡ piece ∷ behind → nodes_from 0 (map part pieces) ≡ nodes_from 0 (part piece ∷ map part behind)
first_in pieces behind piece is =
    first_start (map part pieces) ∙ ap (nodes_from 0) (drop-map part (position_or_len is_start (map part pieces)) pieces ∙ ap (map part) is)

pub none_in : (pieces : List Piece) → drop (position_or_len is_start (map part pieces)) pieces ≡ [] → nodes_from 0 (map part pieces) ≡ []
none_in pieces is = first_start (map part pieces) ∙ ap (nodes_from 0) (drop-map part (position_or_len is_start (map part pieces)) pieces ∙ ap (map part) is)

pub begins : (pieces behind : List Piece) (piece : Piece) → drop (position_or_len is_start (map part pieces)) pieces ≡ piece ∷ behind → is_start (part piece) ≡ true
begins pieces behind piece is =
    start_there (map part pieces) (part piece) (map part behind) (drop-map part (position_or_len is_start (map part pieces)) pieces ∙ ap (map part) is)

-- an element, and those behind it
pub element_at : (piece : Part) (tag : Tag) (parts : List Part) → tag_of piece ≡ Some tag → nodes_from 0 (piece ∷ parts) ≡ node tag parts ∷ nodes_from 0 (drop (len_of piece parts) parts)
element_at piece tag parts is = rw is (ap (λ (more : List Node). node tag parts ∷ more) (nodes_behind (len_of piece parts) parts))

-- what begins an element has a tag
pub has_tag : (piece : Part) → is_start piece ≡ true → tag_of piece ≡ None → ⊥
has_tag (Start tag) starts none = absurd cc
has_tag (End name) starts none = absurd cc
has_tag (Text text) starts none = absurd cc
has_tag (Data text) starts none = absurd cc
has_tag (Reference char) starts none = absurd cc
has_tag (Comment text) starts none = absurd cc
has_tag (Instruction target text) starts none = absurd cc

-- a piece, and the text behind it
pub words_first : (piece : Part) (parts : List Part) → words_from 0 (piece ∷ parts) ≡ word piece ++ words_from 0 (drop (len_of piece parts) parts)
words_first piece parts = ap (λ (more : List ℕ). word piece ++ more) (words_behind (len_of piece parts) parts)

-- how many pieces behind a piece belong to its element
pub len_none : (piece : Part) (behind : List Piece) → opens piece ≡ false → drop 0 behind ≡ drop (len_of piece (map part behind)) behind
len_none piece behind is = rw is refl

pub len_short : (piece : Part) (behind : List Piece) (inner : ℕ) → opens piece ≡ true → inner ≡ inner_len 0 (map part behind) → length behind ≤ inner → drop inner behind ≡ drop (len_of piece (map part behind)) behind
len_short piece behind inner is same few =
    rw is (drop_all inner behind few ∙ sym (drop_all (inner_len 0 (map part behind) + 1) behind (omega (arith, same, few))))

pub len_whole : (piece : Part) (behind : List Piece) (inner : ℕ) → opens piece ≡ true → inner ≡ inner_len 0 (map part behind) → drop (inner + 1) behind ≡ drop (len_of piece (map part behind)) behind
len_whole piece behind inner is same = rw is (ap (λ (n : ℕ). drop (n + 1) behind) same)

-- what stands behind an element
pub past : (all behind : List Piece) (piece : Piece) (place own n : ℕ) → drop place all ≡ piece ∷ behind → n ≡ place + suc own → drop n all ≡ drop own behind
past all behind piece place own n cut is = rw is (sym (drop-drop (suc own) place all) ∙ ap (drop (suc own)) cut)

-- one more piece
pub words_step : (all rest : List Piece) (at own n : ℕ) (one : Piece) (so_far new whole : List ℕ) → at < length all → rest ≡ drop (at + 1) all → one ≡ get_or all at one
    → drop own rest ≡ drop (len_of (part one) (map part rest)) rest → n ≡ at + suc own → new ≡ so_far ++ word (part one)
    → so_far ++ words_from 0 (map part (drop at all)) ≡ whole → new ++ words_from 0 (map part (drop n all)) ≡ whole
words_step all rest at own n one so_far new whole inside rest_is one_is own_is n_is new_is inv =
    let cut : drop at all ≡ one ∷ rest = here all at one inside ∙ (ap (λ (x : Piece). x ∷ drop (at + 1) all) (sym one_is) ∙ ap (λ (xs : List Piece). one ∷ xs) (sym rest_is)) in
    let len = len_of (part one) (map part rest) in
    let behind : map part (drop n all) ≡ drop len (map part rest) = ap (map part) (past all rest one at own n cut n_is ∙ own_is) ∙ sym (drop-map part len rest) in
    rw (new_is, behind)
    (append_assoc so_far (word (part one)) (words_from 0 (drop len (map part rest)))
    ∙ (ap (λ (more : List ℕ). so_far ++ more) (sym (words_first (part one) (map part rest)) ∙ ap (λ (pieces : List Piece). words_from 0 (map part pieces)) (sym cut)) ∙ inv))
