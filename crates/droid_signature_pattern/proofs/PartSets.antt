-- What a subsequence is written as matches what the subsequence does.
use Rattle.std.proofs.Common.{◌≡◌, ◌↔◌, ◌⊎◌, ℕ, zero, suc, Bool, true, false, List, [], ◌∷◌, ◌++◌, map, inl, inr, ⊎_elim, refl, sym, ap, ◌∙◌, subst, append_assoc}
use Rattle.std.specs.Prelude.{◌==◌, max, if◌then◌else◌}
use Rattle.std.proofs.lemmas.List.{append-nil}
use Rattle.droid_pattern.specs.Patterns.{Element, OpenGap}
use Rattle.droid_signature_file.specs.Records.{SubSequenceRecord}
use Rattle.droid_signature_file.specs.declared.subsequence.Fragment.{Fragment}
use Rattle.droid_signature_file.specs.Terms.{InTurn}
use Rattle.droid_signature_file.specs.Expansions.{MatchesAny, joined, patterns_of}
use Rattle.droid_signature_file.specs.Meaning.{PartMatches, RowMatches}
use Rattle.droid_signature_file.specs.Pieces.{AreSides, ArePieces, IsPiece, gap_patterns, left_at, left_patterns, outermost_side, piece_patterns, further_patterns, right_at, right_patterns}
use Rattle.droid_signature_file.specs.Pieces as pieces
use Rattle.droid_signature_file.specs.Sequences.{ArePatternsOf}
use Rattle.droid_signature_file.proofs.PatternSets.{any_append, any_joined, any_one, both_ways, same_turns}
use Rattle.droid_signature_file.proofs.PieceSets.{row_match}
use Rattle.droid_signature_pattern.specs.Parts.{AreReadFragments, AreReadParts, IsReadPart, ReadFragment, ReadPart, further_levels, joined_all, left_levels, level, outermost_of, part_levels, piece_of, right_levels, row_patterns, side_of, side_patterns}
use Rattle.droid_signature_pattern.specs.declared.part_texts.Way.TheVariants as way

-- the other way round
back : {A B : Type 0} → A ↔ B → B ↔ A
back h = (h.1, h.0)

-- three parts in turn
turns_assoc : (P Q R : List ℕ → Type 0) (bytes : List ℕ) → InTurn (InTurn P Q) R bytes ↔ InTurn P (InTurn Q R) bytes
turns_assoc P Q R bytes = (
  λ (front, last, is, (first, middle, cut, p, q), r). (first, middle ++ last, is ∙ ap (λ x. x ++ last) cut ∙ append_assoc first middle last, p, (middle, last, refl, q, r)),
  λ (first, rest, is, p, (middle, last, cut, q, r)). (first ++ middle, last, is ∙ ap (λ x. first ++ x) cut ∙ sym (append_assoc first middle last), (first, middle, refl, p, q), r),
)

-- nothing before, nothing behind
nothing_before : (P : List ℕ → Type 0) (bytes : List ℕ) → InTurn (λ x. x ≡ []) P bytes ↔ P bytes
nothing_before P bytes = (
  λ (front, rest, is, none, p). let same : bytes ≡ rest = is ∙ ap (λ x. x ++ rest) none in rw same p,
  λ p. ([], bytes, refl, refl, p),
)

pub nothing_behind : (P : List ℕ → Type 0) (bytes : List ℕ) → InTurn P (λ x. x ≡ []) bytes ↔ P bytes
nothing_behind P bytes = (
  λ (front, rest, is, p, none). let same : bytes ≡ front = is ∙ ap (λ x. front ++ x) none ∙ append-nil front in rw same p,
  λ p. (bytes, [], sym (append-nil bytes), p, refl),
)

same_any : (P : List ℕ → Type 0) (bytes : List ℕ) → P bytes ↔ P bytes
same_any P bytes = (λ h. h, λ h. h)

-- levels one behind the other
all_append : (firsts bs : List (List (List Element))) (bytes : List ℕ) → MatchesAny (joined_all (firsts ++ bs)) bytes ↔ InTurn (MatchesAny (joined_all firsts)) (MatchesAny (joined_all bs)) bytes
all_append [] bs bytes =
    back (both_ways (same_turns (MatchesAny ([] ∷ [])) (λ x. x ≡ []) (MatchesAny (joined_all bs)) (MatchesAny (joined_all bs)) bytes (λ x. any_one [] x) (λ x. same_any (MatchesAny (joined_all bs)) x))
    (nothing_before (MatchesAny (joined_all bs)) bytes))
all_append (a ∷ firsts) bs bytes =
    both_ways (any_joined a (joined_all (firsts ++ bs)) bytes)
    (both_ways (same_turns (MatchesAny a) (MatchesAny a) (MatchesAny (joined_all (firsts ++ bs))) (InTurn (MatchesAny (joined_all firsts)) (MatchesAny (joined_all bs))) bytes (λ x. same_any (MatchesAny a) x) (λ x. all_append firsts bs x))
    (both_ways (back (turns_assoc (MatchesAny a) (MatchesAny (joined_all firsts)) (MatchesAny (joined_all bs)) bytes))
    (same_turns (InTurn (MatchesAny a) (MatchesAny (joined_all firsts))) (MatchesAny (joined_all (a ∷ firsts))) (MatchesAny (joined_all bs)) (MatchesAny (joined_all bs)) bytes
    (λ x. back (any_joined a (joined_all firsts) x)) (λ x. same_any (MatchesAny (joined_all bs)) x))))

one_level : (a : List (List Element)) (bytes : List ℕ) → MatchesAny (joined_all (a ∷ [])) bytes ↔ MatchesAny a bytes
one_level a bytes =
    both_ways (any_joined a ([] ∷ []) bytes)
    (both_ways (same_turns (MatchesAny a) (MatchesAny a) (MatchesAny ([] ∷ [])) (λ x. x ≡ []) bytes (λ x. same_any (MatchesAny a) x) (λ x. any_one [] x)) (nothing_behind (MatchesAny a) bytes))

two_levels : (a b : List (List Element)) (bytes : List ℕ) → MatchesAny (joined_all (a ∷ b ∷ [])) bytes ↔ InTurn (MatchesAny a) (MatchesAny b) bytes
two_levels a b bytes =
    both_ways (any_joined a (joined_all (b ∷ [])) bytes)
    (same_turns (MatchesAny a) (MatchesAny a) (MatchesAny (joined_all (b ∷ []))) (MatchesAny b) bytes (λ x. same_any (MatchesAny a) x) (λ x. one_level b x))

-- one of two kinds of patterns, and a part before or behind
turns_or_left : (P Q R : List ℕ → Type 0) (bytes : List ℕ) → InTurn (λ x. P x ⊎ Q x) R bytes ↔ (InTurn P R bytes ⊎ InTurn Q R bytes)
turns_or_left P Q R bytes = (
  λ (front, rest, is, h, r). ⊎_elim (λ p. inl (front, rest, is, p, r)) (λ q. inr (front, rest, is, q, r)) h,
  λ h. ⊎_elim (λ (front, rest, is, p, r). (front, rest, is, inl p, r)) (λ (front, rest, is, q, r). (front, rest, is, inr q, r)) h,
)

turns_or_right : (P Q R : List ℕ → Type 0) (bytes : List ℕ) → InTurn R (λ x. P x ⊎ Q x) bytes ↔ (InTurn R P bytes ⊎ InTurn R Q bytes)
turns_or_right P Q R bytes = (
  λ (front, rest, is, r, h). ⊎_elim (λ p. inl (front, rest, is, r, p)) (λ q. inr (front, rest, is, r, q)) h,
  λ h. ⊎_elim (λ (front, rest, is, r, p). (front, rest, is, r, inl p)) (λ (front, rest, is, r, q). (front, rest, is, r, inr q)) h,
)

either : {A B C D : Type 0} → A ↔ B → C ↔ D → (A ⊎ C) ↔ (B ⊎ D)
either f g = (λ h. ⊎_elim (λ a. inl (f.0 a)) (λ c. inr (g.0 c)) h, λ h. ⊎_elim (λ b. inl (f.1 b)) (λ d. inr (g.1 d)) h)

-- the patterns of one side, where its position is the wanted one
left_one : (t : Bool) (it : ReadFragment) (inner : List (List Element)) (bytes : List ℕ)
    → MatchesAny (if t then joined (patterns_of it.terms) (joined (gap_patterns it.least it.most) inner) else []) bytes
    ↔ InTurn (MatchesAny (if t then side_patterns way.Left it else [])) (MatchesAny inner) bytes
left_one true it inner bytes =
    both_ways (any_joined (patterns_of it.terms) (joined (gap_patterns it.least it.most) inner) bytes)
    (both_ways (same_turns (MatchesAny (patterns_of it.terms)) (MatchesAny (patterns_of it.terms)) (MatchesAny (joined (gap_patterns it.least it.most) inner)) (InTurn (MatchesAny (gap_patterns it.least it.most)) (MatchesAny inner)) bytes
    (λ x. same_any (MatchesAny (patterns_of it.terms)) x) (λ x. any_joined (gap_patterns it.least it.most) inner x))
    (both_ways (back (turns_assoc (MatchesAny (patterns_of it.terms)) (MatchesAny (gap_patterns it.least it.most)) (MatchesAny inner) bytes))
    (same_turns (InTurn (MatchesAny (patterns_of it.terms)) (MatchesAny (gap_patterns it.least it.most))) (MatchesAny (side_patterns way.Left it)) (MatchesAny inner) (MatchesAny inner) bytes
    (λ x. back (two_levels (patterns_of it.terms) (gap_patterns it.least it.most) x)) (λ x. same_any (MatchesAny inner) x))))
left_one false it inner bytes = (λ none. absurd none, λ (front, rest, is, none, h). absurd none)

right_one : (t : Bool) (it : ReadFragment) (inner : List (List Element)) (bytes : List ℕ)
    → MatchesAny (if t then joined inner (joined (gap_patterns it.least it.most) (patterns_of it.terms)) else []) bytes
    ↔ InTurn (MatchesAny inner) (MatchesAny (if t then side_patterns way.Right it else [])) bytes
right_one true it inner bytes =
    both_ways (any_joined inner (joined (gap_patterns it.least it.most) (patterns_of it.terms)) bytes)
    (same_turns (MatchesAny inner) (MatchesAny inner) (MatchesAny (joined (gap_patterns it.least it.most) (patterns_of it.terms))) (MatchesAny (side_patterns way.Right it)) bytes
    (λ x. same_any (MatchesAny inner) x)
    (λ x. both_ways (any_joined (gap_patterns it.least it.most) (patterns_of it.terms) x) (back (two_levels (gap_patterns it.least it.most) (patterns_of it.terms) x))))
right_one false it inner bytes = (λ none. absurd none, λ (front, rest, is, h, none). absurd none)

left_at_level : (position : ℕ) (inner : List (List Element)) (its : List ReadFragment) (bytes : List ℕ)
    → MatchesAny (left_at position inner (map side_of its)) bytes ↔ InTurn (MatchesAny (level way.Left position its)) (MatchesAny inner) bytes
left_at_level position inner [] bytes = (λ none. absurd none, λ (front, rest, is, none, h). absurd none)
left_at_level position inner (it ∷ its) bytes =
    let t = it.position == position in
    let own = if t then joined (patterns_of it.terms) (joined (gap_patterns it.least it.most) inner) else [] in
    let here = if t then side_patterns way.Left it else [] in
    both_ways (any_append own (left_at position inner (map side_of its)) bytes)
    (both_ways (either (left_one t it inner bytes) (left_at_level position inner its bytes))
    (both_ways (back (turns_or_left (MatchesAny here) (MatchesAny (level way.Left position its)) (MatchesAny inner) bytes))
    (same_turns (λ x. MatchesAny here x ⊎ MatchesAny (level way.Left position its) x) (MatchesAny (level way.Left position (it ∷ its))) (MatchesAny inner) (MatchesAny inner) bytes
    (λ x. back (any_append here (level way.Left position its) x)) (λ x. same_any (MatchesAny inner) x))))

right_at_level : (position : ℕ) (inner : List (List Element)) (its : List ReadFragment) (bytes : List ℕ)
    → MatchesAny (right_at position inner (map side_of its)) bytes ↔ InTurn (MatchesAny inner) (MatchesAny (level way.Right position its)) bytes
right_at_level position inner [] bytes = (λ none. absurd none, λ (front, rest, is, h, none). absurd none)
right_at_level position inner (it ∷ its) bytes =
    let t = it.position == position in
    let own = if t then joined inner (joined (gap_patterns it.least it.most) (patterns_of it.terms)) else [] in
    let here = if t then side_patterns way.Right it else [] in
    both_ways (any_append own (right_at position inner (map side_of its)) bytes)
    (both_ways (either (right_one t it inner bytes) (right_at_level position inner its bytes))
    (both_ways (back (turns_or_right (MatchesAny here) (MatchesAny (level way.Right position its)) (MatchesAny inner) bytes))
    (same_turns (MatchesAny inner) (MatchesAny inner) (λ x. MatchesAny here x ⊎ MatchesAny (level way.Right position its) x) (MatchesAny (level way.Right position (it ∷ its))) bytes
    (λ x. same_any (MatchesAny inner) x) (λ x. back (any_append here (level way.Right position its) x)))))

left_side : (its : List ReadFragment) (position : ℕ) (bytes : List ℕ) → MatchesAny (joined_all (left_levels its position)) bytes ↔ MatchesAny (left_patterns (map side_of its) position) bytes
left_side its zero bytes = same_any (MatchesAny ([] ∷ [])) bytes
left_side its (suc inner) bytes =
    let here = level way.Left (suc inner) its in
    let rest = joined_all (left_levels its inner) in
    let there = left_patterns (map side_of its) inner in
    both_ways (any_joined here rest bytes)
    (both_ways (same_turns (MatchesAny here) (MatchesAny here) (MatchesAny rest) (MatchesAny there) bytes (λ x. same_any (MatchesAny here) x) (λ x. left_side its inner x))
    (back (left_at_level (suc inner) there its bytes)))

right_side : (its : List ReadFragment) (position : ℕ) (bytes : List ℕ) → MatchesAny (joined_all (right_levels its position)) bytes ↔ MatchesAny (right_patterns (map side_of its) position) bytes
right_side its zero bytes = same_any (MatchesAny ([] ∷ [])) bytes
right_side its (suc inner) bytes =
    let here = level way.Right (suc inner) its in
    let rest = joined_all (right_levels its inner) in
    let there = right_patterns (map side_of its) inner in
    both_ways (all_append (right_levels its inner) (here ∷ []) bytes)
    (both_ways (same_turns (MatchesAny rest) (MatchesAny there) (MatchesAny (joined_all (here ∷ []))) (MatchesAny here) bytes (λ x. right_side its inner x) (λ x. one_level here x))
    (back (right_at_level (suc inner) there its bytes)))

same_outermost : (its : List ReadFragment) → outermost_side (map side_of its) ≡ outermost_of its
same_outermost [] = refl
same_outermost (it ∷ its) = ap (λ p. max it.position p) (same_outermost its)

part_levels_match : (part : ReadPart) (bytes : List ℕ) → MatchesAny (joined_all (part_levels part)) bytes ↔ MatchesAny (piece_patterns (piece_of part)) bytes
part_levels_match part bytes =
    let left = left_levels part.left (outermost_of part.left) in
    let right = right_levels part.right (outermost_of part.right) in
    let own = patterns_of part.terms in
    let left' = left_patterns (map side_of part.left) (outermost_side (map side_of part.left)) in
    let right' = right_patterns (map side_of part.right) (outermost_side (map side_of part.right)) in
    let L : ℕ → Type 0 = λ p. (x : List ℕ) → MatchesAny (joined_all left) x ↔ MatchesAny (left_patterns (map side_of part.left) p) x in
    let R : ℕ → Type 0 = λ p. (x : List ℕ) → MatchesAny (joined_all right) x ↔ MatchesAny (right_patterns (map side_of part.right) p) x in
    let on_left = subst L (sym (same_outermost part.left)) (λ x. left_side part.left (outermost_of part.left) x) in
    let on_right = subst R (sym (same_outermost part.right)) (λ x. right_side part.right (outermost_of part.right) x) in
    both_ways (all_append left (own ∷ right) bytes)
    (both_ways (same_turns (MatchesAny (joined_all left)) (MatchesAny left') (MatchesAny (joined_all (own ∷ right))) (MatchesAny (joined own right')) bytes on_left
    (λ x. both_ways (any_joined own (joined_all right) x)
    (both_ways (same_turns (MatchesAny own) (MatchesAny own) (MatchesAny (joined_all right)) (MatchesAny right') x (λ y. same_any (MatchesAny own) y) on_right)
    (back (any_joined own right' x)))))
    (back (any_joined left' (joined own right') bytes)))

further_levels_match : (parts : List ReadPart) (bytes : List ℕ) → MatchesAny (joined_all (further_levels parts)) bytes ↔ MatchesAny (further_patterns (map piece_of parts)) bytes
further_levels_match [] bytes = same_any (MatchesAny ([] ∷ [])) bytes
further_levels_match (part ∷ parts) bytes =
    let gap = (OpenGap part.least ∷ []) ∷ [] in
    let own = piece_patterns (piece_of part) in
    let more = further_patterns (map piece_of parts) in
    both_ways (any_joined gap (joined_all (part_levels part ++ further_levels parts)) bytes)
    (both_ways (same_turns (MatchesAny gap) (MatchesAny gap) (MatchesAny (joined_all (part_levels part ++ further_levels parts))) (MatchesAny (joined own more)) bytes (λ x. same_any (MatchesAny gap) x)
    (λ x. both_ways (all_append (part_levels part) (further_levels parts) x)
    (both_ways (same_turns (MatchesAny (joined_all (part_levels part))) (MatchesAny own) (MatchesAny (joined_all (further_levels parts))) (MatchesAny more) x (λ y. part_levels_match part y) (λ y. further_levels_match parts y))
    (back (any_joined own more x)))))
    (back (any_joined gap (joined own more) bytes)))

row_levels_match : (first : ReadPart) (rest : List ReadPart) (bytes : List ℕ) → MatchesAny (row_patterns first rest) bytes ↔ MatchesAny (pieces.row_patterns (piece_of first) (map piece_of rest)) bytes
row_levels_match first rest bytes =
    both_ways (all_append (part_levels first) (further_levels rest) bytes)
    (both_ways (same_turns (MatchesAny (joined_all (part_levels first))) (MatchesAny (piece_patterns (piece_of first))) (MatchesAny (joined_all (further_levels rest))) (MatchesAny (further_patterns (map piece_of rest))) bytes
    (λ x. part_levels_match first x) (λ x. further_levels_match rest x))
    (back (any_joined (piece_patterns (piece_of first)) (further_patterns (map piece_of rest)) bytes)))

-- what is read is a piece
are_sides : (fragments : List Fragment) (its : List ReadFragment) → AreReadFragments fragments its → AreSides fragments (map side_of its)
are_sides [] [] are = tt
are_sides [] (it ∷ its) are = absurd are
are_sides (fragment ∷ fragments) [] are = absurd are
are_sides (fragment ∷ fragments) (it ∷ its) (is, are) = (is.side, are_sides fragments its are)

is_piece : (part : SubSequenceRecord) (read : ReadPart) → IsReadPart part read → IsPiece part (piece_of read)
is_piece part read is = record { least = is.least; left = are_sides part.left read.left is.left; patterns = is.text.patterns; right = are_sides part.right read.right is.right }

are_pieces : (parts : List SubSequenceRecord) (reads : List ReadPart) → AreReadParts parts reads → ArePieces parts (map piece_of reads)
are_pieces [] [] are = tt
are_pieces [] (read ∷ reads) are = absurd are
are_pieces (part ∷ parts) [] are = absurd are
are_pieces (part ∷ parts) (read ∷ reads) (is, are) = (is_piece part read is, are_pieces parts reads are)

-- all of them match what the subsequences do
pub row_matches : (part : SubSequenceRecord) (further : List SubSequenceRecord) (first : ReadPart) (rest : List ReadPart) → IsReadPart part first → AreReadParts further rest
    → ArePatternsOf (RowMatches part further) (row_patterns first rest)
row_matches part further first rest is are bytes = both_ways (row_levels_match first rest bytes) (row_match part further (piece_of first) (map piece_of rest) (is_piece part first is) (are_pieces further rest are) bytes)

-- one subsequence alone
pub alone_matches : (part : SubSequenceRecord) (first : ReadPart) → IsReadPart part first → ArePatternsOf (PartMatches part) (row_patterns first [])
alone_matches part first is bytes = both_ways (row_matches part [] first [] is tt bytes) (nothing_behind (PartMatches part) bytes)
