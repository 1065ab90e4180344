-- The patterns of pieces match what the subsequences do.
use Rattle.std.proofs.Common.{◌≡◌, ◌↔◌, ◌⊎◌, ℕ, zero, suc, ◌+◌, ◌<◌, ◌≤◌, Bool, true, false, List, [], ◌∷◌, ◌++◌, length, Option, Some, None, inl, inr, ⊎_elim, refl, sym, ap, ◌∙◌, subst, arith}
use Rattle.std.specs.Prelude.{IfSome, max, ◌==◌, if◌then◌else◌}
use Rattle.std.proofs.lemmas.Bool.{eqb-true, eqb-false}
use Rattle.droid_pattern.specs.Patterns.{Element, Gap, OpenGap, Lang}
use Rattle.droid_pronom.specs.Registry.{AnyOf}
use Rattle.droid_signature_file.specs.Records.{SubSequenceRecord}
use Rattle.droid_signature_file.specs.declared.subsequence.Fragment.{Fragment}
use Rattle.droid_signature_file.specs.declared.subsequence.OffsetRange.{OffsetRange}
use Rattle.droid_signature_file.specs.Terms.{Term, InTurn, TermsMatch}
use Rattle.droid_signature_file.specs.TermText.{SpellsTerms}
use Rattle.droid_signature_file.specs.Expansions.{MatchesAny, joined, patterns_of}
use Rattle.droid_signature_file.proofs.PatternSets.{any_one, one_element, any_append, any_joined, same_turns, both_ways}
use Rattle.droid_signature_file.proofs.TermSets.{terms_match}
use Rattle.droid_signature_file.specs.Meaning.{TextMatches, IsGap, LeftMatches, RightMatches, PartMatches, FurtherMatch, RowMatches, lowest, outermost}
use Rattle.droid_signature_file.specs.Sequences.{ArePatternsOf}
use Rattle.droid_signature_file.specs.Pieces.{Side, Piece, gap_patterns, outermost_side, left_at, left_patterns, right_at, right_patterns, piece_patterns, further_patterns, row_patterns, IsSide, AreSides, IsPiece, ArePieces}

-- a text that is read as these terms alone
pub text_patterns : (text : List ℕ) (terms : List Term) → SpellsTerms text terms → ((ts : List Term) → SpellsTerms text ts → terms ≡ ts) → ArePatternsOf (TextMatches text) (patterns_of terms)
text_patterns text terms spelled only bytes =
    let all = terms_match terms text bytes spelled in (
      λ h. (terms, spelled, all.0 h),
      λ (ts, spelled', h). all.1 (rw (only ts spelled') h),
    )

-- patterns one behind the other
pub turn_patterns : (P Q : List ℕ → Type 0) (xs ys : List (List Element)) → ArePatternsOf P xs → ArePatternsOf Q ys → ArePatternsOf (InTurn P Q) (joined xs ys)
turn_patterns P Q xs ys p q bytes = both_ways (any_joined xs ys bytes) (same_turns (MatchesAny xs) P (MatchesAny ys) Q bytes p q)

-- the empty pattern
pub nothing_patterns : (bytes : List ℕ) → MatchesAny ([] ∷ []) bytes ↔ (bytes ≡ [])
nothing_patterns bytes = any_one [] bytes

no_items : (bytes : List ℕ) → length bytes ≡ 0 → bytes ≡ []
no_items [] e = refl
no_items (b ∷ bytes) e = absurd (omega arith)

-- an upper offset that is there
top : (o : Option ℕ) (high n : ℕ) → o ≡ Some high → IfSome o (λ most. n ≤ most) ↔ (n ≤ high)
top o high n is = (λ h. (rw is at h), λ h. rw is h)

gap_where : (t : Bool) (offsets : OffsetRange) (least most : ℕ) → (t ≡ true → most ≡ 0) → least ≡ lowest offsets → offsets.max ≡ Some most → least ≤ most
    → ArePatternsOf (IsGap offsets) (if t then [] ∷ [] else (Gap least most ∷ []) ∷ [])
gap_where true offsets least most zero_if bottom is ordered bytes =
    let none : most ≡ 0 = zero_if refl in
    let limit = top offsets.max most (length bytes) is in (
      λ h. let e = (nothing_patterns bytes).0 h in
          let long : length bytes ≡ 0 = ap length e in
          (rw (sym bottom) (omega arith), limit.1 (omega arith)),
      λ h. (nothing_patterns bytes).1 (no_items bytes (let high = limit.0 h.1 in omega arith)),
    )
gap_where false offsets least most zero_if bottom is ordered bytes =
    let limit = top offsets.max most (length bytes) is in
    let here = one_element (Gap least most) bytes in (
      λ h. let w = here.0 h in (rw (sym bottom) w.0, limit.1 w.1),
      λ h. here.1 (rw bottom h.0, limit.0 h.1),
    )

gap_match : (offsets : OffsetRange) (least most : ℕ) → least ≡ lowest offsets → offsets.max ≡ Some most → least ≤ most → ArePatternsOf (IsGap offsets) (gap_patterns least most)
gap_match offsets least most bottom is ordered = gap_where (most == 0) offsets least most (eqb-true most 0) bottom is ordered

-- patterns of a side where its position is the wanted one, and else none
at_where : (t : Bool) (P : Type 0) (Q : List ℕ → Type 0) (xs : List (List Element)) (bytes : List ℕ) → (t ≡ true → P) → (t ≡ false → P → ⊥) → ArePatternsOf Q xs
    → MatchesAny (if t then xs else []) bytes ↔ (P × Q bytes)
at_where true P Q xs bytes holds fails says = let here = says bytes in (λ h. (holds refl, here.0 h), λ h. here.1 h.1)
at_where false P Q xs bytes holds fails says = (λ none. absurd none, λ h. absurd (fails refl h.0))

left_at_match : (position : ℕ) (inner : List (List Element)) (P : List ℕ → Type 0) → ArePatternsOf P inner → (fragments : List Fragment) (sides : List Side) → AreSides fragments sides
    → (bytes : List ℕ) → MatchesAny (left_at position inner sides) bytes ↔ AnyOf (λ it. (it.position ≡ position) × InTurn (TextMatches it.text) (InTurn (IsGap it.offsets) P) bytes) fragments
left_at_match position inner P says [] [] are bytes = (λ none. none, λ none. none)
left_at_match position inner P says [] (side ∷ sides) are bytes = absurd are
left_at_match position inner P says (fragment ∷ fragments) [] are bytes = absurd are
left_at_match position inner P says (fragment ∷ fragments) (side ∷ sides) (is, are) bytes =
    let own = joined side.patterns (joined (gap_patterns side.least side.most) inner) in
    let split = any_append (if side.position == position then own else []) (left_at position inner sides) bytes in
    let place : side.position ≡ fragment.position = is.position in
    let here = at_where (side.position == position) (fragment.position ≡ position) (InTurn (TextMatches fragment.text) (InTurn (IsGap fragment.offsets) P)) own bytes
    (λ t. sym place ∙ eqb-true side.position position t) (λ f e. eqb-false side.position position f (place ∙ e))
    (turn_patterns (TextMatches fragment.text) (InTurn (IsGap fragment.offsets) P) side.patterns (joined (gap_patterns side.least side.most) inner) is.patterns
    (turn_patterns (IsGap fragment.offsets) P (gap_patterns side.least side.most) inner (gap_match fragment.offsets side.least side.most is.least is.most is.ordered) says)) in
    let more = left_at_match position inner P says fragments sides are bytes in (
      λ h. ⊎_elim (λ a. inl (here.0 a)) (λ b. inr (more.0 b)) (split.0 h),
      λ h. split.1 (⊎_elim (λ a. inl (here.1 a)) (λ b. inr (more.1 b)) h),
    )

pub left_match : (fragments : List Fragment) (sides : List Side) → AreSides fragments sides → (position : ℕ) → ArePatternsOf (LeftMatches fragments position) (left_patterns sides position)
left_match fragments sides are zero bytes = nothing_patterns bytes
left_match fragments sides are (suc inner) bytes = left_at_match (suc inner) (left_patterns sides inner) (LeftMatches fragments inner) (left_match fragments sides are inner) fragments sides are bytes

right_at_match : (position : ℕ) (inner : List (List Element)) (P : List ℕ → Type 0) → ArePatternsOf P inner → (fragments : List Fragment) (sides : List Side) → AreSides fragments sides
    → (bytes : List ℕ) → MatchesAny (right_at position inner sides) bytes ↔ AnyOf (λ it. (it.position ≡ position) × InTurn P (InTurn (IsGap it.offsets) (TextMatches it.text)) bytes) fragments
right_at_match position inner P says [] [] are bytes = (λ none. none, λ none. none)
right_at_match position inner P says [] (side ∷ sides) are bytes = absurd are
right_at_match position inner P says (fragment ∷ fragments) [] are bytes = absurd are
right_at_match position inner P says (fragment ∷ fragments) (side ∷ sides) (is, are) bytes =
    let own = joined inner (joined (gap_patterns side.least side.most) side.patterns) in
    let split = any_append (if side.position == position then own else []) (right_at position inner sides) bytes in
    let place : side.position ≡ fragment.position = is.position in
    let here = at_where (side.position == position) (fragment.position ≡ position) (InTurn P (InTurn (IsGap fragment.offsets) (TextMatches fragment.text))) own bytes
    (λ t. sym place ∙ eqb-true side.position position t) (λ f e. eqb-false side.position position f (place ∙ e))
    (turn_patterns P (InTurn (IsGap fragment.offsets) (TextMatches fragment.text)) inner (joined (gap_patterns side.least side.most) side.patterns) says
    (turn_patterns (IsGap fragment.offsets) (TextMatches fragment.text) (gap_patterns side.least side.most) side.patterns (gap_match fragment.offsets side.least side.most is.least is.most is.ordered) is.patterns)) in
    let more = right_at_match position inner P says fragments sides are bytes in (
      λ h. ⊎_elim (λ a. inl (here.0 a)) (λ b. inr (more.0 b)) (split.0 h),
      λ h. split.1 (⊎_elim (λ a. inl (here.1 a)) (λ b. inr (more.1 b)) h),
    )

pub right_match : (fragments : List Fragment) (sides : List Side) → AreSides fragments sides → (position : ℕ) → ArePatternsOf (RightMatches fragments position) (right_patterns sides position)
right_match fragments sides are zero bytes = nothing_patterns bytes
right_match fragments sides are (suc inner) bytes = right_at_match (suc inner) (right_patterns sides inner) (RightMatches fragments inner) (right_match fragments sides are inner) fragments sides are bytes

-- the outermost position
same_outermost : (fragments : List Fragment) (sides : List Side) → AreSides fragments sides → outermost_side sides ≡ outermost fragments
same_outermost [] [] are = refl
same_outermost [] (side ∷ sides) are = absurd are
same_outermost (fragment ∷ fragments) [] are = absurd are
same_outermost (fragment ∷ fragments) (side ∷ sides) (is, are) =
    ap (λ p. max p (outermost_side sides)) is.position ∙ ap (λ p. max fragment.position p) (same_outermost fragments sides are)

-- one subsequence
pub piece_match : (part : SubSequenceRecord) (piece : Piece) → IsPiece part piece → ArePatternsOf (PartMatches part) (piece_patterns piece)
piece_match part piece is =
    let L : ℕ → Type 0 = λ p. ArePatternsOf (LeftMatches part.left (outermost part.left)) (left_patterns piece.left p) in
    let R : ℕ → Type 0 = λ p. ArePatternsOf (RightMatches part.right (outermost part.right)) (right_patterns piece.right p) in
    let left = subst L (sym (same_outermost part.left piece.left is.left)) (left_match part.left piece.left is.left (outermost part.left)) in
    let right = subst R (sym (same_outermost part.right piece.right is.right)) (right_match part.right piece.right is.right (outermost part.right)) in
    turn_patterns (LeftMatches part.left (outermost part.left)) (InTurn (TextMatches part.text) (RightMatches part.right (outermost part.right)))
    (left_patterns piece.left (outermost_side piece.left)) (joined piece.patterns (right_patterns piece.right (outermost_side piece.right))) left
    (turn_patterns (TextMatches part.text) (RightMatches part.right (outermost part.right)) piece.patterns (right_patterns piece.right (outermost_side piece.right)) is.patterns right)

-- those behind the first
pub further_match : (parts : List SubSequenceRecord) (pieces : List Piece) → ArePieces parts pieces → ArePatternsOf (FurtherMatch parts) (further_patterns pieces)
further_match [] [] are bytes = nothing_patterns bytes
further_match [] (piece ∷ pieces) are bytes = absurd are
further_match (part ∷ parts) [] are bytes = absurd are
further_match (part ∷ parts) (piece ∷ pieces) (is, are) bytes =
    let open_gap : ArePatternsOf (λ gap. lowest part.offsets ≤ length gap) ((OpenGap piece.least ∷ []) ∷ []) = λ gap.
    let here = one_element (OpenGap piece.least) gap in
    (λ h. rw (sym is.least) (here.0 h), λ h. here.1 (rw is.least h)) in
    turn_patterns (λ gap. lowest part.offsets ≤ length gap) (InTurn (PartMatches part) (FurtherMatch parts)) ((OpenGap piece.least ∷ []) ∷ []) (joined (piece_patterns piece) (further_patterns pieces)) open_gap
    (turn_patterns (PartMatches part) (FurtherMatch parts) (piece_patterns piece) (further_patterns pieces) (piece_match part piece is) (further_match parts pieces are)) bytes

-- all of them
pub row_match : (part : SubSequenceRecord) (parts : List SubSequenceRecord) (piece : Piece) (pieces : List Piece) → IsPiece part piece → ArePieces parts pieces
    → ArePatternsOf (RowMatches part parts) (row_patterns piece pieces)
row_match part parts piece pieces is are =
    turn_patterns (PartMatches part) (FurtherMatch parts) (piece_patterns piece) (further_patterns pieces) (piece_match part piece is) (further_match parts pieces are)
