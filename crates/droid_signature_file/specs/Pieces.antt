-- The patterns of subsequences whose texts are read: fragments, gaps and subsequences in the order of their bytes.
use Rattle.std.specs.Prelude.{◌≡◌, ℕ, zero, suc, ◌≤◌, ◌==◌, max, List, [], ◌∷◌, ◌++◌, Some, ⊤, if◌then◌else◌}
use Rattle.droid_pattern.specs.Patterns.{Element, Gap, OpenGap}
use Rattle.droid_signature_file.specs.Records.{SubSequenceRecord}
use Rattle.droid_signature_file.specs.declared.subsequence.Fragment.{Fragment}
use Rattle.droid_signature_file.specs.Expansions.{joined}
use Rattle.droid_signature_file.specs.Meaning.{TextMatches, lowest}
use Rattle.droid_signature_file.specs.Sequences.{ArePatternsOf}

-- a fragment: its position, its offsets, and the patterns of its text
pub record Side : Type 0 where
  pub position : ℕ
  pub least : ℕ
  pub most : ℕ
  pub patterns : List (List Element)

-- a subsequence: its lower offset, the patterns of its Sequence, and its fragments
pub record Piece : Type 0 where
  pub least : ℕ
  pub left : List Side
  pub patterns : List (List Element)
  pub right : List Side

-- the patterns of a gap: no element where there is none
abbrev pub gap_patterns : (least most : ℕ) → List (List Element)
gap_patterns least most = if most == 0 then [] ∷ [] else (Gap least most ∷ []) ∷ []

-- the position of the outermost fragment, 0 if there are none
abbrev pub outermost_side : List Side → ℕ
outermost_side [] = 0
outermost_side (side ∷ sides) = max side.position (outermost_side sides)

-- the patterns of the left fragments of a position, each with its gap before what is further in
abbrev pub left_at : ℕ → List (List Element) → List Side → List (List Element)
left_at position inner [] = []
left_at position inner (side ∷ sides) =
    (if side.position == position then joined side.patterns (joined (gap_patterns side.least side.most) inner) else [])
    ++ left_at position inner sides

-- the patterns of the left fragments from a position down to 1
abbrev pub left_patterns : List Side → ℕ → List (List Element)
left_patterns sides zero = [] ∷ []
left_patterns sides (suc inner) = left_at (suc inner) (left_patterns sides inner) sides

-- the patterns of the right fragments of a position, each with its gap behind what is further in
abbrev pub right_at : ℕ → List (List Element) → List Side → List (List Element)
right_at position inner [] = []
right_at position inner (side ∷ sides) =
    (if side.position == position then joined inner (joined (gap_patterns side.least side.most) side.patterns) else [])
    ++ right_at position inner sides

-- the patterns of the right fragments from position 1 up to a position
abbrev pub right_patterns : List Side → ℕ → List (List Element)
right_patterns sides zero = [] ∷ []
right_patterns sides (suc inner) = right_at (suc inner) (right_patterns sides inner) sides

-- the patterns of a subsequence
abbrev pub piece_patterns : Piece → List (List Element)
piece_patterns piece =
    joined (left_patterns piece.left (outermost_side piece.left))
    (joined piece.patterns (right_patterns piece.right (outermost_side piece.right)))

-- the patterns of further subsequences, each behind an open gap
abbrev pub further_patterns : List Piece → List (List Element)
further_patterns [] = [] ∷ []
further_patterns (piece ∷ pieces) =
    joined ((OpenGap piece.least ∷ []) ∷ []) (joined (piece_patterns piece) (further_patterns pieces))

-- the patterns of a subsequence and those behind it
abbrev pub row_patterns : Piece → List Piece → List (List Element)
row_patterns piece further = joined (piece_patterns piece) (further_patterns further)

-- A fragment is read as this: its offsets are there and in order, and the patterns match what its text stands for.
pub record IsSide (fragment : Fragment) (side : Side) : Type 0 where
  pub position : side.position ≡ fragment.position
  pub least : side.least ≡ lowest fragment.offsets
  pub most : fragment.offsets.max ≡ Some side.most
  pub ordered : side.least ≤ side.most
  pub patterns : ArePatternsOf (TextMatches fragment.text) side.patterns

-- the fragments are read as these sides, one for one
abbrev pub AreSides : List Fragment → List Side → Type 0
AreSides [] [] = ⊤
AreSides [] (side ∷ sides) = ⊥
AreSides (fragment ∷ fragments) [] = ⊥
AreSides (fragment ∷ fragments) (side ∷ sides) = IsSide fragment side × AreSides fragments sides

-- a subsequence is read as this
pub record IsPiece (part : SubSequenceRecord) (piece : Piece) : Type 0 where
  pub least : piece.least ≡ lowest part.offsets
  pub left : AreSides part.left piece.left
  pub patterns : ArePatternsOf (TextMatches part.text) piece.patterns
  pub right : AreSides part.right piece.right

-- the subsequences are read as these pieces, one for one
abbrev pub ArePieces : List SubSequenceRecord → List Piece → Type 0
ArePieces [] [] = ⊤
ArePieces [] (piece ∷ pieces) = ⊥
ArePieces (part ∷ parts) [] = ⊥
ArePieces (part ∷ parts) (piece ∷ pieces) = IsPiece part piece × ArePieces parts pieces
