-- Subsequences whose texts are read, and the patterns that they are written as: a list of patterns for each position of
-- a fragment, each with each.
use Rattle.std.specs.Prelude.{◌≡◌, ℕ, zero, suc, ◌≤◌, ◌==◌, max, List, [], ◌∷◌, ◌++◌, length, map, if◌then◌else◌, ⊤}
use Rattle.droid_pattern.specs.Patterns.{Element, OpenGap}
use Rattle.droid_signature_file.specs.Records.{SubSequenceRecord}
use Rattle.droid_signature_file.specs.declared.subsequence.Fragment.{Fragment}
use Rattle.droid_signature_file.specs.Terms.{Term}
use Rattle.droid_signature_file.specs.TermText.{SpellsTerms}
use Rattle.droid_signature_file.specs.Expansions.{joined, patterns_of}
use Rattle.droid_signature_file.specs.Meaning.{TextMatches, lowest}
use Rattle.droid_signature_file.specs.Pieces.{IsSide, Piece, Side, gap_patterns}
use Rattle.droid_signature_file.specs.Sequences.{ArePatternsOf}
use Rattle.droid_signature_pattern.specs.Positions.{ArePositions}
use Rattle.droid_signature_pattern.specs.declared.part_texts.Way.{Way}
use Rattle.droid_signature_pattern.specs.declared.part_texts.Way.TheVariants as way

-- a fragment: its position, how far away it lies, and its terms
pub record ReadFragment : Type 0 where
  pub position : ℕ
  pub least : ℕ
  pub most : ℕ
  pub terms : List Term

-- a subsequence: its lower offset, its terms, and the fragments on both sides
pub record ReadPart : Type 0 where
  pub least : ℕ
  pub left : List ReadFragment
  pub terms : List Term
  pub right : List ReadFragment

-- a fragment, with the patterns of its text
abbrev pub side_of : ReadFragment → Side
side_of it = record { position = it.position; least = it.least; most = it.most; patterns = patterns_of it.terms }

-- a subsequence, with the patterns of its texts
abbrev pub piece_of : ReadPart → Piece
piece_of part = record {
  least = part.least;
  left = map side_of part.left;
  patterns = patterns_of part.terms;
  right = map side_of part.right;
}

-- A text is read as these terms, which it spells and whose patterns match what it stands for. It has at most 65,536
-- bytes.
pub record IsReadText (text : List ℕ) (terms : List Term) : Type 0 where
  pub short : length text ≤ 65536
  pub spelled : SpellsTerms text terms
  pub patterns : ArePatternsOf (TextMatches text) (patterns_of terms)

-- A fragment is read as this.
pub record IsReadFragment (fragment : Fragment) (it : ReadFragment) : Type 0 where
  pub side : IsSide fragment (side_of it)
  pub small : it.most ≤ 65535
  pub text : IsReadText fragment.text it.terms

-- the fragments are read as these, one for one
abbrev pub AreReadFragments : List Fragment → List ReadFragment → Type 0
AreReadFragments [] [] = ⊤
AreReadFragments [] (it ∷ its) = ⊥
AreReadFragments (fragment ∷ fragments) [] = ⊥
AreReadFragments (fragment ∷ fragments) (it ∷ its) = IsReadFragment fragment it × AreReadFragments fragments its

-- A subsequence is read as this. No position of its fragments is left out.
pub record IsReadPart (part : SubSequenceRecord) (read : ReadPart) : Type 0 where
  pub least : read.least ≡ lowest part.offsets
  pub small : read.least ≤ 65535
  pub left : AreReadFragments part.left read.left
  pub text : IsReadText part.text read.terms
  pub right : AreReadFragments part.right read.right
  pub left_positions : ArePositions part.left
  pub right_positions : ArePositions part.right

-- the subsequences are read as these, one for one
abbrev pub AreReadParts : List SubSequenceRecord → List ReadPart → Type 0
AreReadParts [] [] = ⊤
AreReadParts [] (read ∷ more) = ⊥
AreReadParts (part ∷ parts) [] = ⊥
AreReadParts (part ∷ parts) (read ∷ more) = IsReadPart part read × AreReadParts parts more

-- of lists of patterns that stand one behind the other (levels), one of each
abbrev pub joined_all : List (List (List Element)) → List (List Element)
joined_all [] = [] ∷ []
joined_all (level ∷ levels) = joined level (joined_all levels)

-- what lies further out first on the left, and last on the right
abbrev pub in_order : {X : Type 0} → Way → X → X → List X
in_order way.Left outer inner = outer ∷ inner ∷ []
in_order way.Right outer inner = inner ∷ outer ∷ []

-- the two levels of a fragment and its gap: a left fragment lies before its gap, a right one behind it
abbrev pub side_levels : Way → ReadFragment → List (List (List Element))
side_levels from it = in_order from (patterns_of it.terms) (gap_patterns it.least it.most)

-- the patterns of a fragment with its gap
abbrev pub side_patterns : Way → ReadFragment → List (List Element)
side_patterns from it = joined_all (side_levels from it)

-- the fragments of a position, any of them
abbrev pub level : Way → ℕ → List ReadFragment → List (List Element)
level from position [] = []
level from position (it ∷ more) =
    (if it.position == position then side_patterns from it else []) ++ level from position more

-- the levels of the left fragments, from a position down to 1
abbrev pub left_levels : List ReadFragment → ℕ → List (List (List Element))
left_levels fragments zero = []
left_levels fragments (suc inner) = level way.Left (suc inner) fragments ∷ left_levels fragments inner

-- the levels of the right fragments, from 1 up to a position
abbrev pub right_levels : List ReadFragment → ℕ → List (List (List Element))
right_levels fragments zero = []
right_levels fragments (suc inner) = right_levels fragments inner ++ level way.Right (suc inner) fragments ∷ []

-- the position of the outermost fragment, 0 if there are none
abbrev pub outermost_of : List ReadFragment → ℕ
outermost_of [] = 0
outermost_of (it ∷ more) = max it.position (outermost_of more)

-- the levels of a subsequence
abbrev pub part_levels : ReadPart → List (List (List Element))
part_levels part =
    left_levels part.left (outermost_of part.left)
    ++ (patterns_of part.terms ∷ right_levels part.right (outermost_of part.right))

-- the levels of a subsequence behind others, with an open gap in front of it
abbrev pub next_levels : ReadPart → List (List (List Element))
next_levels part = ((OpenGap part.least ∷ []) ∷ []) ∷ part_levels part

-- the levels of further subsequences, each behind an open gap
abbrev pub further_levels : List ReadPart → List (List (List Element))
further_levels [] = []
further_levels (part ∷ parts) = ((OpenGap part.least ∷ []) ∷ []) ∷ (part_levels part ++ further_levels parts)

-- the levels of a subsequence and of those behind it
abbrev pub row_levels : ReadPart → List ReadPart → List (List (List Element))
row_levels part further = part_levels part ++ further_levels further

-- the patterns of a subsequence and of those behind it
abbrev pub row_patterns : ReadPart → List ReadPart → List (List Element)
row_patterns part further = joined_all (row_levels part further)
