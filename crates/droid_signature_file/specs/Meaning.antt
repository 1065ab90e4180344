-- When a signature of a DROID signature file hits a file of bytes. The rules are DROID's. As in DROID, a match counts
-- only if it lies wholly in the first bytes (or the last, for offsets from the end), as many as the scan limit allows.
use Rattle.std.specs.Prelude.{◌≡◌, ◌⊎◌, ℕ, zero, suc, ◌+◌, ◌-◌, ◌≤◌, min, max, List, [], ◌∷◌, ◌++◌, length, take, drop}
use Rattle.std.specs.Prelude.{Option, Some, None, unwrap_or, IfSome}
use Rattle.std.specs.List.{AllByRecursion}
use Rattle.droid_pronom.specs.Registry.{AnyOf}
use Rattle.droid_signature_file.specs.Records.{SubSequenceRecord, ByteSequenceRecord, SignatureRecord, FormatRecord}
use Rattle.droid_signature_file.specs.Records.{FileRecord}
use Rattle.droid_signature_file.specs.declared.subsequence.Fragment.{Fragment}
use Rattle.droid_signature_file.specs.declared.subsequence.OffsetRange.{OffsetRange}
use Rattle.droid_signature_file.specs.declared.sequence.Reference.{Reference}
use Rattle.droid_signature_file.specs.declared.sequence.Reference.TheVariants.{Beginning, End, Other}
use Rattle.droid_signature_file.specs.Terms.{Term, InTurn, TermsMatch}
use Rattle.droid_signature_file.specs.TermText.{SpellsTerms}

-- the text of a Sequence or a fragment stands for the bytes
abbrev pub TextMatches : List ℕ → List ℕ → Type 0
TextMatches text bytes = (terms : List Term) × SpellsTerms text terms × TermsMatch terms bytes

-- the lower of two offsets: 0 if it is missing
abbrev pub lowest : OffsetRange → ℕ
lowest offsets = unwrap_or offsets.min 0

-- a number is one from the lower offset to the upper one, both included; an upper offset that is missing sets no limit
abbrev pub IsWithin : OffsetRange → ℕ → Type 0
IsWithin offsets n = (lowest offsets ≤ n) × IfSome offsets.max (λ most. n ≤ most)

-- any bytes, as many as the offsets allow
abbrev pub IsGap : OffsetRange → List ℕ → Type 0
IsGap offsets bytes = IsWithin offsets (length bytes)

-- the position of the outermost fragment, 0 if there are none
abbrev pub outermost : List Fragment → ℕ
outermost [] = 0
outermost (fragment ∷ fragments) = max fragment.position (outermost fragments)

-- The bytes of the left fragments from a position down to 1: at each position one of its fragments, and behind it a gap
-- of its own.
abbrev pub LeftMatches : List Fragment → ℕ → List ℕ → Type 0
LeftMatches fragments zero bytes = bytes ≡ []
LeftMatches fragments (suc inner) bytes =
    AnyOf
    (λ it.
    (it.position ≡ suc inner)
    × InTurn (TextMatches it.text) (InTurn (IsGap it.offsets) (LeftMatches fragments inner)) bytes)
    fragments

-- The bytes of the right fragments from position 1 up to a position: at each position one of its fragments, and before
-- it a gap of its own.
abbrev pub RightMatches : List Fragment → ℕ → List ℕ → Type 0
RightMatches fragments zero bytes = bytes ≡ []
RightMatches fragments (suc inner) bytes =
    AnyOf
    (λ it.
    (it.position ≡ suc inner)
    × InTurn (RightMatches fragments inner) (InTurn (IsGap it.offsets) (TextMatches it.text)) bytes)
    fragments

-- the bytes of a subsequence: left fragments from the outermost in, the Sequence, right fragments from the innermost
-- out
abbrev pub PartMatches : SubSequenceRecord → List ℕ → Type 0
PartMatches part bytes =
    InTurn (LeftMatches part.left (outermost part.left))
    (InTurn (TextMatches part.text) (RightMatches part.right (outermost part.right))) bytes

-- the bytes of further subsequences in the order of Position, which is the file's: each begins at least its lower
-- offset behind the end of the one before
abbrev pub FurtherMatch : List SubSequenceRecord → List ℕ → Type 0
FurtherMatch [] bytes = bytes ≡ []
FurtherMatch (part ∷ parts) bytes =
    InTurn (λ gap. lowest part.offsets ≤ length gap) (InTurn (PartMatches part) (FurtherMatch parts)) bytes

-- the bytes of a subsequence and those behind it
abbrev pub RowMatches : SubSequenceRecord → List SubSequenceRecord → List ℕ → Type 0
RowMatches part further bytes = InTurn (PartMatches part) (FurtherMatch further) bytes

-- offsets from the beginning: the first subsequence begins at one of its offsets, and all lie in the first bytes of the
-- file
pub record HitsFirst (part : SubSequenceRecord) (further : List SubSequenceRecord) (file : List ℕ) (scan_limit : ℕ)
    : Type 0 where
  pub offset : ℕ
  pub count : ℕ
  pub within : IsWithin part.offsets offset
  pub inside : offset + count ≤ min scan_limit (length file)
  pub matched : RowMatches part further (take count (drop offset file))

-- offsets from the end: the subsequence ends at one of its offsets before the end, and lies in the last bytes of the
-- file
pub record HitsLast (part : SubSequenceRecord) (file : List ℕ) (scan_limit : ℕ) : Type 0 where
  pub offset : ℕ
  pub count : ℕ
  pub within : IsWithin part.offsets offset
  pub inside : offset + count ≤ min scan_limit (length file)
  pub matched : PartMatches part (take count (drop (length file - (offset + count)) file))

-- Subsequences hit, by their reference. What has no line of its own has no meaning here, and no converter takes it:
-- several subsequences from the end, and another reference.
abbrev pub PartsHit : Reference → List SubSequenceRecord → List ℕ → ℕ → Type 0
PartsHit Beginning (part ∷ further) file scan_limit = HitsFirst part further file scan_limit
PartsHit Beginning [] file scan_limit = ⊥
PartsHit End (part ∷ []) file scan_limit = HitsLast part file scan_limit
PartsHit End (part ∷ another ∷ more) file scan_limit = ⊥
PartsHit End [] file scan_limit = ⊥
PartsHit Other parts file scan_limit = ⊥

-- a byte sequence hits
abbrev pub SequenceHits : List ℕ → ℕ → ByteSequenceRecord → Type 0
SequenceHits file scan_limit sequence = PartsHit sequence.reference sequence.parts file scan_limit

-- a signature hits: all its byte sequences do
abbrev pub SignatureHits : List ℕ → ℕ → SignatureRecord → Type 0
SignatureHits file scan_limit signature = AllByRecursion (SequenceHits file scan_limit) signature.sequences

-- a format hits: one of its signatures does, by its ID
abbrev pub FormatHits : FileRecord → List ℕ → ℕ → FormatRecord → Type 0
FormatHits records file scan_limit format =
    AnyOf (λ id. AnyOf (λ it. (it.id ≡ id) × SignatureHits file scan_limit it) records.signatures) format.signatures

-- the format of an ID over which another has priority
abbrev pub HasPriorityOver : FormatRecord → FormatRecord → Type 0
HasPriorityOver format other = AnyOf (λ id. id ≡ other.id) format.priorities
