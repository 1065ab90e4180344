-- How a file is identified: by signatures, or else by the extension of its name. The rules are PRONOM's, unless a
-- comment says that one is this project's own.
use Rattle.std.specs.Prelude.{◌≡◌, ◌≢◌, ◌↔◌, ◌⊎◌, ℕ, suc, ◌+◌, ◌-◌, ◌≤◌, ◌==◌, min, Bool, true, false, IsTrue}
use Rattle.std.specs.Prelude.{if◌then◌else◌, List, [], ◌∷◌, length, take, drop}
use Rattle.std.specs.List.{list_any, AllByRecursion}
use Rattle.std.specs.Str.{str_to_ascii_lowercase}
use Rattle.droid_frame.specs.declared.method.Method.TheVariants as methods
use Rattle.droid_pattern.specs.Patterns.{Lang}
use Rattle.droid_pronom.specs.Registry.{Contents, AnyOf, IsSigned}
use Rattle.droid_pronom.specs.declared.format.Format.{Format}
use Rattle.droid_pronom.specs.declared.rows.Anchor.{Anchor}
use Rattle.droid_pronom.specs.declared.rows.Anchor.TheVariants.{Bof, Eof}
use Rattle.droid_pronom.specs.declared.rows.ByteSequence.{ByteSequence}
use Rattle.droid_pronom.specs.declared.identification.Found.{Found}

-- whether a byte is a dot
abbrev pub is_dot : ℕ → Bool
is_dot c = c == 46

-- the text after the last dot, or nothing if there is no dot
abbrev pub after_last_dot : List ℕ → List ℕ
after_last_dot [] = []
after_last_dot (c ∷ rest) = if list_any is_dot rest then after_last_dot rest else if is_dot c then rest else []

-- the extension of a name: the text after its last dot, if that dot is not the first byte
abbrev pub extension_of : List ℕ → List ℕ
extension_of [] = []
extension_of (first ∷ rest) = after_last_dot rest

-- A byte sequence matches at one of its offsets from the beginning of the file. The whole match lies in the first
-- `scan_limit` bytes.
pub record HitsFromStart (sequence : ByteSequence) (file : List ℕ) (scan_limit : ℕ) : Type 0 where
  pub offset : ℕ
  pub count : ℕ
  pub from_min : sequence.offsets.min ≤ offset
  pub to_max : offset ≤ sequence.offsets.max
  pub inside : offset + count ≤ min scan_limit (length file)
  pub matched : Lang sequence.pattern (take count (drop offset file))

-- A byte sequence matches at one of its offsets from the end of the file. The offset is the number of bytes after the
-- match, which lies in the last `scan_limit` bytes.
pub record HitsFromEnd (sequence : ByteSequence) (file : List ℕ) (scan_limit : ℕ) : Type 0 where
  pub offset : ℕ
  pub count : ℕ
  pub from_min : sequence.offsets.min ≤ offset
  pub to_max : offset ≤ sequence.offsets.max
  pub inside : offset + count ≤ min scan_limit (length file)
  pub matched : Lang sequence.pattern (take count (drop (length file - (offset + count)) file))

-- a byte sequence with this anchor hits in a file under a scan limit
abbrev pub HitsFrom : Anchor → ByteSequence → List ℕ → ℕ → Type 0
HitsFrom Bof = HitsFromStart
HitsFrom Eof = HitsFromEnd

-- a byte sequence hits in a file under a scan limit
abbrev pub Hits : List ℕ → ℕ → ByteSequence → Type 0
Hits file scan_limit sequence = HitsFrom sequence.offsets.anchor sequence file scan_limit

-- The definitions below take the predicate H, which says which byte sequences hit.

-- the format at a place hits: all byte sequences of one of its signatures do
abbrev pub IsHit : (ByteSequence → Type 0) → Contents → ℕ → Type 0
IsHit H registry k =
    AnyOf (λ signature. (signature.place ≡ k) × AllByRecursion H signature.sequences) registry.signatures

-- a format that hits has priority over the one at a place
abbrev pub IsBeaten : (ByteSequence → Type 0) → Contents → ℕ → Type 0
IsBeaten H registry k = AnyOf (λ row. IsHit H registry row.place × (row.over ≡ k)) registry.priorities

-- The format at a place hits, and no format that hits has priority over it. Priority is applied once, to all formats
-- that hit together (this project's own rule).
abbrev pub IsLeft : (ByteSequence → Type 0) → Contents → ℕ → Type 0
IsLeft H registry k = IsHit H registry k × (IsBeaten H registry k → ⊥)

-- the format at a place lists an extension; the case of letters makes no difference
abbrev pub Lists : Contents → List ℕ → ℕ → Type 0
Lists registry extension k =
    AnyOf (λ row. (row.place ≡ k) × (row.extension ≡ str_to_ascii_lowercase extension)) registry.extensions

-- The format at a place is identified by an extension, which is not empty: it lists the extension, and without
-- match_all it has no signature (this project's own rule).
pub record IsNamed (registry : Contents) (extension : List ℕ) (match_all : Bool) (k : ℕ) : Type 0 where
  pub some : extension ≢ []
  pub lists : Lists registry extension k
  pub unsigned : (match_all ≡ true) ⊎ (IsSigned registry k → ⊥)

-- The name's extension is not empty, at least one of the remaining formats lists an extension, and none of them lists
-- this one.
pub record IsMismatch (H : ByteSequence → Type 0) (registry : Contents) (extension : List ℕ) : Type 0 where
  pub some : extension ≢ []
  pub lists_one : AnyOf (λ row. IsLeft H registry row.place) registry.extensions
  pub lists_other : AnyOf (λ row. IsLeft H registry row.place × (row.extension ≡ str_to_ascii_lowercase extension))
      registry.extensions
      → ⊥

-- The PUIDs of the formats whose places satisfy P, in the registry's order. The first format has the place k.
pub data Chosen (P : ℕ → Type 0) : ℕ → List Format → List (List ℕ) → Type 0 where
  end : {k : ℕ} → Chosen P k [] []
  chosen : {k : ℕ} {format : Format} {formats : List Format} {puids : List (List ℕ)} → P k
      → Chosen P (suc k) formats puids → Chosen P k (format ∷ formats) (format.puid ∷ puids)
  passed : {k : ℕ} {format : Format} {formats : List Format} {puids : List (List ℕ)} → (P k → ⊥)
      → Chosen P (suc k) formats puids → Chosen P k (format ∷ formats) puids

-- priority leaves at least one format: those formats are found
pub record BySignature (H : ByteSequence → Type 0) (registry : Contents) (extension : List ℕ) (found : Found)
    : Type 0 where
  pub left : Chosen (IsLeft H registry) 0 registry.formats found.puids
  pub some : found.puids ≢ []
  pub method : found.method ≡ methods.Signature
  pub mismatch : IsTrue found.mismatch ↔ IsMismatch H registry extension

-- priority leaves no format, perhaps because priorities in a circle dropped all: the formats that the extension names
-- are found
pub record ByExtension (H : ByteSequence → Type 0) (registry : Contents) (extension : List ℕ) (match_all : Bool)
    (found : Found) : Type 0 where
  pub left : Chosen (IsLeft H registry) 0 registry.formats []
  pub named : Chosen (IsNamed registry extension match_all) 0 registry.formats found.puids
  pub some : found.puids ≢ []
  pub method : found.method ≡ methods.Extension
  pub mismatch : found.mismatch ≡ false

-- neither signatures nor the extension give a format
pub record NoFormat (H : ByteSequence → Type 0) (registry : Contents) (extension : List ℕ) (match_all : Bool)
    (found : Found) : Type 0 where
  pub left : Chosen (IsLeft H registry) 0 registry.formats []
  pub named : Chosen (IsNamed registry extension match_all) 0 registry.formats []
  pub none : found.puids ≡ []
  pub method : found.method ≡ methods.Unidentified
  pub mismatch : found.mismatch ≡ false

-- what is found if the byte sequences of H hit
abbrev pub IsFoundBy : (ByteSequence → Type 0) → Contents → List ℕ → Bool → Found → Type 0
IsFoundBy H registry name match_all found =
    BySignature H registry (extension_of name) found
    ⊎ ByExtension H registry (extension_of name) match_all found
    ⊎ NoFormat H registry (extension_of name) match_all found

-- what is found in a file of this name with these bytes, under this scan limit
abbrev pub IsFound : Contents → List ℕ → List ℕ → ℕ → Bool → Found → Type 0
IsFound registry name file scan_limit match_all found = IsFoundBy (Hits file scan_limit) registry name match_all found
