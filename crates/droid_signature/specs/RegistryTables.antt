-- The tables of a registry, the rows that they are written as (docs/REGISTRY.md), and what a registry has of them.
use Rattle.std.specs.Prelude.{◌≡◌, ℕ, ◌+◌, ◌≤◌, ◌<◌, true, false, List, [], ◌∷◌, ◌++◌, length, map, Some, None, codes}
use Rattle.std.specs.Prelude.{decimal, IsUtf8, ⊤}
use Rattle.std.specs.List.{flat_map, AllByRecursion}
use Rattle.std.specs.Str.{bytes_eq, str_to_ascii_lowercase}
use Rattle.droid_pattern.specs.Patterns.{Element}
use Rattle.droid_pattern.specs.PatternText.{Spells}
use Rattle.droid_pronom.specs.Registry.{Contents, Signed, place_of}
use Rattle.droid_pronom.specs.RegistryFields.{is_puid, is_name, is_note, is_extension}
use Rattle.droid_pronom.specs.declared.format.Format.{Format}
use Rattle.droid_pronom.specs.declared.rows.Anchor.{Anchor}
use Rattle.droid_pronom.specs.declared.rows.Anchor.TheVariants.{Bof, Eof}
use Rattle.droid_pronom.specs.declared.rows.ByteSequence.{ByteSequence}
use Rattle.droid_pronom.specs.declared.rows.ListedExtension.{ListedExtension}
use Rattle.droid_pronom.specs.declared.rows.Offsets.{Offsets}
use Rattle.droid_pronom.specs.declared.rows.Priority.{Priority}
use Rattle.droid_signature.specs.Csv.{line}

-- an extension of the format at a place
pub record ExtensionRow : Type 0 where
  pub place : ℕ
  pub puid : List ℕ
  pub text : List ℕ

-- the priority of the format at a place over the one at another
pub record PriorityRow : Type 0 where
  pub place : ℕ
  pub puid : List ℕ
  pub over : ℕ
  pub other : List ℕ

-- a byte sequence: its offsets, and a pattern with its text
pub record SequenceRow : Type 0 where
  pub offsets : Offsets
  pub text : List ℕ
  pub pattern : List Element

-- a signature of the format at a place
pub record SignatureRow : Type 0 where
  pub place : ℕ
  pub puid : List ℕ
  pub sequences : List SequenceRow

-- the tables of a registry
pub record Tables : Type 0 where
  pub formats : List Format
  pub extensions : List ExtensionRow
  pub priorities : List PriorityRow
  pub signatures : List SignatureRow

-- the fields of a format's row
abbrev pub format_fields : Format → List (List ℕ)
format_fields it = codes "F" ∷ it.puid ∷ it.name ∷ it.version ∷ it.mime ∷ [] ∷ []

-- the fields of an extension's row
abbrev pub extension_fields : ExtensionRow → List (List ℕ)
extension_fields row = codes "E" ∷ row.puid ∷ row.text ∷ [] ∷ [] ∷ [] ∷ []

-- the fields of a priority's row
abbrev pub priority_fields : PriorityRow → List (List ℕ)
priority_fields row = codes "P" ∷ row.puid ∷ row.other ∷ [] ∷ [] ∷ [] ∷ []

-- the field for the end of the file from which offsets count
abbrev pub anchor_text : Anchor → List ℕ
anchor_text Bof = codes "BOF"
anchor_text Eof = codes "EOF"

-- a byte sequence, by the letter of its row: `S` begins a signature, `B` continues it
abbrev pub sequence_fields : (letter puid : List ℕ) → SequenceRow → List (List ℕ)
sequence_fields letter puid row =
    letter ∷ puid ∷ anchor_text row.offsets.anchor ∷ decimal row.offsets.min ∷ decimal row.offsets.max ∷ row.text ∷ []

-- the fields of a signature's rows, one for each byte sequence
abbrev pub signature_fields : List ℕ → List SequenceRow → List (List (List ℕ))
signature_fields puid [] = []
signature_fields puid (row ∷ rows) = sequence_fields (codes "S") puid row ∷ map (sequence_fields (codes "B") puid) rows

-- the text of the formats' rows
abbrev pub format_lines : List Format → List ℕ
format_lines formats = flat_map (λ it. line (format_fields it)) formats

-- the text of the extensions' rows
abbrev pub extension_lines : List ExtensionRow → List ℕ
extension_lines rows = flat_map (λ row. line (extension_fields row)) rows

-- the text of the priorities' rows
abbrev pub priority_lines : List PriorityRow → List ℕ
priority_lines rows = flat_map (λ row. line (priority_fields row)) rows

-- the text of the signatures' rows
abbrev pub signature_lines : List SignatureRow → List ℕ
signature_lines rows = flat_map (λ row. flat_map line (signature_fields row.puid row.sequences)) rows

-- the registry file: formats first, since each other row names some
abbrev pub file_of : Tables → List ℕ
file_of tables =
    format_lines tables.formats
    ++ (extension_lines tables.extensions ++ (priority_lines tables.priorities ++ signature_lines tables.signatures))

-- the extension that a registry has of a row
abbrev pub listed : ExtensionRow → ListedExtension
listed row = record { place = row.place; extension = str_to_ascii_lowercase row.text }

-- the priority that a registry has of a row
abbrev pub prior : PriorityRow → Priority
prior row = record { place = row.place; over = row.over }

-- the byte sequence that a registry has of a row
abbrev pub sequence_of : SequenceRow → ByteSequence
sequence_of row = record { offsets = row.offsets; pattern = row.pattern }

-- the signature that a registry has of its rows
abbrev pub signed : SignatureRow → Signed
signed row = record { place = row.place; sequences = map sequence_of row.sequences }

-- the registry of the tables
abbrev pub registry_of : Tables → Contents
registry_of tables = record {
  formats = tables.formats;
  extensions = map listed tables.extensions;
  priorities = map prior tables.priorities;
  signatures = map signed tables.signatures;
}

-- A format that a registry with these formats takes.
pub record FormatFits (before : List Format) (it : Format) : Type 0 where
  pub named : is_puid it.puid ≡ true
  pub called : is_name it.name ≡ true
  pub versioned : is_note it.version ≡ true
  pub typed : is_note it.mime ≡ true
  pub fresh : place_of it.puid before ≡ None
  pub room : length before < 4096
  pub name : IsUtf8 it.name
  pub version : IsUtf8 it.version
  pub mime : IsUtf8 it.mime

-- formats, each of which a registry with these formats and those before it takes
abbrev pub FormatsFit : List Format → List Format → Type 0
FormatsFit before [] = ⊤
FormatsFit before (it ∷ formats) = FormatFits before it × FormatsFit (before ++ it ∷ []) formats

-- an extension of one of the formats
pub record ExtensionFits (formats : List Format) (row : ExtensionRow) : Type 0 where
  pub named : is_puid row.puid ≡ true
  pub placed : place_of row.puid formats ≡ Some row.place
  pub valid : is_extension row.text ≡ true
  pub readable : IsUtf8 row.text

-- a priority of one of the formats over another
pub record PriorityFits (formats : List Format) (row : PriorityRow) : Type 0 where
  pub named : is_puid row.puid ≡ true
  pub placed : place_of row.puid formats ≡ Some row.place
  pub named_other : is_puid row.other ≡ true
  pub placed_other : place_of row.other formats ≡ Some row.over
  pub differ : bytes_eq row.puid row.other ≡ false

-- a byte sequence that a registry takes
pub record SequenceFits (row : SequenceRow) : Type 0 where
  pub ordered : row.offsets.min ≤ row.offsets.max
  pub small : row.offsets.max ≤ 65535
  pub spelled : Spells row.text row.pattern

-- a signature of one of the formats
pub record SignatureFits (formats : List Format) (row : SignatureRow) : Type 0 where
  pub named : is_puid row.puid ≡ true
  pub placed : place_of row.puid formats ≡ Some row.place
  pub some : 0 < length row.sequences
  pub each : AllByRecursion SequenceFits row.sequences

-- how many byte sequences the signatures have
abbrev pub sequence_count : List SignatureRow → ℕ
sequence_count [] = 0
sequence_count (row ∷ rows) = length row.sequences + sequence_count rows

-- Tables that a registry takes.
pub record AreTables (tables : Tables) : Type 0 where
  pub formats : FormatsFit [] tables.formats
  pub extensions : AllByRecursion (ExtensionFits tables.formats) tables.extensions
  pub few_extensions : length tables.extensions ≤ 16384
  pub priorities : AllByRecursion (PriorityFits tables.formats) tables.priorities
  pub few_priorities : length tables.priorities ≤ 16384
  pub signatures : AllByRecursion (SignatureFits tables.formats) tables.signatures
  pub few_signatures : length tables.signatures ≤ 16384
  pub few_sequences : sequence_count tables.signatures ≤ 32768
