-- What one record adds to the registry of the records before it, or its first fault in a fixed order (this project's
-- own rules).
use Rattle.std.specs.Prelude.{◌≡◌, ◌≢◌, ℕ, ◌+◌, Bool, true, false, ◌==◌, ◌&&◌, not, nat_lt, List, [], ◌∷◌, length}
use Rattle.std.specs.Prelude.{Option, Some, None, is_none, Result, Ok, Err, ⊤}
use Rattle.std.specs.Option.{ok_or}
use Rattle.std.specs.Str.{bytes_eq, str_to_ascii_lowercase}
use Rattle.csv.specs.Records.{AllText}
use Rattle.droid_pattern.specs.Patterns.{Element}
use Rattle.droid_pattern.specs.PatternText.{Spells}
use Rattle.droid_pronom.specs.RegistryFields.{is_puid, is_name, is_note, is_extension, is_empty, offsets_of, kind_of}
use Rattle.droid_pronom.specs.Registry.{Contents, place_of}
use Rattle.droid_pronom.specs.RegistryFields as kinds
use Rattle.droid_pronom.specs.RegistryGrowth.{with_format, with_extension, with_priority, with_signature, with_sequence}
use Rattle.droid_pronom.specs.declared.rows.Offsets.{Offsets}

-- what is wrong with a record
pub data RecordFault : Type 0 where
  NotUtf8 : RecordFault
  BadRecord : RecordFault
  BadPattern : RecordFault
  UnknownPuid : RecordFault
  DuplicatePuid : RecordFault
  TooMany : RecordFault

-- The registry of the records so far, the number of byte sequences of all its signatures, and the place of the format
-- to whose signature a B record may now add a byte sequence.
pub record Draft : Type 0 where
  pub registry : Contents
  pub sequences : ℕ
  pub current : Option ℕ

-- the next step, unless the one before it found a fault
infixl 10 ◌>>=◌
abbrev pub ◌>>=◌ : {A B : Type 0} → Result A RecordFault → (A → Result B RecordFault) → Result B RecordFault
(Ok x) >>= f = f x
(Err e) >>= f = Err e

-- the fault, unless the condition holds
abbrev pub check : Bool → RecordFault → Result ⊤ RecordFault
check true fault = Ok tt
check false fault = Err fault

-- the place of an earlier format
abbrev pub known : List ℕ → Draft → Result ℕ RecordFault
known puid draft = ok_or (place_of puid draft.registry.formats) UnknownPuid

-- an F record: a format with a PUID that no earlier format has
unfoldable pub format_taken : Draft → (puid name version mime empty : List ℕ) → Result Draft RecordFault
format_taken draft puid name version mime empty = do
  formed ← check (is_puid puid && is_name name && is_note version && is_note mime && is_empty empty) BadRecord
  fresh ← check (is_none (place_of puid draft.registry.formats)) DuplicatePuid
  room ← check (nat_lt (length draft.registry.formats) 4096) TooMany
  Ok (record draft {
    registry = with_format draft.registry (record { puid = puid; name = name; version = version; mime = mime });
    current = None;
  })

-- an E record: an extension that a format lists; the registry keeps it in lower case
unfoldable pub extension_taken : Draft → (puid extension empty more last : List ℕ) → Result Draft RecordFault
extension_taken draft puid extension empty more last = do
  formed ← check (is_puid puid && is_extension extension && is_empty empty && is_empty more && is_empty last) BadRecord
  place ← known puid draft
  room ← check (nat_lt (length draft.registry.extensions) 16384) TooMany
  Ok (record draft {
    registry = with_extension draft.registry (record { place = place; extension = str_to_ascii_lowercase extension });
    current = None;
  })

-- a P record: the priority of one format over another
unfoldable pub priority_taken : Draft → (puid other empty more last : List ℕ) → Result Draft RecordFault
priority_taken draft puid other empty more last = do
  formed ← check
      (is_puid puid && is_puid other && not (bytes_eq puid other) && is_empty empty && is_empty more && is_empty last)
      BadRecord
  place ← known puid draft
  over ← known other draft
  room ← check (nat_lt (length draft.registry.priorities) 16384) TooMany
  Ok (record draft { registry = with_priority draft.registry (record { place = place; over = over }); current = None })

-- the text of a pattern reads as these elements, or does not follow the grammar
abbrev pub ReadsAs : List ℕ → Option (List Element) → Type 0
ReadsAs text None = (elements : List Element) → Spells text elements → ⊥
ReadsAs text (Some elements) = Spells text elements

-- the outcome of a record with a pattern: a fault of the fields before the pattern, or what follows from the pattern
abbrev pub WithPattern : {H : Type 0} → Result H RecordFault → List ℕ
    → (H → Option (List Element) → Result Draft RecordFault) → Result Draft RecordFault → Type 0
WithPattern (Err fault) text added outcome = outcome ≡ Err fault
WithPattern (Ok head) text added outcome =
    (pattern : Option (List Element)) × ReadsAs text pattern × (outcome ≡ added head pattern)

-- an S record, before its pattern: a new signature of an earlier format
unfoldable pub signature_head : Draft → (puid anchor min max : List ℕ) → Result (ℕ × Offsets) RecordFault
signature_head draft puid anchor min max = do
  formed ← check (is_puid puid) BadRecord
  offsets ← ok_or (offsets_of anchor min max) BadRecord
  place ← known puid draft
  Ok (place, offsets)

-- the signature, with its first byte sequence
unfoldable pub signature_added : Draft → ℕ × Offsets → Option (List Element) → Result Draft RecordFault
signature_added draft head pattern = do
  elements ← ok_or pattern BadPattern
  room ← check (nat_lt (length draft.registry.signatures) 16384 && nat_lt draft.sequences 32768) TooMany
  Ok (record {
    registry =
        with_signature draft.registry (record {
          place = head.0;
          sequences = record { offsets = head.1; pattern = elements } ∷ [];
        });
    sequences = draft.sequences + 1;
    current = Some head.0;
  })

-- both are there and equal
abbrev pub is_same_place : Option ℕ → Option ℕ → Bool
is_same_place None b = false
is_same_place (Some a) None = false
is_same_place (Some a) (Some b) = a == b

-- a B record, before its pattern: it stands directly after an S or a B with the same PUID
unfoldable pub sequence_head : Draft → (puid anchor min max : List ℕ) → Result Offsets RecordFault
sequence_head draft puid anchor min max = do
  offsets ← ok_or (offsets_of anchor min max) BadRecord
  after ← check (is_same_place draft.current (place_of puid draft.registry.formats)) BadRecord
  Ok offsets

-- the last signature, with one more byte sequence
unfoldable pub sequence_added : Draft → Offsets → Option (List Element) → Result Draft RecordFault
sequence_added draft offsets pattern = do
  elements ← ok_or pattern BadPattern
  room ← check (nat_lt draft.sequences 32768) TooMany
  Ok (record draft {
    registry = with_sequence draft.registry (record { offsets = offsets; pattern = elements });
    sequences = draft.sequences + 1;
  })

-- the outcome of six texts, by the kind that the first one names
abbrev pub Judged : Draft → Option kinds.Kind → (a b c d e : List ℕ) → Result Draft RecordFault → Type 0
Judged draft None a b c d e outcome = outcome ≡ Err BadRecord
Judged draft (Some kinds.Format) a b c d e outcome = format_taken draft a b c d e ≡ outcome
Judged draft (Some kinds.Extension) a b c d e outcome = extension_taken draft a b c d e ≡ outcome
Judged draft (Some kinds.Priority) a b c d e outcome = priority_taken draft a b c d e ≡ outcome
Judged draft (Some kinds.Signature) a b c d e outcome =
    WithPattern (signature_head draft a b c d) e (signature_added draft) outcome
Judged draft (Some kinds.Sequence) a b c d e outcome =
    WithPattern (sequence_head draft a b c d) e (sequence_added draft) outcome

-- the outcome of a record: first its number of fields is judged, then whether they are UTF-8, then their content
pub data Step (draft : Draft) : List (List ℕ) → Result Draft RecordFault → Type 0 where
  miscounted : {fields : List (List ℕ)} → length fields ≢ 6 → Step draft fields (Err BadRecord)
  no_text : {fields : List (List ℕ)} → length fields ≡ 6 → (AllText fields → ⊥) → Step draft fields (Err NotUtf8)
  judged : {kind a b c d e : List ℕ} {outcome : Result Draft RecordFault} → AllText (kind ∷ a ∷ b ∷ c ∷ d ∷ e ∷ [])
      → Judged draft (kind_of kind) a b c d e outcome → Step draft (kind ∷ a ∷ b ∷ c ∷ d ∷ e ∷ []) outcome
