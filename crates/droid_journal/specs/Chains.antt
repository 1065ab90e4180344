-- The bytes of a journal, and what may stand behind its records (this project's own).
use Rattle.std.specs.Prelude.{◌≡◌, ℕ, ◌+◌, ◌≤◌, if◌then◌else◌, MatchBool, true, List, [], ◌∷◌, ◌++◌, codes, length}
use Rattle.std.specs.Prelude.{take, drop}
use Rattle.std.specs.Str.{bytes_eq}
use Rattle.md5.specs.Md5.{md5}
use Rattle.droid_journal.specs.Fronts.{IsFront}
use Rattle.droid_journal.specs.Records.{Record, Fits, AllFit, by_form, has_marks, next_check, place_after, record_bytes}
use Rattle.droid_journal.specs.Records.{sealed, turn_mark}
use Rattle.droid_journal.specs.declared.records.key.Form.{Form}
use Rattle.droid_journal.specs.declared.records.key.Form.TheVariants as forms
use Rattle.droid_journal.specs.declared.records.key.Key.{Key}
use Rattle.droid_journal.specs.declared.records.place.Place.{Place}

-- the records from this place on
abbrev pub chain_bytes : Key → Place → List Record → List ℕ
chain_bytes key place [] = []
chain_bytes key place (it ∷ its) = record_bytes key place it ++ chain_bytes key (place_after key place it) its

-- the place behind them
abbrev pub place_behind : Key → Place → List Record → Place
place_behind key place [] = place
place_behind key place (it ∷ its) = place_behind key (place_after key place it) its

-- "droid_desk journal 3", line feed
abbrev pub first_line_before : List ℕ
first_line_before = codes "droid_desk journal 3" ++ 10 ∷ []

-- a header with the first line of version 3 is of that version, any other of version 4
unfoldable pub form_of : List ℕ → Form
form_of header = if bytes_eq (take 21 header) first_line_before then forms.Before else forms.Present

-- the start value of a journal with this header, and the check value before its first record: the MD5 of the header
abbrev pub first_check : List ℕ → List ℕ
first_check header = md5 header

-- what all check values and marks of a journal with this header depend on
abbrev pub key_of : List ℕ → Key
key_of header = record { form = form_of header; start = first_check header }

-- where its first record stands
abbrev pub first_place : List ℕ → Place
first_place header = record { at = length header; check = first_check header; records = 0 }

-- a journal: its header, and the records
abbrev pub journal_bytes : List ℕ → List Record → List ℕ
journal_bytes header its = header ++ chain_bytes (key_of header) (first_place header) its

-- the place behind all its records
abbrev pub last_place : List ℕ → List Record → Place
last_place header its = place_behind (key_of header) (first_place header) its

-- bytes with their check value behind them: the header of version 4
abbrev pub checked : List ℕ → List ℕ
checked front = front ++ md5 front

-- the file of a journal whose last turn has its mark
abbrev pub marked_bytes : List ℕ → List Record → List ℕ
marked_bytes header its = journal_bytes header its ++ turn_mark (key_of header) (last_place header its).at

-- the bytes begin with this record, with a right check value
pub record BeginsWith (key : Key) (place : Place) (bytes : List ℕ) (it : Record) (after : Place) (rest : List ℕ)
    : Type 0 where
  pub parts : bytes ≡ record_bytes key place it ++ rest
  pub fits : Fits it
  pub after_is : after ≡ place_after key place it

-- no whole record with a right check value is at the front
abbrev pub BeginsNoRecord : Key → Place → List ℕ → Type 0
BeginsNoRecord key place bytes = (it : Record) (rest : List ℕ) → Fits it → bytes ≡ record_bytes key place it ++ rest → ⊥

-- the file is these records, and then a rest that begins with none
pub record Chain (header file : List ℕ) (its : List Record) (rest : List ℕ) : Type 0 where
  pub fit : AllFit its
  pub joined : file ≡ journal_bytes header its ++ rest
  pub ends : BeginsNoRecord (key_of header) (last_place header its) rest

-- ---- what shows damage

-- the beginning of a turn stands at the front of the bytes, which are those of this offset
abbrev pub IsMark : Key → ℕ → List ℕ → Type 0
IsMark key at bytes = IsFront (turn_mark key at) bytes

-- a place in a journal of version 3, of which a check value says that before it alone
abbrev pub place_with : List ℕ → Place
place_with check = record { at = 0; check = check; records = 0 }

-- Version 3: at the front a check value stands, and then a whole record, with a right check value behind it, that was
-- written when all before it was on the disk.
pub record IsLater (key : Key) (bytes : List ℕ) : Type 0 where
  pub check : List ℕ
  pub it : Record
  pub rest : List ℕ
  pub size : length check ≡ 16
  pub is_sealed : check ≡ sealed key.start (take 12 check)
  pub fits : Fits it
  pub first : it.first ≡ true
  pub there : bytes ≡ check ++ (record_bytes key (place_with check) it ++ rest)

-- the beginning of a later turn, by the form
abbrev pub StandsLater : Key → ℕ → List ℕ → Type 0
StandsLater key at bytes = MatchBool (has_marks key.form) (IsMark key at bytes) (IsLater key bytes)

-- one stands somewhere in the bytes, which begin at this offset: so what stands before it is no torn end, but was
-- damaged
abbrev pub HasLater : Key → ℕ → List ℕ → Type 0
HasLater key at bytes = (place : ℕ) × StandsLater key (at + place) (drop place bytes)

-- where a search for it begins: a mark at the very end of the records is right
abbrev pub skipped : Form → ℕ
skipped form = by_form form 0 1

-- what stands behind these records was not torn, but damaged: a later turn shows it
abbrev pub ShowsDamage : List ℕ → List Record → List ℕ → Type 0
ShowsDamage header its rest =
    HasLater (key_of header) ((last_place header its).at + skipped (form_of header))
    (drop (skipped (form_of header)) rest)

-- ---- premises

-- A premise. Where a whole record with a right check value stands behind records that were written, it is the next that
-- was written.
abbrev pub NotByChance : List ℕ → List Record → List ℕ → Type 0
NotByChance header written file =
    (before : List Record) (it : Record) (rest : List ℕ) → IsFront before written → Fits it
    → file ≡ journal_bytes header (before ++ it ∷ []) ++ rest → IsFront (before ++ it ∷ []) written

-- A turn began at this place of the journal of these records. (In version 3 the place is that of the check value
-- before.)
pub record WasBegun (header : List ℕ) (written : List Record) (place : ℕ) : Type 0 where
  pub before : List Record
  pub it : Record
  pub after : List Record
  pub parts : written ≡ before ++ it ∷ after
  pub first : it.first ≡ true
  pub at : place + by_form (form_of header) 16 0 ≡ length (journal_bytes header before)

-- The other premise. Where the beginning of a turn stands anywhere from a place on, it was written there.
abbrev pub NoneLaterByChance : List ℕ → List Record → List ℕ → ℕ → Type 0
NoneLaterByChance header written file from =
    (place : ℕ) → StandsLater (key_of header) place (drop place file) → from + skipped (form_of header) ≤ place
    → WasBegun header written place
