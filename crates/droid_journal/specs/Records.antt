-- Records of a journal: an accepted request and its reply as frames, and a check value that chains the record to the
-- one before it (this project's own).
use Rattle.std.specs.Prelude.{ℕ, ◌+◌, ◌≤◌, if◌then◌else◌, Bool, true, false, List, [], ◌∷◌, ◌++◌, length, take, drop}
use Rattle.std.specs.Prelude.{slice_index}
use Rattle.std.specs.Int.{w32, w64, to_be_bytes}
use Rattle.std.specs.List.{AllByRecursion}
use Rattle.md5.specs.Md5.{md5}
use Rattle.droid_journal.specs.declared.records.key.Form.{Form}
use Rattle.droid_journal.specs.declared.records.key.Form.TheVariants as forms
use Rattle.droid_journal.specs.declared.records.key.Key.{Key}
use Rattle.droid_journal.specs.declared.records.place.Place.{Place}

-- an accepted request and its reply, as frames; `first`: all records before it were on the disk when it was written
pub record Record : Type 0 where
  pub first : Bool
  pub request : List ℕ
  pub reply : List ℕ

-- the record of these
abbrev pub made : Bool → List ℕ → List ℕ → Record
made first request reply = record { first = first; request = request; reply = reply }

-- the request has at least the 18 bytes of a frame's header, and the whole record has at most 8 MiB
pub record Fits (it : Record) : Type 0 where
  pub header : 18 ≤ length it.request
  pub size : length it.request + length it.reply + 41 ≤ 8388608

-- each record does
abbrev pub AllFit : List Record → Type 0
AllFit its = AllByRecursion Fits its

-- the byte that a record begins with
abbrev pub first_byte : Bool → ℕ
first_byte first = if first then 1 else 0

-- four bytes of length, and that many bytes
abbrev pub string : List ℕ → List ℕ
string bytes = to_be_bytes w32 (length bytes) ++ bytes

-- ---- the form of a journal

-- a journal of version 4 has marks
abbrev pub has_marks : Form → Bool
has_marks forms.Before = false
has_marks forms.Present = true

-- of two values, that of the form
abbrev pub by_form : {A : Type 0} → Form → A → A → A
by_form form before present = if has_marks form then present else before

-- ---- marks

-- the mark at this offset of a file: only who knows the start value can make it, and it is right nowhere else
unfoldable pub mark_at : Key → ℕ → List ℕ
mark_at key at = md5 (key.start ++ to_be_bytes w64 at)

-- the bytes of the beginning of a turn: all before them is on the disk
abbrev pub turn_mark : Key → ℕ → List ℕ
turn_mark key at = 1 ∷ mark_at key at

-- the beginning of a record, where this mark would stand
abbrev pub front_by : Form → List ℕ → Bool → List ℕ
front_by form mark first = if first then by_form form (1 ∷ []) (1 ∷ mark) else 0 ∷ []

-- the beginning of a record at this place
abbrev pub front_bytes : Key → Place → Bool → List ℕ
front_bytes key place first = front_by key.form (mark_at key place.at) first

-- the bytes between that and the check value
abbrev pub body : Record → List ℕ
body it = string it.request ++ string it.reply

-- ---- the checksum of a request

-- The checksum of a request's frame: the MD5 (RFC 1321) of its kind and its body, behind a header of 18 bytes. It is
-- the mark by which a service knows the request again.
abbrev pub checksum : List ℕ → List ℕ
checksum request = md5 (slice_index request 1 ∷ drop 18 request)

-- ---- check values

-- where the record stands: version 3 does not say it
abbrev pub place_bytes : Form → Place → List ℕ
place_bytes form place = by_form form [] (to_be_bytes w64 place.at ++ to_be_bytes w64 place.records)

-- the MD5 of a record of this journal at this place
unfoldable pub digest : Key → Place → Record → List ℕ
digest key place it =
    md5
    (key.start
    ++ (place.check
    ++ (place_bytes key.form place
    ++ (first_byte it.first ∷ (take 18 it.request ++ (checksum it.request ++ it.reply))))))

-- twelve bytes and a seal of four: only who knows the start value can seal them
abbrev pub sealed : List ℕ → List ℕ → List ℕ
sealed start bytes = bytes ++ take 4 (md5 (start ++ bytes))

-- The check value of that record. In version 3 it is sealed, so that whoever searches for records need not hash what
-- stands behind bytes that are no check value.
unfoldable pub next_check : Key → Place → Record → List ℕ
next_check key place it = by_form key.form (sealed key.start (take 12 (digest key place it))) (digest key place it)

-- all bytes of a record at this place
unfoldable pub record_bytes : Key → Place → Record → List ℕ
record_bytes key place it = front_bytes key place it.first ++ (body it ++ next_check key place it)

-- the place behind that record
abbrev pub place_after : Key → Place → Record → Place
place_after key place it = record {
  at = place.at + length (record_bytes key place it);
  check = next_check key place it;
  records = place.records + 1;
}
