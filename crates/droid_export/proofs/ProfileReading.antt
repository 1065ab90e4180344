-- A profile, record by record.
use Rattle.std.proofs.Common.{Bor, ◌≡◌, ◌∙◌, ◌++◌, ℕ, Bool, true, false, List, [], ◌∷◌, Option, Some, None, IfOk, Vec, Global, Result, Ok, Err, append-nil, append_assoc, refl, sym, ap, subst}
use Rattle.csv.specs.Reading.{AreRecords, ReadRecord, default_config, source_of}
use Rattle.csv.specs.declared.parser.State.{State}
use Rattle.csv.specs.declared.reader.Reader.{Reader}
use Rattle.csv.proofs.ReadFacts.{rows-end}
use Rattle.droid_export.specs.Headers.{header_of, missing, whole_row}
use Rattle.droid_export.specs.declared.column.Column.{Column}
use Rattle.droid_export.specs.declared.header.Header.{Header}
use Rattle.droid_export.proofs.RecordReading.{IsNext, more_by, none_by, rest_of}
use Rattle.droid_frame.specs.declared.hash_kind.HashKind.{HashKind}
use Rattle.droid_frame.specs.declared.item.Item.{Item}
use Rattle.droid_export.specs.ReadingCalls.{Gives, GivesProfile, items_in}
use Rattle.droid_export.specs.FormatRows.{format_rows, rows_added, rows_behind, file_rows, rows_if, rows_left, rows_of}
use Rattle.droid_export.specs.Profiles.{Before, Behind, Draft, Rows, Stage, after, after_rows, entry_of, finished, items_from, needed, profile_of, repeats, taken, taken_by, with_columns, with_entry, with_header, with_row}
use Rattle.droid_export.specs.declared.reading.fault.ListFault.{ListFault}
use Rattle.droid_export.specs.declared.reading.format_row.FormatRow.{FormatRow}
use Rattle.droid_export.specs.declared.reading.profile.Profile.{Profile}
use Rattle.droid_export.proofs.RowTypes.{RowFault, Entry}

-- ---- where a record leaves the draft

-- after a record, the header was read: it is that of the record, or that of before
abbrev Follows : Stage → List (List ℕ) → Stage → Type 0
Follows (Before formats) fields next = (header : Header) × (header_of fields ≡ Some header) × (next ≡ Behind header)
Follows (Behind header) fields next = next ≡ Behind header

by_columns : (header : Header) (lacking : Option Column) (next : Draft) → with_columns header lacking ≡ Ok next → next.stage ≡ Behind header
by_columns header (Some column) next is = cc
by_columns header None next is = cc

by_header : (formats : Bool) (fields : List (List ℕ)) (found : Option Header) (next : Draft) → header_of fields ≡ found → with_header formats found ≡ Ok next → Follows (Before formats) fields next.stage
by_header formats fields None next found is = cc
by_header formats fields (Some header) next found is = (header, found, by_columns header (missing (needed formats) header) next is)

by_rows : (draft : Draft) (row : List (List ℕ)) (rows : Result Rows ListFault) (next : Draft) → after_rows draft row rows ≡ Ok next → next.stage ≡ draft.stage
by_rows draft row (Err fault) next is = cc
by_rows draft row (Ok rows) next is = cc

by_row : (draft : Draft) (hash : HashKind) (row : List (List ℕ)) (read : Result Entry RowFault) (next : Draft) → with_row draft hash row read ≡ Ok next → next.stage ≡ draft.stage
by_row draft hash row (Err fault) next is = cc
by_row draft hash row (Ok entry) next is = by_rows draft row (with_entry _ draft.rows entry (repeats draft.last row)) next is

by_stage : (draft : Draft) (stage : Stage) (fields : List (List ℕ)) (next : Draft) → draft.stage ≡ stage → taken_by draft stage fields ≡ Ok next → Follows stage fields next.stage
by_stage draft (Before formats) fields next at is = by_header formats fields (header_of fields) next refl is
by_stage draft (Behind header) fields next at is =
    by_row draft header.hash (whole_row header fields) (entry_of header.hash (whole_row header fields)) next is ∙ at

-- ---- formats

one_more : (kept : Bool) (here more : List FormatRow) → rows_if kept (here ++ more) ≡ rows_if kept here ++ rows_if kept more
one_more true here more = refl
one_more false here more = refl

rows_more : (kept : Bool) (stage next : Stage) (fields : List (List ℕ)) (rest : List (List (List ℕ))) → Follows stage fields next
    → rows_left kept stage (fields ∷ rest) ≡ rows_added kept stage fields ++ rows_left kept next rest
rows_more kept (Before formats) next fields rest follows =
    ap (λ (found : Option Header). rows_if kept (file_rows found rest)) follows.1 ∙ ap (λ (it : Stage). rows_left kept it rest) (sym follows.2)
rows_more kept (Behind header) next fields rest follows =
    one_more kept (rows_of (whole_row header fields)) (rows_behind header rest)
    ∙ ap (λ (it : Stage). rows_if kept (rows_of (whole_row header fields)) ++ rows_left kept it rest) (sym follows)

none_more : (kept : Bool) (stage : Stage) → rows_left kept stage [] ≡ []
none_more true (Before formats) = refl
none_more false (Before formats) = refl
none_more true (Behind header) = refl
none_more false (Behind header) = refl

-- ---- what is left

-- what is left comes to what all records come to, and so do its formats behind those that were read
pub record Left (state : State) (bytes : List ℕ) (draft : Draft) (kept : Bool) (read : List FormatRow) (whole : Result (List Item) ListFault) (all : List FormatRow) : Type 0 where
  pub rest : List (List (List ℕ))
  pub are : AreRecords default_config state bytes rest
  pub items : whole ≡ items_from draft rest
  pub formats : all ≡ read ++ rows_left kept draft.stage rest

-- a step from records to those behind the first
pub step : (state next_state : State) (bytes next_bytes : List ℕ) (fields : List (List ℕ)) (rest : List (List (List ℕ))) (draft next : Draft) (kept : Bool) (read read_next : List FormatRow)
    (whole : Result (List Item) ListFault) (all : List FormatRow) → AreRecords default_config next_state next_bytes rest → taken draft fields ≡ Ok next
    → read_next ≡ read ++ rows_added kept draft.stage fields → whole ≡ items_from draft (fields ∷ rest) → all ≡ read ++ rows_left kept draft.stage (fields ∷ rest)
    → Left next_state next_bytes next kept read_next whole all
step state next_state bytes next_bytes fields rest draft next kept read read_next whole all are here grown items formats = record {
  rest = rest;
  are = are;
  items = items ∙ ap (λ (r : Result Draft ListFault). after r (λ one. items_from one rest)) here;
  formats = formats
      ∙ (ap (λ (rows : List FormatRow). read ++ rows) (rows_more kept draft.stage next.stage fields rest (by_stage draft draft.stage fields next refl here))
      ∙ (sym (append_assoc read (rows_added kept draft.stage fields) (rows_left kept next.stage rest))
      ∙ ap (λ (front : List FormatRow). front ++ rows_left kept next.stage rest) (sym grown)));
}

pub left_more : (a b : Reader (Bor (List ℕ))) (y : List ℕ) (fields : List (List ℕ)) (n : IsNext a b y fields) (draft next : Draft) (kept : Bool) (read read_next : List FormatRow)
    (whole : Result (List Item) ListFault) (all : List FormatRow) → taken draft fields ≡ Ok next → read_next ≡ read ++ rows_added kept draft.stage fields
    → Left a.state y draft kept read whole all → Left b.state n.rest next kept read_next whole all
left_more a b y fields n draft next kept read read_next whole all taken_here grown left =
    let more = more_by default_config a.state y left.rest n.read n.is left.are in
    let here : taken draft n.read.0 ≡ Ok next = subst (λ (f : List (List ℕ)). taken draft f ≡ Ok next) n.fields taken_here in
    step a.state b.state y n.rest n.read.0 more.0 draft next kept read read_next whole all
    (subst (λ (s : State). AreRecords default_config s n.rest more.0) n.state (subst (λ (r : List ℕ). AreRecords default_config n.read.1 r more.0) n.left more.2))
    here (grown ∙ ap (λ (f : List (List ℕ)). read ++ rows_added kept draft.stage f) n.fields) (left.items ∙ ap (items_from draft) more.1)
    (left.formats ∙ ap (λ (records : List (List (List ℕ))). read ++ rows_left kept draft.stage records) more.1)

pub left_fault : (a b : Reader (Bor (List ℕ))) (y : List ℕ) (fields : List (List ℕ)) (n : IsNext a b y fields) (draft : Draft) (kept : Bool) (read : List FormatRow) (fault : ListFault)
    (whole : Result (List Item) ListFault) (all : List FormatRow) → taken draft fields ≡ Err fault → Left a.state y draft kept read whole all → whole ≡ Err fault
left_fault a b y fields n draft kept read fault whole all taken_here left =
    let more = more_by default_config a.state y left.rest n.read n.is left.are in
    let here : taken draft n.read.0 ≡ Err fault = subst (λ (f : List (List ℕ)). taken draft f ≡ Err fault) n.fields taken_here in
    left.items ∙ (ap (items_from draft) more.1 ∙ ap (λ (r : Result Draft ListFault). after r (λ one. items_from one more.0)) here)

-- no record is left
pub at_end : (state : State) (bytes : List ℕ) (draft : Draft) (kept : Bool) (read : List FormatRow) (whole : Result (List Item) ListFault) (all : List FormatRow) (left : Left state bytes draft kept read whole all)
    → left.rest ≡ [] → (whole ≡ finished draft.stage draft.records draft.rows) × (all ≡ read)
at_end state bytes draft kept read whole all left none = (
  left.items ∙ ap (items_from draft) none,
  left.formats
      ∙ (ap (λ (records : List (List (List ℕ))). read ++ rows_left kept draft.stage records) none
      ∙ (ap (λ (rows : List FormatRow). read ++ rows) (none_more kept draft.stage) ∙ append-nil read)),
)

pub left_end : (a b : Reader (Bor (List ℕ))) (y : List ℕ) (fields : List (List ℕ)) (draft : Draft) (kept : Bool) (read : List FormatRow) (whole : Result (List Item) ListFault) (all : List FormatRow)
    → a.config ≡ default_config → source_of rest_of a ≡ Some y → ReadRecord rest_of a b false fields → Left a.state y draft kept read whole all
    → (whole ≡ finished draft.stage draft.records draft.rows) × (all ≡ read)
left_end a b y fields draft kept read whole all config source reads left =
    at_end a.state y draft kept read whole all left (none_by default_config a.state y left.rest (rows-end rest_of a b fields default_config y config source reads) left.are)

-- what a draft that is finished gives
pub finished_gives : (formats : Bool) (records : List (List (List ℕ))) (draft : Draft) (kept : Vec FormatRow Global) (result : Result Profile ListFault) → Gives (items_in result) (finished draft.stage draft.records draft.rows)
    → IfOk result (λ profile. profile.formats ≡ kept) → profile_of formats records ≡ finished draft.stage draft.records draft.rows → rows_if formats (format_rows records) ≡ kept.items → GivesProfile formats records result
finished_gives formats records draft kept (Ok profile) gives has whole all = record { items = whole ∙ gives; its_formats = ap (λ (v : Vec FormatRow Global). v.items) has ∙ sym all }
finished_gives formats records draft kept (Err fault) gives has whole all = λ some. whole ∙ gives some
