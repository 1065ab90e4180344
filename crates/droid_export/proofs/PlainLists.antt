-- Lists whose rows are all plain, by what `csv` reads of them.
use Rattle.std.proofs.Common.{◌≡◌, ◌∙◌, ◌++◌, ℕ, ◌+◌, Bool, true, false, List, [], ◌∷◌, Option, Some, None, IfSome, Result, Ok, length, refl, sym, ap, subst, arith}
use Rattle.csv.specs.Machine.{next_record}
use Rattle.csv.specs.Reading.{AreRecords, default_config, strip_bom}
use Rattle.csv.specs.declared.parser.State.TheVariants as st
use Rattle.droid_frame.specs.declared.hash_kind.HashKind.{HashKind}
use Rattle.droid_export.specs.Headers.{hash_of_header, header_by, header_of, whole}
use Rattle.droid_export.specs.declared.header.Header.{Header}
use Rattle.droid_export.specs.ReadingCalls.{IsProfileOf}
use Rattle.droid_export.specs.FormatRows.{format_rows, rows_behind, file_rows, rows_if, rows_of}
use Rattle.droid_export.specs.PlainRows.{IsOfRows, after_header}
use Rattle.droid_export.specs.Profiles.{Behind, Draft, Rows, after, after_rows, entry_of, items_from, judged, no_rows, profile_of, repeats, taken, with_entry, with_header, with_row}
use Rattle.droid_export.specs.declared.reading.fault.ListFault.{ListFault}
use Rattle.droid_export.specs.declared.reading.format_row.FormatRow.{FormatRow}
use Rattle.droid_export.specs.declared.reading.profile.Profile.{Profile}
use Rattle.droid_export.proofs.RowTypes.{Entry, RowFault}
use Rattle.droid_export.proofs.RecordReading.{more_by, none_by}
use Rattle.droid_export.proofs.ProfileReading.{Left, at_end, step}

-- a draft after some rows
abbrev pub draft_with : HashKind → ℕ → Rows → Option (List (List ℕ)) → Draft
draft_with digest n rows last = record { stage = Behind (whole digest); records = n; rows = rows; last = last }

-- n records, the header among them, come to these rows and formats
abbrev pub Comes : HashKind → Bool → List ℕ → List ℕ → ℕ → Rows → Option (List (List ℕ)) → List FormatRow → Type 0
Comes digest kept text rest n rows last read = (records : List (List (List ℕ))) → AreRecords default_config st.StartRecord text records
    → Left st.StartRecord rest (draft_with digest n rows last) kept read (items_from (after_header digest) records) (rows_if kept (rows_behind (whole digest) records))

pub comes_first : (digest : HashKind) (kept : Bool) (text : List ℕ) → Comes digest kept text text 1 no_rows None []
comes_first digest kept text = λ records are. record { rest = records; are = are; items = refl; formats = refl }

-- a row that is read leaves the rows with one more
row_taken : (draft : Draft) (digest : HashKind) (fields : List (List ℕ)) (entry : Entry) (rows : Rows) (read : Result Entry RowFault) → read ≡ Ok entry
    → with_entry (draft.records + 1) draft.rows entry (repeats draft.last fields) ≡ Ok rows
    → with_row draft digest fields read ≡ Ok (record { stage = draft.stage; records = draft.records + 1; rows = rows; last = Some fields })
row_taken draft digest fields entry rows read is more = ap (with_row draft digest fields) is ∙ ap (after_rows draft fields) more

pub comes_more : (digest : HashKind) (kept : Bool) (all text rest : List ℕ) (n : ℕ) (rows : Rows) (last : Option (List (List ℕ))) (read read_next : List FormatRow) (fields : List (List ℕ)) (entry : Entry) (next : Rows)
    → next_record default_config st.StartRecord [] [] text ≡ Some (fields, st.StartRecord, rest) → entry_of digest fields ≡ Ok entry
    → with_entry (n + 1) rows entry (repeats last fields) ≡ Ok next → read_next ≡ read ++ rows_if kept (rows_of fields)
    → Comes digest kept all text n rows last read → Comes digest kept all rest (n + 1) next (Some fields) read_next
comes_more digest kept all text rest n rows last read read_next fields entry next found is with grown comes = λ records are.
    let left = comes records are in
    let more = more_by default_config st.StartRecord text left.rest (fields, st.StartRecord, rest) found left.are in
    let draft = draft_with digest n rows last in
    let here : taken draft fields ≡ Ok (draft_with digest (n + 1) next (Some fields)) = row_taken draft digest fields entry next (entry_of digest fields) is with in
    step st.StartRecord st.StartRecord text rest fields more.0 draft (draft_with digest (n + 1) next (Some fields)) kept read read_next (items_from (after_header digest) records)
    (rows_if kept (rows_behind (whole digest) records)) more.2 here grown (left.items ∙ ap (items_from draft) more.1)
    (left.formats ∙ ap (λ (rest : List (List (List ℕ))). read ++ rows_if kept (rows_behind (whole digest) rest)) more.1)

pub comes_to : (digest : HashKind) (kept : Bool) (text : List ℕ) (n : ℕ) (rows : Rows) (last : Option (List (List ℕ))) (profile : Profile) (records : List (List (List ℕ)))
    → judged n rows ≡ Ok profile.items.items → Comes digest kept text [] n rows last profile.formats.items → AreRecords default_config st.StartRecord text records → IsOfRows digest kept records profile
unfolding next_record
comes_to digest kept text n rows last profile records is comes are =
    let left = comes records are in
    let ends = at_end st.StartRecord [] (draft_with digest n rows last) kept profile.formats.items (items_from (after_header digest) records) (rows_if kept (rows_behind (whole digest) records)) left
    (none_by default_config st.StartRecord [] left.rest refl left.are) in
    record { items = ends.0 ∙ is; its_formats = sym ends.1 }

pub nothing_in : (text : List ℕ) → length text ≡ 0 → text ≡ []
nothing_in [] none = refl
nothing_in (b ∷ text) none = absurd (omega (arith, none))

-- a header with all columns has those that are needed
begins : (digest : HashKind) (formats : Bool) → with_header formats (Some (whole digest)) ≡ Ok (after_header digest)
begins digest true = refl
begins digest false = refl

-- the header, and what comes of the rows
with_rows : (digest : HashKind) (formats : Bool) (text rest : List ℕ) (header : List (List ℕ)) (profile : Profile) (records : List (List (List ℕ)))
    → next_record default_config st.StartRecord [] [] text ≡ Some (header, st.StartRecord, rest) → strip_bom text ≡ text → hash_of_header header ≡ Some digest
    → ((rows : List (List (List ℕ))) → AreRecords default_config st.StartRecord rest rows → IsOfRows digest formats rows profile)
    → AreRecords default_config st.StartRecord (strip_bom text) records → IsProfileOf formats records profile
with_rows digest formats text rest header profile records next unmarked is rows are =
    let more = more_by default_config st.StartRecord text records (header, st.StartRecord, rest) next (subst (λ (t : List ℕ). AreRecords default_config st.StartRecord t records) unmarked are) in
    let found : header_of header ≡ Some (whole digest) = ap (header_by header) is in
    let of_rows = rows more.0 more.2 in
    record {
      items = ap (profile_of formats) more.1
          ∙ (ap (λ (o : Option Header). after (with_header formats o) (λ one. items_from one more.0)) found
          ∙ (ap (λ (r : Result Draft ListFault). after r (λ one. items_from one more.0)) (begins digest formats)
          ∙ of_rows.items));
      its_formats = of_rows.its_formats
          ∙ sym (ap (λ (all : List (List (List ℕ))). rows_if formats (format_rows all)) more.1 ∙ ap (λ (o : Option Header). rows_if formats (file_rows o more.0)) found);
    }

-- the same, if there are rows
pub rows_found : (digest : HashKind) (formats : Bool) (text rest : List ℕ) (header : List (List ℕ)) (profile : Option Profile)
    → next_record default_config st.StartRecord [] [] text ≡ Some (header, st.StartRecord, rest) → strip_bom text ≡ text → hash_of_header header ≡ Some digest
    → IfSome profile (λ all. (rows : List (List (List ℕ))) → AreRecords default_config st.StartRecord rest rows → IsOfRows digest formats rows all)
    → IfSome profile (λ all. (records : List (List (List ℕ))) → AreRecords default_config st.StartRecord (strip_bom text) records → IsProfileOf formats records all)
rows_found digest formats text rest header None next unmarked is rows = tt
rows_found digest formats text rest header (Some all) next unmarked is rows = λ records are. with_rows digest formats text rest header all records next unmarked is rows are
