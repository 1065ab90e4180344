-- What goes to the writers of several records, one after the other.
use Rattle.std.proofs.Common.{◌≡◌, ℕ, Bool, true, false, MatchBool, List, [], ◌∷◌, ◌++◌, Option, Some, None, Result, Ok, Err, refl, sym, ap, ◌∙◌, subst, append_assoc, append-nil, arith}
use Rattle.std.specs.Prelude.{OnErr}
use Rattle.std.specs.List.{flat_map}
use Rattle.std.proofs.KnownBytes.{Appends-nil, Appends-trans}
use Rattle.droid_frame.specs.declared.io.stream_fault.WriteFault.{WriteFault}
use Rattle.droid_frame.specs.declared.io.stream_record.Seen.{Seen}
use Rattle.droid_frame.specs.declared.record.Record.{Record}
use Rattle.droid_export.specs.Text.{record_text}
use Rattle.droid_pronom.specs.Registry.{Contents}
use Rattle.droid_tree.specs.Observation.{GoesOver}
use Rattle.droid_profile.specs.Taking.{Breaks, BreaksCsv, BreaksList, BreaksOne, Goes, GoesOn, ListBreaks, ListGoes, Stays, TakesSoon}
use Rattle.droid_profile.specs.Texts.{line_of}
use Rattle.droid_profile.specs.declared.csv_recipient.CsvRecipient.{CsvRecipient}

joins : (pending added more written written_more middle after : List ℕ) → pending ++ added ≡ written ++ middle → middle ++ more ≡ written_more ++ after
    → pending ++ (added ++ more) ≡ (written ++ written_more) ++ after
joins pending added more written written_more middle after one two =
    sym (append_assoc pending added more)
    ∙ ap (λ (l : List ℕ). l ++ more) one
    ∙ append_assoc written middle more
    ∙ ap (λ (l : List ℕ). written ++ l) two
    ∙ sym (append_assoc written written_more after)

module _ {O : Type 0} (contents : O → Option (List ℕ)) (seen : O → Seen) where
  -- nothing was added and nothing written
  pub goes-none : (writer : O) (pending : List ℕ) → Goes contents seen writer writer pending pending []
  goes-none writer pending = record {
    written = [];
    are = append-nil pending;
    appended = Appends-nil (contents writer);
    lasts = λ sound. record { sound = sound; counted = omega arith };
  }

  pub goes-more : {a b c : O} {pending middle after added more : List ℕ} → Goes contents seen a b pending middle added → Goes contents seen b c middle after more
      → Goes contents seen a c pending after (added ++ more)
  goes-more {a} {b} {c} {pending} {middle} {after} {added} {more} one two = record {
    written = one.written ++ two.written;
    are = joins pending added more one.written two.written middle after one.are two.are;
    appended = Appends-trans (contents a) (contents b) (contents c) one.written two.written one.appended two.appended;
    lasts = λ sound. let first = one.lasts sound in let second = two.lasts first.sound in
        record { sound = second.sound; counted = omega (arith, first.counted, second.counted) };
  }

  pub goes-breaks : (room : O → Option ℕ) {a b c : O} {pending middle added more : List ℕ} → Goes contents seen a b pending middle added → Breaks contents seen room b c middle more
      → Breaks contents seen room a c pending (added ++ more)
  goes-breaks room {a} {b} {c} {pending} {middle} {added} {more} one two = record {
    written = one.written ++ two.written;
    rest = two.rest;
    are = joins pending added more one.written two.written middle two.rest one.are two.are;
    left = two.left;
    appended = Appends-trans (contents a) (contents b) (contents c) one.written two.written one.appended two.appended;
    stops = λ sound. let first = one.lasts sound in let second = two.stops first.sound in
        record { start = second.start; counted = omega (arith, first.counted, second.counted); stopped = second.stopped };
  }

  -- ---- the same of the list's writer, if there is one

  pub list_goes-none : (writer : Option O) (pending : List ℕ) → ListGoes contents seen writer writer pending pending []
  list_goes-none None pending = tt
  list_goes-none (Some writer) pending = goes-none writer pending

  pub list_goes-more : (a b c : Option O) (pending middle after added more : List ℕ) → ListGoes contents seen a b pending middle added → ListGoes contents seen b c middle after more
      → ListGoes contents seen a c pending after (added ++ more)
  list_goes-more None None None pending middle after added more one two = tt
  list_goes-more None None (Some c) pending middle after added more one two = absurd two
  list_goes-more None (Some b) c pending middle after added more one two = absurd one
  list_goes-more (Some a) None c pending middle after added more one two = absurd one
  list_goes-more (Some a) (Some b) None pending middle after added more one two = absurd two
  list_goes-more (Some a) (Some b) (Some c) pending middle after added more one two = goes-more one two

  pub list_goes-breaks : (room : O → Option ℕ) (a b c : Option O) (pending middle added more : List ℕ) → ListGoes contents seen a b pending middle added → ListBreaks contents seen room b c middle more
      → ListBreaks contents seen room a c pending (added ++ more)
  list_goes-breaks room None None c pending middle added more one two = absurd two
  list_goes-breaks room None (Some b) c pending middle added more one two = absurd one
  list_goes-breaks room (Some a) None c pending middle added more one two = absurd one
  list_goes-breaks room (Some a) (Some b) None pending middle added more one two = absurd two
  list_goes-breaks room (Some a) (Some b) (Some c) pending middle added more one two = goes-breaks room one two

-- ---- both writers

module _ {O M : Type 0} (contents : O → Option (List ℕ)) (seen : O → Seen) (list_contents : M → Option (List ℕ)) (list_seen : M → Seen) where
  pub on-none : (recipient : CsvRecipient O M) → GoesOn contents seen list_contents list_seen recipient [] [] recipient
  on-none recipient = record {
    registry = refl;
    csv = goes-none contents seen recipient.csv recipient.rows;
    list = list_goes-none list_contents list_seen recipient.manifest recipient.lines.items;
  }

  pub on-more : (old middle new : CsvRecipient O M) (rows lines rows_more lines_more : List ℕ) → GoesOn contents seen list_contents list_seen old rows lines middle
      → GoesOn contents seen list_contents list_seen middle rows_more lines_more new → GoesOn contents seen list_contents list_seen old (rows ++ rows_more) (lines ++ lines_more) new
  on-more old middle new rows lines rows_more lines_more one two = record {
    registry = two.registry ∙ one.registry;
    csv = goes-more contents seen one.csv two.csv;
    list = list_goes-more list_contents list_seen old.manifest middle.manifest new.manifest old.lines.items middle.lines.items new.lines.items lines lines_more one.list two.list;
  }

  pub on-breaks_csv : (room : O → Option ℕ) (old middle new : CsvRecipient O M) (rows lines rows_more lines_more : List ℕ) → GoesOn contents seen list_contents list_seen old rows lines middle
      → BreaksCsv contents seen room list_contents list_seen middle rows_more lines_more new → BreaksCsv contents seen room list_contents list_seen old (rows ++ rows_more) (lines ++ lines_more) new
  on-breaks_csv room old middle new rows lines rows_more lines_more one two = record {
    registry = two.registry ∙ one.registry;
    csv = goes-breaks contents seen room one.csv two.csv;
    list = list_goes-more list_contents list_seen old.manifest middle.manifest new.manifest old.lines.items middle.lines.items new.lines.items lines lines_more one.list two.list;
  }

  pub on-breaks_list : (list_room : M → Option ℕ) (old middle new : CsvRecipient O M) (rows lines rows_more lines_more : List ℕ) → GoesOn contents seen list_contents list_seen old rows lines middle
      → BreaksList contents seen list_contents list_seen list_room middle rows_more lines_more new → BreaksList contents seen list_contents list_seen list_room old (rows ++ rows_more) (lines ++ lines_more) new
  on-breaks_list list_room old middle new rows lines rows_more lines_more one two = record {
    registry = two.registry ∙ one.registry;
    csv = goes-more contents seen one.csv two.csv;
    list = list_goes-breaks list_contents list_seen list_room old.manifest middle.manifest new.manifest old.lines.items middle.lines.items lines lines_more one.list two.list;
  }

  pub on-breaks_one : (room : O → Option ℕ) (list_room : M → Option ℕ) (old middle new : CsvRecipient O M) (rows lines rows_more lines_more : List ℕ) → GoesOn contents seen list_contents list_seen old rows lines middle
      → BreaksOne contents seen room list_contents list_seen list_room middle rows_more lines_more new → BreaksOne contents seen room list_contents list_seen list_room old (rows ++ rows_more) (lines ++ lines_more) new
  on-breaks_one room list_room old middle new rows lines rows_more lines_more one two = by_flag new.wrote_list two
    where
      by_flag : (flag : Bool)
          → MatchBool flag (BreaksList contents seen list_contents list_seen list_room middle rows_more lines_more new) (BreaksCsv contents seen room list_contents list_seen middle rows_more lines_more new)
          → MatchBool flag (BreaksList contents seen list_contents list_seen list_room old (rows ++ rows_more) (lines ++ lines_more) new) (BreaksCsv contents seen room list_contents list_seen old (rows ++ rows_more) (lines ++ lines_more) new)
      by_flag true two = on-breaks_list list_room old middle new rows lines rows_more lines_more one two
      by_flag false two = on-breaks_csv room old middle new rows lines rows_more lines_more one two

  -- ---- where nothing more was added

  pub on-alone : (old middle new : CsvRecipient O M) (rows lines : List ℕ) → GoesOn contents seen list_contents list_seen old rows lines middle → GoesOn contents seen list_contents list_seen middle [] [] new
      → GoesOn contents seen list_contents list_seen old rows lines new
  on-alone old middle new rows lines one two =
      subst (λ (l : List ℕ). GoesOn contents seen list_contents list_seen old l lines new) (append-nil rows)
      (subst (λ (l : List ℕ). GoesOn contents seen list_contents list_seen old (rows ++ []) l new) (append-nil lines) (on-more old middle new rows lines [] [] one two))

  pub on-breaks_one_alone : (room : O → Option ℕ) (list_room : M → Option ℕ) (old middle new : CsvRecipient O M) (rows lines : List ℕ) → GoesOn contents seen list_contents list_seen old rows lines middle
      → BreaksOne contents seen room list_contents list_seen list_room middle [] [] new → BreaksOne contents seen room list_contents list_seen list_room old rows lines new
  on-breaks_one_alone room list_room old middle new rows lines one two =
      subst (λ (l : List ℕ). BreaksOne contents seen room list_contents list_seen list_room old l lines new) (append-nil rows)
      (subst (λ (l : List ℕ). BreaksOne contents seen room list_contents list_seen list_room old (rows ++ []) l new) (append-nil lines) (on-breaks_one room list_room old middle new rows lines [] [] one two))

  one_of_list : (room : O → Option ℕ) (list_room : M → Option ℕ) (old new : CsvRecipient O M) (rows lines : List ℕ) → BreaksList contents seen list_contents list_seen list_room old rows lines new
      → new.wrote_list ≡ true → BreaksOne contents seen room list_contents list_seen list_room old rows lines new
  one_of_list room list_room old new rows lines breaks is =
      subst (λ (flag : Bool). MatchBool flag (BreaksList contents seen list_contents list_seen list_room old rows lines new) (BreaksCsv contents seen room list_contents list_seen old rows lines new)) (sym is) breaks

  pub on-list_stopped : (room : O → Option ℕ) (list_room : M → Option ℕ) (old middle new : CsvRecipient O M) (result : Result (Unit {0}) WriteFault) → GoesOn contents seen list_contents list_seen old [] [] middle
      → OnErr result (BreaksList contents seen list_contents list_seen list_room middle [] [] new) → OnErr result (new.wrote_list ≡ true)
      → OnErr result (BreaksOne contents seen room list_contents list_seen list_room old [] [] new)
  on-list_stopped room list_room old middle new (Ok done) one breaks is = tt
  on-list_stopped room list_room old middle new (Err fault) one breaks is =
      on-breaks_one room list_room old middle new [] [] [] [] one (one_of_list room list_room middle new [] [] breaks is)

  pub list_stopped_after : (list_room : M → Option ℕ) (old middle new : CsvRecipient O M) → GoesOn contents seen list_contents list_seen old [] [] middle
      → (new.csv ≡ middle.csv) × (new.rows ≡ middle.rows) × (new.registry.now ≡ middle.registry.now)
      → ListBreaks list_contents list_seen list_room middle.manifest new.manifest middle.lines.items [] → BreaksList contents seen list_contents list_seen list_room old [] [] new
  list_stopped_after list_room old middle new one same breaks = record {
    registry = same.2 ∙ one.registry;
    csv = subst (λ (writer : O). Goes contents seen old.csv writer old.rows new.rows []) (sym same.0)
        (subst (λ (pending : List ℕ). Goes contents seen old.csv middle.csv old.rows pending []) (sym same.1) one.csv);
    list = list_goes-breaks list_contents list_seen list_room old.manifest middle.manifest new.manifest old.lines.items middle.lines.items [] [] one.list breaks;
  }

  -- nothing changed after it
  pub on-stays : (old middle new : CsvRecipient O M) (rows lines : List ℕ) → GoesOn contents seen list_contents list_seen old rows lines middle → Stays middle new
      → GoesOn contents seen list_contents list_seen old rows lines new
  on-stays old middle new rows lines one stays = record {
    registry = stays.registry ∙ one.registry;
    csv = subst (λ (writer : O). Goes contents seen old.csv writer old.rows new.rows rows) (sym stays.csv)
        (subst (λ (pending : List ℕ). Goes contents seen old.csv middle.csv old.rows pending rows) (sym stays.rows) one.csv);
    list = subst (λ (writer : Option M). ListGoes list_contents list_seen old.manifest writer old.lines.items new.lines.items lines) (sym stays.manifest)
        (subst (λ (pending : List ℕ). ListGoes list_contents list_seen old.manifest middle.manifest old.lines.items pending lines) (sym stays.lines) one.list);
  }

  -- ---- several records

  -- what goes to the writers of these records, from this recipient on
  abbrev pub TakesAll : CsvRecipient O M → List Record → CsvRecipient O M → Type 0
  TakesAll old records new = GoesOn contents seen list_contents list_seen old (flat_map (record_text old.registry.now) records) (flat_map line_of records) new

  pub takes_all : (old : CsvRecipient O M) (records : List Record) (new : CsvRecipient O M) → GoesOver (TakesSoon contents seen list_contents list_seen) old records new → TakesAll old records new
  takes_all old [] new same = subst (λ (r : CsvRecipient O M). GoesOn contents seen list_contents list_seen old [] [] r) (sym same) (on-none old)
  takes_all old (next ∷ records) new steps =
      let rest = takes_all steps.0 records new steps.2 in
      on-more old steps.0 new (record_text old.registry.now next) (line_of next) (flat_map (record_text old.registry.now) records) (flat_map line_of records) steps.1.0
      (subst (λ (registry : Contents). GoesOn contents seen list_contents list_seen steps.0 (flat_map (record_text registry) records) (flat_map line_of records) new) steps.1.0.registry rest)
