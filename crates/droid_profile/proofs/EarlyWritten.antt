-- A tree whose profile ended early, and what was written of it.
use Rattle.std.proofs.Common.{◌≡◌, ℕ, Bool, true, false, MatchBool, List, [], ◌++◌, Option, Err, refl, sym, ap, ◌∙◌, subst, append-nil}
use Rattle.std.specs.List.{flat_map}
use Rattle.droid_frame.specs.Seen.{IsSound}
use Rattle.droid_frame.specs.declared.io.stream_fault.WriteFault.{WriteFault}
use Rattle.droid_frame.specs.declared.io.stream_record.Seen.{Seen}
use Rattle.droid_frame.specs.declared.record.Record.{Record}
use Rattle.droid_export.specs.Text.{record_text}
use Rattle.droid_profile.specs.declared.fault.ProfileFault.{ProfileFault}
use Rattle.droid_profile.specs.declared.fault.ProfileFault.TheVariants as walk_faults
use Rattle.droid_profile.specs.declared.options.Options.{Options}
use Rattle.droid_profile.specs.declared.recipient.RecipientFault.TheVariants as recipient_faults
use Rattle.droid_profile.specs.Taking.{BreaksCsv, BreaksList, BreaksOne, EndsRest, Goes, GoesOn, ListBreaks, ListGoes, stopped_writer}
use Rattle.droid_profile.specs.Texts.{csv_text, line_of, list_text}
use Rattle.droid_profile.specs.Writers.{AppendsNotAll, AppendsSome, ListsNotAll, ListsSome}
use Rattle.droid_profile.specs.WrittenTrees.{CsvAtEnd, CsvIsFront, ListIsFront, ReportsCsv, ReportsList}
use Rattle.droid_profile.specs.declared.csv_fault.CsvFault.{CsvFault}
use Rattle.droid_profile.specs.declared.csv_fault.CsvFault.TheVariants as faults
use Rattle.droid_profile.specs.declared.csv_recipient.CsvRecipient.{CsvRecipient}
use Rattle.droid_profile.proofs.Endings.{Leaves}
use Rattle.droid_profile.proofs.Takings.{on-breaks_csv, on-breaks_list}
use Rattle.droid_profile.proofs.TreeWritten.{IsBegun, csv_lasts, csv_written, list_lasts_on, list_written, rows_written}
use Rattle.droid_profile.proofs.Written.{list_lasts, list_stops, not_all_appended, not_all_listed, some_appended, some_listed, text_of}

-- what was written of the texts of these records
pub record AreFronts {O M : Type 0} (contents : O → Option (List ℕ)) (seen : O → Seen) (room : O → Option ℕ) (list_contents : M → Option (List ℕ)) (list_seen : M → Seen) (list_room : M → Option ℕ) (options : Options) (shown : List Record) (fault : CsvFault) (start new : CsvRecipient O M) : Type 0 where
  pub csv : CsvIsFront fault (contents start.csv) (contents new.csv) (csv_text start.registry.now options shown)
  pub list : ListIsFront list_contents fault start.manifest new.manifest (list_text shown)
  pub csv_reports : IsSound (seen start.csv) → ReportsCsv (seen start.csv) (seen new.csv) (room new.csv) (Err fault)
  pub list_reports : ReportsList list_seen list_room start.manifest new.manifest (Err fault)
  pub registry : new.registry.now ≡ start.registry.now

module _ {O M : Type 0} (contents : O → Option (List ℕ)) (seen : O → Seen) (room : O → Option ℕ) (list_contents : M → Option (List ℕ)) (list_seen : M → Seen) (list_room : M → Option ℕ) (options : Options) (shown : List Record) (start : CsvRecipient O M) (begun : IsBegun options start) where
  abbrev rows : List ℕ
  rows = flat_map (record_text start.registry.now) shown

  abbrev lines : List ℕ
  lines = flat_map line_of shown

  text_is : start.rows ++ rows ≡ csv_text start.registry.now options shown
  text_is = ap (λ (l : List ℕ). l ++ rows) begun.rows ∙ text_of start.registry.now options shown

  list_some : (after : List ℕ) (new : Option M) → ListGoes list_contents list_seen start.manifest new start.lines.items after lines → ListsSome list_contents start.manifest new lines
  list_some after new goes = some_listed list_contents list_seen start.manifest new after lines
      (subst (λ (pending : List ℕ). ListGoes list_contents list_seen start.manifest new pending after lines) begun.lines goes)

  list_not_all : (new : Option M) → ListBreaks list_contents list_seen list_room start.manifest new start.lines.items lines → ListsNotAll list_contents start.manifest new lines
  list_not_all new breaks = not_all_listed list_contents list_seen list_room start.manifest new lines
      (subst (λ (pending : List ℕ). ListBreaks list_contents list_seen list_room start.manifest new pending lines) begun.lines breaks)

  -- the CSV's writer stopped
  pub fronts_csv : (new : CsvRecipient O M) → BreaksCsv contents seen room list_contents list_seen start rows lines new → AreFronts contents seen room list_contents list_seen list_room options shown faults.Csv start new
  fronts_csv new breaks = record {
    csv = subst (λ (text : List ℕ). AppendsNotAll (contents start.csv) (contents new.csv) text) text_is (not_all_appended contents seen room start.csv new.csv start.rows rows breaks.csv);
    list = list_some new.lines.items new.manifest breaks.list;
    csv_reports = breaks.csv.stops;
    list_reports = list_lasts list_contents list_seen list_room (Err faults.Csv) start.manifest new.manifest start.lines.items new.lines.items lines breaks.list (λ old now left lasts. lasts);
    registry = breaks.registry;
  }

  -- the list's writer stopped
  pub fronts_list : (new : CsvRecipient O M) → BreaksList contents seen list_contents list_seen list_room start rows lines new → AreFronts contents seen room list_contents list_seen list_room options shown faults.Manifest start new
  fronts_list new breaks = record {
    csv = subst (λ (text : List ℕ). AppendsSome (contents start.csv) (contents new.csv) text) text_is (some_appended contents seen start.csv new.csv start.rows new.rows rows breaks.csv);
    list = list_not_all new.manifest breaks.list;
    csv_reports = breaks.csv.lasts;
    list_reports = list_stops list_contents list_seen list_room start.manifest new.manifest start.lines.items lines breaks.list;
    registry = breaks.registry;
  }

  -- the writer stopped that was written to last
  pub fronts_one : (new : CsvRecipient O M) → BreaksOne contents seen room list_contents list_seen list_room start rows lines new
      → AreFronts contents seen room list_contents list_seen list_room options shown (stopped_writer new.wrote_list) start new
  fronts_one new breaks = by_flag new.wrote_list breaks
    where
      by_flag : (flag : Bool)
          → MatchBool flag (BreaksList contents seen list_contents list_seen list_room start rows lines new) (BreaksCsv contents seen room list_contents list_seen start rows lines new)
          → AreFronts contents seen room list_contents list_seen list_room options shown (stopped_writer flag) start new
      by_flag true breaks = fronts_list new breaks
      by_flag false breaks = fronts_csv new breaks

  -- the rest was written, or a writer stopped
  pub fronts_rest : (fault : CsvFault) (middle new : CsvRecipient O M) → GoesOn contents seen list_contents list_seen start rows lines middle
      → EndsRest contents seen room list_contents list_seen list_room fault middle new → AreFronts contents seen room list_contents list_seen list_room options shown fault start new
  fronts_rest faults.Memory middle new goes rest = record {
    csv = csv_written contents seen list_contents list_seen options shown start middle new begun goes rest;
    list = list_written contents seen list_contents list_seen options shown start middle new begun goes rest;
    csv_reports = csv_lasts contents seen list_contents list_seen shown start middle new goes rest;
    list_reports = list_lasts_on contents seen list_contents list_seen list_room (Err faults.Memory) shown start middle new goes rest (λ old now left lasts. lasts);
    registry = rest.registry ∙ goes.registry;
  }
  fronts_rest faults.Numbers middle new goes rest = record {
    csv = csv_written contents seen list_contents list_seen options shown start middle new begun goes rest;
    list = list_written contents seen list_contents list_seen options shown start middle new begun goes rest;
    csv_reports = csv_lasts contents seen list_contents list_seen shown start middle new goes rest;
    list_reports = list_lasts_on contents seen list_contents list_seen list_room (Err faults.Numbers) shown start middle new goes rest (λ old now left lasts. lasts);
    registry = rest.registry ∙ goes.registry;
  }
  fronts_rest faults.Csv middle new goes rest =
      let joined = on-breaks_csv contents seen list_contents list_seen room start middle new rows lines [] [] goes rest in
      fronts_csv new (subst (λ (l : List ℕ). BreaksCsv contents seen room list_contents list_seen start l lines new) (append-nil rows)
      (subst (λ (l : List ℕ). BreaksCsv contents seen room list_contents list_seen start (rows ++ []) l new) (append-nil lines) joined))
  fronts_rest faults.Manifest middle new goes rest =
      let joined = on-breaks_list contents seen list_contents list_seen list_room start middle new rows lines [] [] goes rest.breaks in
      fronts_list new (subst (λ (l : List ℕ). BreaksList contents seen list_contents list_seen list_room start l lines new) (append-nil rows)
      (subst (λ (l : List ℕ). BreaksList contents seen list_contents list_seen list_room start (rows ++ []) l new) (append-nil lines) joined))

  -- after the walk the rows are written before the lines
  pub csv_at_end : (fault : CsvFault) (middle new : CsvRecipient O M) → GoesOn contents seen list_contents list_seen start rows lines middle
      → EndsRest contents seen room list_contents list_seen list_room fault middle new → CsvAtEnd fault (contents start.csv) (contents new.csv) (csv_text start.registry.now options shown)
  csv_at_end faults.Memory middle new goes rest = csv_written contents seen list_contents list_seen options shown start middle new begun goes rest
  csv_at_end faults.Numbers middle new goes rest = csv_written contents seen list_contents list_seen options shown start middle new begun goes rest
  csv_at_end faults.Csv middle new goes rest = (fronts_rest faults.Csv middle new goes rest).csv
  csv_at_end faults.Manifest middle new goes rest =
      rows_written contents seen options shown start middle new begun goes.csv
      (subst (λ (pending : List ℕ). Goes contents seen middle.csv new.csv middle.rows pending []) rest.emptied rest.breaks.csv)

  -- ---- the fault of the walk

  -- what is done after a walk that ended early with this fault
  pub record EndsAfter (why : ProfileFault) (fault : CsvFault) (middle new : CsvRecipient O M) : Type 0 where
    pub writer : (stopped : WriteFault) → why ≡ walk_faults.Recipient (recipient_faults.Write stopped) → (new ≡ middle) × (fault ≡ stopped_writer middle.wrote_list)
    pub rest : ((stopped : WriteFault) → ¬ (why ≡ walk_faults.Recipient (recipient_faults.Write stopped))) → EndsRest contents seen room list_contents list_seen list_room fault middle new

  stopped_at : (fault : CsvFault) (middle new : CsvRecipient O M) → BreaksOne contents seen room list_contents list_seen list_room start rows lines middle
      → (new ≡ middle) × (fault ≡ stopped_writer middle.wrote_list) → AreFronts contents seen room list_contents list_seen list_room options shown fault start new
  stopped_at fault middle new breaks same =
      subst (λ (it : CsvFault). AreFronts contents seen room list_contents list_seen list_room options shown it start new) (sym same.1)
      (subst (λ (it : CsvRecipient O M). AreFronts contents seen room list_contents list_seen list_room options shown (stopped_writer middle.wrote_list) start it) (sym same.0) (fronts_one middle breaks))

  pub fronts_walk : (why : ProfileFault) (fault : CsvFault) (middle new : CsvRecipient O M) → Leaves contents seen room list_contents list_seen list_room start shown why middle → EndsAfter why fault middle new
      → AreFronts contents seen room list_contents list_seen list_room options shown fault start new
  fronts_walk walk_faults.Memory fault middle new leaves ends = fronts_rest fault middle new leaves (ends.rest (λ stopped same. cc))
  fronts_walk walk_faults.Numbers fault middle new leaves ends = fronts_rest fault middle new leaves (ends.rest (λ stopped same. cc))
  fronts_walk (walk_faults.Recipient recipient_faults.Memory) fault middle new leaves ends = fronts_rest fault middle new leaves (ends.rest (λ stopped same. cc))
  fronts_walk (walk_faults.Recipient (recipient_faults.Write stopped)) fault middle new leaves ends = stopped_at fault middle new leaves (ends.writer stopped refl)
