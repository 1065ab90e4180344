-- The texts that are written of a tree.
use Rattle.std.proofs.Common.{◌≡◌, ℕ, Bool, List, [], ◌++◌, Option, Some, None, Result, Err, refl, sym, ◌∙◌, subst, append-nil}
use Rattle.std.specs.List.{flat_map}
use Rattle.std.specs.Io.KnownBytes.{Appends}
use Rattle.droid_frame.specs.declared.io.stream_record.Seen.{Seen}
use Rattle.droid_frame.specs.declared.record.Record.{Record}
use Rattle.droid_export.proofs.Records.{text_by_records}
use Rattle.droid_export.specs.Rows.{header}
use Rattle.droid_export.specs.Text.{record_text, row_text}
use Rattle.droid_pronom.specs.Registry.{Contents}
use Rattle.droid_profile.specs.declared.options.Options.{Options}
use Rattle.droid_profile.specs.Taking.{Breaks, Goes, ListBreaks, ListGoes}
use Rattle.droid_profile.specs.Texts.{csv_text, everything}
use Rattle.droid_profile.specs.Writers.{AppendsNotAll, AppendsSome, LastsOn, Lists, ListsNotAll, ListsSome}
use Rattle.droid_profile.specs.WrittenTrees.{ReportsList, ReportsManifest}
use Rattle.droid_profile.specs.declared.csv_fault.CsvFault.{CsvFault}
use Rattle.droid_profile.specs.declared.csv_fault.CsvFault.TheVariants as faults

-- the header and the rows of each record
pub text_of : (registry : Contents) (options : Options) (shown : List Record) → row_text (header options.hash) ++ flat_map (record_text registry) shown ≡ csv_text registry options shown
text_of registry options shown = sym (text_by_records registry everything options.hash shown refl)

module _ {O : Type 0} (contents : O → Option (List ℕ)) (seen : O → Seen) where
  pub all_appended : (a b : O) (pending added : List ℕ) → Goes contents seen a b pending [] added → Appends (contents a) (contents b) (pending ++ added)
  all_appended a b pending added goes = subst (λ (text : List ℕ). Appends (contents a) (contents b) text) (sym (goes.are ∙ append-nil goes.written)) goes.appended

  pub some_appended : (a b : O) (pending after added : List ℕ) → Goes contents seen a b pending after added → AppendsSome (contents a) (contents b) (pending ++ added)
  some_appended a b pending after added goes = record { written = goes.written; rest = after; are = goes.are; appended = goes.appended }

  pub not_all_appended : (room : O → Option ℕ) (a b : O) (pending added : List ℕ) → Breaks contents seen room a b pending added → AppendsNotAll (contents a) (contents b) (pending ++ added)
  not_all_appended room a b pending added breaks = record {
    some = record { written = breaks.written; rest = breaks.rest; are = breaks.are; appended = breaks.appended };
    left = breaks.left;
  }

  pub all_listed : (a b : Option O) (added : List ℕ) → ListGoes contents seen a b [] [] added → Lists contents a b added
  all_listed None None added goes = tt
  all_listed None (Some b) added goes = absurd goes
  all_listed (Some a) None added goes = absurd goes
  all_listed (Some a) (Some b) added goes = all_appended a b [] added goes

  pub some_listed : (a b : Option O) (after added : List ℕ) → ListGoes contents seen a b [] after added → ListsSome contents a b added
  some_listed None None after added goes = tt
  some_listed None (Some b) after added goes = absurd goes
  some_listed (Some a) None after added goes = absurd goes
  some_listed (Some a) (Some b) after added goes = some_appended a b [] after added goes

  pub not_all_listed : (room : O → Option ℕ) (a b : Option O) (added : List ℕ) → ListBreaks contents seen room a b [] added → ListsNotAll contents a b added
  not_all_listed room None b added breaks = absurd breaks
  not_all_listed room (Some a) None added breaks = absurd breaks
  not_all_listed room (Some a) (Some b) added breaks = not_all_appended room a b [] added breaks

  -- ---- which writer stopped

  -- with this result the list's writer has not stopped
  abbrev pub Lasting : Result Bool CsvFault → Type 0
  Lasting result = (old new : Seen) (left : Option ℕ) → LastsOn old new → ReportsManifest old new left result

  pub list_lasts : (room : O → Option ℕ) (result : Result Bool CsvFault) (a b : Option O) (pending after added : List ℕ) → ListGoes contents seen a b pending after added → Lasting result
      → ReportsList seen room a b result
  list_lasts room result None None pending after added goes lasting = tt
  list_lasts room result None (Some b) pending after added goes lasting = absurd goes
  list_lasts room result (Some a) None pending after added goes lasting = absurd goes
  list_lasts room result (Some a) (Some b) pending after added goes lasting = λ sound. lasting (seen a) (seen b) (room b) (goes.lasts sound)

  pub list_stops : (room : O → Option ℕ) (a b : Option O) (pending added : List ℕ) → ListBreaks contents seen room a b pending added
      → ReportsList seen room a b (Err faults.Manifest)
  list_stops room None b pending added breaks = absurd breaks
  list_stops room (Some a) None pending added breaks = absurd breaks
  list_stops room (Some a) (Some b) pending added breaks = breaks.stops
