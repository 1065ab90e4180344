-- A tree that was walked to its end, and whose texts were written.
use Rattle.std.proofs.Common.{◌≡◌, ℕ, Bool, List, [], ◌∷◌, ◌++◌, Option, Result, sym, ap, ◌∙◌, subst, append-nil}
use Rattle.std.specs.List.{flat_map}
use Rattle.std.specs.Io.KnownBytes.{Appends}
use Rattle.droid_frame.specs.Seen.{IsSound}
use Rattle.droid_frame.specs.declared.io.stream_record.Seen.{Seen}
use Rattle.droid_frame.specs.declared.record.Record.{Record}
use Rattle.droid_export.specs.Rows.{header}
use Rattle.droid_export.specs.Text.{record_text, row_text}
use Rattle.droid_pronom.specs.Registry.{Contents}
use Rattle.droid_tree.specs.Heard.{Heard}
use Rattle.droid_tree.specs.Observation.{Observation}
use Rattle.droid_tree.specs.Paths.{top}
use Rattle.droid_profile.proofs.NodePaths.{known_top}
use Rattle.droid_profile.proofs.ShownTree.{visits_shown}
use Rattle.droid_profile.proofs.SomeNodes.{tree_nodes}
use Rattle.droid_profile.specs.ProfileRecords.{records_of}
use Rattle.droid_profile.specs.Profiles.{ProfilesTree}
use Rattle.droid_profile.specs.declared.options.Options.{Options}
use Rattle.droid_profile.specs.Taking.{Goes, GoesOn, ListGoes, TakesSoon, WritesRest}
use Rattle.droid_profile.specs.Texts.{csv_text, line_of, list_text}
use Rattle.droid_profile.specs.Writers.{LastsOn, Lists}
use Rattle.droid_profile.specs.WrittenTrees.{ReportsList, WritesTree}
use Rattle.droid_profile.specs.declared.csv_fault.CsvFault.{CsvFault}
use Rattle.droid_profile.specs.declared.csv_recipient.CsvRecipient.{CsvRecipient}
use Rattle.droid_profile.proofs.Endings.{profiled_list}
use Rattle.droid_profile.proofs.Takings.{goes-more, list_goes-more, takes_all}
use Rattle.droid_profile.proofs.Written.{Lasting, all_appended, all_listed, list_lasts, text_of}

-- a recipient that was begun: the names of the columns are pending, and no line is
pub record IsBegun {O M : Type 0} (options : Options) (start : CsvRecipient O M) : Type 0 where
  pub rows : start.rows ≡ row_text (header options.hash)
  pub lines : start.lines.items ≡ []

-- the recipient that was begun has the writers and the registry of the one before
pub record Begins {O M : Type 0} (options : Options) (old start : CsvRecipient O M) : Type 0 where
  pub begun : IsBegun options start
  pub registry : start.registry.now ≡ old.registry.now
  pub csv : start.csv ≡ old.csv
  pub manifest : start.manifest ≡ old.manifest

-- so what is said of it is said of the one before
pub at_old : {O M : Type 0} (P : Contents → O → Option M → Type 0) (options : Options) (old start : CsvRecipient O M) → Begins options old start
    → P start.registry.now start.csv start.manifest → P old.registry.now old.csv old.manifest
at_old {O} {M} P options old start begins said =
    subst (λ (registry : Contents). P registry old.csv old.manifest) begins.registry
    (subst (λ (writer : O). P start.registry.now writer old.manifest) begins.csv (subst (λ (writer : Option M). P start.registry.now start.csv writer) begins.manifest said))

-- all rows of these records were written
pub rows_written : {O M : Type 0} (contents : O → Option (List ℕ)) (seen : O → Seen) (options : Options) (shown : List Record) (start middle new : CsvRecipient O M) → IsBegun options start
    → Goes contents seen start.csv middle.csv start.rows middle.rows (flat_map (record_text start.registry.now) shown)
    → Goes contents seen middle.csv new.csv middle.rows [] []
    → Appends (contents start.csv) (contents new.csv) (csv_text start.registry.now options shown)
rows_written contents seen options shown start middle new begun goes rest =
    let rows = flat_map (record_text start.registry.now) shown in
    subst (λ (text : List ℕ). Appends (contents start.csv) (contents new.csv) text)
    (ap (λ (l : List ℕ). start.rows ++ l) (append-nil rows) ∙ ap (λ (l : List ℕ). l ++ rows) begun.rows ∙ text_of start.registry.now options shown)
    (all_appended contents seen start.csv new.csv start.rows (rows ++ []) (goes-more contents seen goes rest))

module _ {O M : Type 0} (contents : O → Option (List ℕ)) (seen : O → Seen) (list_contents : M → Option (List ℕ)) (list_seen : M → Seen) where
  pub csv_written : (options : Options) (shown : List Record) (start middle new : CsvRecipient O M) → IsBegun options start
      → GoesOn contents seen list_contents list_seen start (flat_map (record_text start.registry.now) shown) (flat_map line_of shown) middle
      → WritesRest contents seen list_contents list_seen middle new
      → Appends (contents start.csv) (contents new.csv) (csv_text start.registry.now options shown)
  csv_written options shown start middle new begun goes rest = rows_written contents seen options shown start middle new begun goes.csv rest.csv

  pub list_written : (options : Options) (shown : List Record) (start middle new : CsvRecipient O M) → IsBegun options start
      → GoesOn contents seen list_contents list_seen start (flat_map (record_text start.registry.now) shown) (flat_map line_of shown) middle
      → WritesRest contents seen list_contents list_seen middle new
      → Lists list_contents start.manifest new.manifest (list_text shown)
  list_written options shown start middle new begun goes rest =
      let lines = flat_map line_of shown in
      subst (λ (text : List ℕ). Lists list_contents start.manifest new.manifest text) (append-nil lines)
      (all_listed list_contents list_seen start.manifest new.manifest (lines ++ [])
      (subst (λ (pending : List ℕ). ListGoes list_contents list_seen start.manifest new.manifest pending [] (lines ++ [])) begun.lines
      (list_goes-more list_contents list_seen start.manifest middle.manifest new.manifest start.lines.items middle.lines.items [] lines [] goes.list rest.list)))

  pub writes_tree : {T W : Type 0} (observes : T → Observation → T → Type 0) (hears : W → Heard → W → Type 0) (options : Options) (whole : Bool) (tree tree_after : T) (watcher watcher_after : W) (start middle new : CsvRecipient O M)
      → IsBegun options start
      → ProfilesTree observes hears (TakesSoon contents seen list_contents list_seen) start.registry.now options whole tree tree_after watcher watcher_after start middle
      → WritesRest contents seen list_contents list_seen middle new
      → WritesTree observes hears list_contents start.registry.now options whole tree tree_after watcher watcher_after (contents start.csv) (contents new.csv) start.manifest new.manifest
  writes_tree observes hears options whole tree tree_after watcher watcher_after start middle new begun walk rest =
      let some = tree_nodes walk.visits walk.visited in
      let shown = records_of start.registry.now options walk.visits in
      let goes = takes_all contents seen list_contents list_seen start shown middle walk.taken in
      record {
        shown = shown;
        profiled = profiled_list walk;
        nodes = some.nodes;
        are_theirs = some.are;
        are_records = λ setting identifies. visits_shown start.registry.now setting options identifies some.nodes walk.visits (top ∷ []) [] some.nodes [] walk.in_turn (known_top, tt) walk.numbered some.are (record { more = []; are = sym (append-nil _) });
        text = csv_written options shown start middle new begun goes rest;
        list = list_written options shown start middle new begun goes rest;
      }

  -- both writers last
  pub csv_lasts : (shown : List Record) (start middle new : CsvRecipient O M)
      → GoesOn contents seen list_contents list_seen start (flat_map (record_text start.registry.now) shown) (flat_map line_of shown) middle
      → WritesRest contents seen list_contents list_seen middle new → IsSound (seen start.csv) → LastsOn (seen start.csv) (seen new.csv)
  csv_lasts shown start middle new goes rest sound = (goes-more contents seen goes.csv rest.csv).lasts sound

  pub list_lasts_on : (list_room : M → Option ℕ) (result : Result Bool CsvFault) (shown : List Record) (start middle new : CsvRecipient O M)
      → GoesOn contents seen list_contents list_seen start (flat_map (record_text start.registry.now) shown) (flat_map line_of shown) middle
      → WritesRest contents seen list_contents list_seen middle new → Lasting list_contents list_seen result → ReportsList list_seen list_room start.manifest new.manifest result
  list_lasts_on list_room result shown start middle new goes rest lasting =
      list_lasts list_contents list_seen list_room result start.manifest new.manifest start.lines.items [] (flat_map line_of shown ++ [])
      (list_goes-more list_contents list_seen start.manifest middle.manifest new.manifest start.lines.items middle.lines.items [] (flat_map line_of shown) [] goes.list rest.list) lasting
