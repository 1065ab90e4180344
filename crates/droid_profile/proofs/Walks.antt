-- How a profile goes on, batch after batch, and ends.
use Rattle.std.proofs.Common.{◌≡◌, ◌⊎◌, inl, inr, ℕ, ◌&&◌, Bool, true, List, [], ◌∷◌, ◌++◌, map, filter, reverse, append-nil, length, length-append, ◌+◌, ◌≤◌, refl, sym, ap, ap₂, subst, ◌∙◌, arith}
use Rattle.std.specs.List.{flat_map, list_all, AllByRecursion}
use Rattle.std.proofs.lemmas.Bool.Decides.{eqb_tells}
use Rattle.std.proofs.lemmas.List.{map-append}
use Rattle.std.proofs.lemmas.List.Concat.{flat_map-append}
use Rattle.std.proofs.lemmas.List.Folds.{list_all-append}
use Rattle.droid_frame.specs.declared.record.Record.{Record}
use Rattle.droid_pronom.specs.Registry.{Contents}
use Rattle.droid_tree.specs.Heard.{Heard}
use Rattle.droid_tree.specs.Observation.{Observation, GoesOver}
use Rattle.droid_tree.specs.Paths.{top}
use Rattle.droid_tree.specs.declared.folder_entry.FolderEntry.{FolderEntry}
use Rattle.droid_profile.specs.Calls.{Call, OfFolder, folder_calls, folder_observed, heard_of_call, heard_of_calls, observation_of, reads_of}
use Rattle.droid_profile.specs.EarlyEnds.{is_of_record}
use Rattle.droid_profile.specs.Profiles.{AreCallsOf, ProfilesTree, is_of_entry}
use Rattle.droid_profile.specs.Readings.{IsReading, unread}
use Rattle.droid_profile.specs.Visits.{Visit, InTurn, IsBegun, IsVisit}
use Rattle.droid_profile.specs.declared.options.Options.{Options}
use Rattle.droid_profile.proofs.VisitSteps.{all_append}
use Rattle.droid_profile.specs.FilesRead.{ReadsAll}
use Rattle.droid_profile.specs.declared.lanes.file_row.FileRow.{FileRow}
use Rattle.droid_profile.proofs.BatchEnds.{over_more}
use Rattle.droid_profile.proofs.ReadsSplit.{reads_append}
use Rattle.droid_profile.specs.RowsTaken.{HaveEnded, Readings, heard_of_row, is_kept, reads_of_files, records_of_row}
use Rattle.droid_profile.specs.ScanFits.{AddsFew, IsOpen, NoneOpen, ScanFits, Takes, TakesMore, Visited}
use Rattle.droid_profile.specs.declared.walk.row.Row.{Row}
use Rattle.droid_profile.specs.declared.walk.scan.Scan.{Scan}
use Rattle.droid_profile.proofs.StepsMade.{counts_append}
use Rattle.droid_profile.specs.HandedOut.{AreSettled, Hands}
use Rattle.droid_profile.specs.Walking.{StandsAt}
use Rattle.droid_profile.proofs.ChosenReadings.{ReadLike, all_from_places, none_there, read_as}
use Rattle.droid_profile.proofs.ReportKinds.{folders_observed, folders_unheard, of_rows, entries_then, bytes_then}
use Rattle.droid_profile.proofs.Waiting.{bytes_uncounted, rows_counted, visits_reported}
use Rattle.droid_profile.proofs.WholeVisits.{visits_kept}

-- ---- no file read yet

abbrev pub none_read : Readings
none_read = λ (n : ℕ). unread

none_of : (number : ℕ) (files : List FileRow) → [] ≡ reads_of_files number none_read files
none_of number [] = refl
none_of number (file ∷ files) = elim (eqb_tells file.record.id number) [
  | inl t ↦ rw t.0 (none_of number files)
  | inr t ↦ rw t.0 (none_of number files)
]

pub like_none_read : (files : List FileRow) → ReadLike none_read files []
like_none_read files = record {
  may = all_from_places (λ (file : FileRow). IsReading file.entry.len unread) files (λ place was there. record { within = omega arith; ending = tt });
  reads = λ number. none_of number files;
  no_folders = refl;
}

-- ---- the folders that were visited

visits_whole : (visits : List Visit) (scan : Scan) → scan.entries.items ≡ [] → IsOpen visits scan ⊎ NoneOpen visits scan → AllByRecursion IsVisit visits
visits_whole visits scan empty (inl its) =
    let last : IsVisit its.last = subst (λ (l : List FolderEntry). IsBegun l its.last) (ap reverse empty) its.begun in
    subst (AllByRecursion IsVisit) (sym its.are) (all_append IsVisit its.before (its.last ∷ []) its.whole (last, tt))
visits_whole visits scan empty (inr none) = subst (AllByRecursion IsVisit) (sym none.none) tt

pub calls_of : (registry : Contents) (options : Options) (readings : Readings) (calls reads : List Call) (heard : List Heard) (given : List Record) (scan : Scan) (rows : List Row) (files : List FileRow) (visited : Visited registry options readings calls heard given scan rows files)
    → ReadLike readings files reads → AreCallsOf visited.visits (calls ++ reads)
calls_of registry options readings calls reads heard given scan rows files visited read = record {
  folders = flat_map-append folder_observed calls reads ∙ (ap (λ (l : List Observation). folder_calls calls ++ l) read.no_folders ∙ (append-nil (folder_calls calls) ∙ visited.folders));
  files = λ number. reads_append number calls reads ∙ (ap (λ (l : List Observation). reads_of number calls ++ l) (read.reads number) ∙ visited.reads number);
}

module _ {T W R : Type 0} (observes : T → Observation → T → Type 0) (hears : W → Heard → W → Type 0) (takes : R → Record → R → Type 0) (registry : Contents) (options : Options) where
  pub stands_at_first : (scan : Scan) (tree : T) (watcher : W) (recipient : R) → scan.number ≡ 0 → ScanFits registry options [] [] [] scan [] [] → StandsAt observes hears takes registry options true scan [] [] tree tree watcher watcher recipient recipient
  stands_at_first scan tree watcher recipient none fits = record {
    calls = [];
    heard = [];
    given = [];
    fits = fits;
    bytes = refl;
    whole_is = refl;
    observed = refl;
    informed = refl;
    taken = refl;
    reported = refl;
    few_rows = omega arith;
    few_numbers = omega (arith, none);
  }

  -- if no rows are left, all that has a number was reported
  all_reported : (whole : Bool) (scan : Scan) (start tree : T) (begun watcher : W) (first recipient : R) (on : StandsAt observes hears takes registry options whole scan [] [] start tree begun watcher first recipient) → scan.number ≤ length (filter is_of_entry on.heard)
  all_reported whole scan start tree begun watcher first recipient on =
      let visited = on.fits.visited none_read tt in
      omega (arith, visited.counted, visits_reported registry options visited.visits (visited.complete tt), ap length visited.entries, length-append (filter is_of_entry on.heard) [])

  -- more reads after those before
  pub observed_more : (calls reads : List Call) (start tree tree_after : T) → GoesOver observes start (map observation_of calls) tree → GoesOver observes tree (map observation_of reads) tree_after → GoesOver observes start (map observation_of (calls ++ reads)) tree_after
  observed_more calls reads start tree tree_after before after =
      subst (λ (l : List Observation). GoesOver observes start l tree_after) (sym (map-append observation_of calls reads)) (over_more observes start tree tree_after (map observation_of calls) (map observation_of reads) before after)

  -- ---- rows are taken

  pub after_folders : (whole : Bool) (scan scan_after : Scan) (rows_after : List Row) (files_after : List FileRow) (start tree tree_after : T) (begun watcher : W) (first recipient : R) (on : StandsAt observes hears takes registry options whole scan [] [] start tree begun watcher first recipient)
      → TakesMore observes registry options on.calls (filter is_of_entry on.heard) on.given scan_after rows_after files_after tree tree_after → AddsFew 8192 scan scan_after [] rows_after
      → StandsAt observes hears takes registry options whole scan_after rows_after files_after start tree_after begun watcher first recipient
  after_folders whole scan scan_after rows_after files_after start tree tree_after begun watcher first recipient on next few = record {
    calls = on.calls ++ map OfFolder next.more;
    heard = on.heard;
    given = on.given;
    fits = next.fits;
    bytes = on.bytes ∙ sym (flat_map-append heard_of_call on.calls (map OfFolder next.more) ∙ (ap (λ (l : List Heard). heard_of_calls on.calls ++ l) (folders_unheard next.more) ∙ append-nil (heard_of_calls on.calls)));
    whole_is = on.whole_is;
    observed = observed_more on.calls (map OfFolder next.more) start tree tree_after on.observed (subst (λ (l : List Observation). GoesOver observes tree l tree_after) (sym (folders_observed next.more)) next.observed);
    informed = on.informed;
    taken = on.taken;
    reported = on.reported;
    few_rows = few.rows;
    few_numbers = omega (arith, few.numbers, all_reported whole scan start tree begun watcher first recipient on);
  }

  pub rows_taken : (whole : Bool) (scan scan_after : Scan) (rows rows_after : List Row) (files files_after : List FileRow) (start tree tree_after : T) (begun watcher : W) (first recipient : R) → rows ≡ [] → files ≡ []
      → Takes observes scan scan_after rows rows_after files files_after tree tree_after → AddsFew 8192 scan scan_after rows rows_after
      → StandsAt observes hears takes registry options whole scan [] [] start tree begun watcher first recipient → StandsAt observes hears takes registry options whole scan_after rows_after files_after start tree_after begun watcher first recipient
  rows_taken whole scan scan_after rows rows_after files files_after start tree tree_after begun watcher first recipient none no_files took few on =
      let takes_from : Takes observes scan scan_after [] rows_after [] files_after tree tree_after =
      subst (λ (l : List Row). Takes observes scan scan_after l rows_after [] files_after tree tree_after) none (subst (λ (l : List FileRow). Takes observes scan scan_after rows rows_after l files_after tree tree_after) no_files took) in
      after_folders whole scan scan_after rows_after files_after start tree tree_after begun watcher first recipient on (takes_from registry options on.calls (filter is_of_entry on.heard) on.given on.fits)
      (subst (λ (l : List Row). AddsFew 8192 scan scan_after l rows_after) none few)

  -- ---- a batch is read and handed out

  batch_fits : (calls reads : List Call) (heard : List Heard) (given : List Record) (scan : Scan) (rows : List Row) (files : List FileRow) (readings : Readings) → ScanFits registry options calls heard given scan rows files → ReadLike readings files reads → HaveEnded readings files
      → ScanFits registry options (calls ++ reads) (heard ++ flat_map (heard_of_row registry options readings files) rows) (given ++ flat_map (records_of_row registry options readings files) rows) scan [] []
  batch_fits calls reads heard given scan rows files readings fits read ended =
      let visited = fits.visited readings read.may in
      let are = calls_of registry options readings calls reads heard given scan rows files visited read in
      record {
        visited = λ later may. record {
          visits = visited.visits;
          in_turn = visited.in_turn;
          begun = visited.begun;
          numbered = visited.numbered;
          counted = visited.counted;
          complete = λ all. visited.complete ended;
          folders = are.folders;
          reads = λ number. append-nil (reads_of number (calls ++ reads)) ∙ are.files number;
          entries = visited.entries ∙ sym (append-nil (heard ++ flat_map (heard_of_row registry options readings files) rows));
          records = visited.records ∙ sym (append-nil (given ++ flat_map (records_of_row registry options readings files) rows));
        };
        fresh = record { waiting = λ place row there. absurd (none_there place row there); named = λ place row there. absurd (none_there place row there); distinct = λ one other a b one_there other_there same. absurd (none_there one a one_there) };
        numbers = tt;
        moments = tt;
        ready = tt;
      }

  pub batch_handed_out : (whole kept : Bool) (scan : Scan) (rows : List Row) (files files_after : List FileRow) (start tree tree_after : T) (begun watcher watcher_read watcher_after : W) (first recipient recipient_after : R)
      → StandsAt observes hears takes registry options whole scan rows files start tree begun watcher first recipient → ReadsAll observes hears registry options files files_after tree tree_after watcher watcher_read
      → ((readings : Readings) → AreSettled registry options readings files files_after
      → Hands hears takes (flat_map (heard_of_row registry options readings files) rows) (flat_map (records_of_row registry options readings files) rows) kept watcher_read watcher_after recipient recipient_after)
      → StandsAt observes hears takes registry options (whole && kept) scan [] [] start tree_after begun watcher_after first recipient_after
  batch_handed_out whole kept scan rows files files_after start tree tree_after begun watcher watcher_read watcher_after first recipient recipient_after on all hands =
      let read = read_as registry options files files_after all.calls on.fits.fresh.distinct all.are all.counted all.settled in
      let entries : List Heard = flat_map (heard_of_row registry options read.readings files) rows in
      let records : List Record = flat_map (records_of_row registry options read.readings files) rows in
      let handed = hands read.readings read.settled in
      let of = of_rows registry options read.readings files rows in
      let are = entries_then on.heard entries all.calls of in
      record {
        calls = on.calls ++ all.calls;
        heard = (on.heard ++ heard_of_calls all.calls) ++ entries;
        given = on.given ++ records;
        fits = subst (λ (l : List Heard). ScanFits registry options (on.calls ++ all.calls) l (on.given ++ records) scan [] []) (sym are)
            (batch_fits on.calls all.calls (filter is_of_entry on.heard) on.given scan rows files read.readings on.fits read.like read.ended);
        bytes = bytes_then on.heard entries on.calls all.calls of on.bytes;
        whole_is = ap₂ (λ (a b : Bool). a && b) on.whole_is handed.kept_is ∙ (sym (list_all-append is_kept (filter is_of_entry on.heard) entries) ∙ ap (list_all is_kept) (sym are));
        observed = observed_more on.calls all.calls start tree tree_after on.observed all.observed;
        informed = over_more hears begun watcher_read watcher_after (on.heard ++ heard_of_calls all.calls) entries (over_more hears begun watcher watcher_read on.heard (heard_of_calls all.calls) on.informed all.heard) handed.informed;
        taken = over_more takes first recipient recipient_after on.given records on.taken handed.taken;
        reported = omega (
          arith,
          counts_append is_of_record (on.heard ++ heard_of_calls all.calls) entries,
          counts_append is_of_record on.heard (heard_of_calls all.calls),
          bytes_uncounted all.calls,
          rows_counted registry options read.readings files rows,
          length-append on.given records,
          on.reported,
        );
        few_rows = omega arith;
        few_numbers = omega (arith, on.few_numbers, ap length are, length-append (filter is_of_entry on.heard) entries);
      }

  -- ---- all is taken

  pub all_profiled : (whole : Bool) (scan : Scan) (start tree : T) (begun watcher : W) (first recipient : R) → StandsAt observes hears takes registry options whole scan [] [] start tree begun watcher first recipient → scan.entries.items ≡ [] → scan.waiting.items ≡ []
      → ProfilesTree observes hears takes registry options whole start tree begun watcher first recipient
  all_profiled whole scan start tree begun watcher first recipient on none_left none_waits =
      let visited = on.fits.visited none_read tt in
      let visits = visits_whole visited.visits scan none_left visited.begun in
      let complete = visited.complete tt in
      let entries = visited.entries ∙ append-nil (filter is_of_entry on.heard) in
      record {
        visits = visited.visits;
        in_turn = subst (InTurn (top ∷ []) visited.visits) none_waits visited.in_turn;
        visited = visits;
        complete = complete;
        numbered = visited.numbered;
        whole_is = on.whole_is ∙ (ap (list_all is_kept) (sym entries) ∙ visits_kept registry options visited.visits visits complete);
        calls = on.calls;
        are_calls = record { folders = visited.folders; files = λ number. sym (append-nil (reads_of number on.calls)) ∙ visited.reads number };
        observed = on.observed;
        heard = on.heard;
        are_heard = record { entries = sym entries; bytes = on.bytes };
        informed = on.informed;
        taken = subst (λ (l : List Record). GoesOver takes first l recipient) (sym (visited.records ∙ append-nil on.given)) on.taken;
      }
