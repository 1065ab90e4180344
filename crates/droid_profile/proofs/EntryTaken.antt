-- What stands after one entry more of the folder that was listed last.
use Rattle.std.proofs.Common.{◌≡◌, ◌⊎◌, inl, inr, ℕ, ◌+◌, true, List, [], ◌∷◌, ◌++◌, length, map, reverse, append-nil, append_assoc, length-append, refl, sym, ap, subst, ◌∙◌, arith}
use Rattle.std.specs.List.{flat_map, list_all}
use Rattle.droid_frame.specs.declared.record.Record.{Record}
use Rattle.droid_pronom.specs.Registry.{Contents}
use Rattle.droid_tree.specs.Heard.{Heard}
use Rattle.droid_tree.specs.Listings.{observed_of_folder}
use Rattle.droid_tree.specs.Observation.{Observation}
use Rattle.droid_tree.specs.Paths.{top}
use Rattle.droid_tree.specs.declared.folder_entry.FolderEntry.{FolderEntry}
use Rattle.droid_tree.specs.declared.pending_folder.PendingFolder.{PendingFolder}
use Rattle.droid_profile.specs.Calls.{Call, OfFolder, reads_of}
use Rattle.droid_profile.specs.Kids.{Kid, MayCome, entry_of, heard_of_kid, is_done, numbers_in, reads_of_kid, seen_of_kid, subfolders_of_kid}
use Rattle.droid_profile.specs.ProfileRecords.{records_of_kid, records_of_visit}
use Rattle.droid_profile.specs.Visits.{Visit, Follow, InTurn, IsBegun, folder_calls_of, heard_of_listing, heard_of_repeated, heard_of_visit, is_complete, numbers_of, reads_of_visit, subfolders_of}
use Rattle.droid_profile.specs.declared.options.Options.{Options}
use Rattle.droid_profile.proofs.VisitSteps.{begun_kid, follow_more, given_more, in_turn_kid, last_gives_more, with_kid}
use Rattle.droid_profile.specs.declared.lanes.file_row.FileRow.{FileRow}
use Rattle.droid_profile.specs.RowsTaken.{HaveEnded, Readings, heard_of_row, reads_of_files, records_of_row}
use Rattle.droid_profile.specs.ScanFits.{IsOpen, NoneOpen, Visited, entries_left}
use Rattle.droid_profile.specs.declared.walk.row.Row.{Row}
use Rattle.droid_profile.specs.declared.walk.scan.Scan.{Scan}
use Rattle.droid_profile.proofs.CallLists.{folder_calls_more, reads_still}
use Rattle.droid_profile.proofs.RowLists.{all_true_last, all_true_more}

-- ---- numbers

-- the entry has no number, or the next one
pub data IsNumbered (before after : ℕ) (numbers : List ℕ) : Type 0 where
  NoNumber : numbers ≡ [] → after ≡ before → IsNumbered before after numbers
  NextNumber : (number : ℕ) → numbers ≡ number ∷ [] → number ≡ before + 1 → after ≡ number → IsNumbered before after numbers

-- the numbers so far, with those of one entry more
pub record GoOn (all : List ℕ) (count : ℕ) : Type 0 where
  pub follow : Follow 0 all
  pub counted : length all ≡ count

pub numbers_go_on : (given more : List ℕ) (before after : ℕ) → IsNumbered before after more → GoOn given before → GoOn (given ++ more) after
numbers_go_on given more before after (NoNumber none same) on =
    let all : given ++ more ≡ given = ap (λ (l : List ℕ). given ++ l) none ∙ append-nil given in
    record { follow = subst (Follow 0) (sym all) on.follow; counted = ap length all ∙ (on.counted ∙ sym same) }
numbers_go_on given more before after (NextNumber number its next same) on =
    let all : given ++ more ≡ given ++ number ∷ [] = ap (λ (l : List ℕ). given ++ l) its in
    record {
      follow = subst (Follow 0) (sym all) (follow_more 0 given number (omega (arith, next, on.counted)) on.follow);
      counted = ap length all ∙ (length-append given (number ∷ []) ∙ omega (arith, next, same, on.counted));
    }

-- ---- one entry

module _ (registry : Contents) (options : Options) (readings : Readings) where
  -- the next entry gave this kid: the rows and files show it, if the files are read like this
  pub record KidTaken (entry : FolderEntry) (kid : Kid) (scan scan_after : Scan) (rows rows_after : List Row) (files files_after : List FileRow) : Type 0 where
    pub its : entry_of kid ≡ entry
    pub may : MayCome scan.folder.path kid
    pub next : entries_left scan ≡ entry ∷ entries_left scan_after
    pub folder : scan_after.folder ≡ scan.folder
    pub waiting : scan_after.waiting.items ≡ scan.waiting.items ++ subfolders_of_kid scan.folder.path kid
    pub numbered : IsNumbered scan.number scan_after.number (numbers_in kid)
    pub ended : HaveEnded readings files_after → HaveEnded readings files × (is_done kid ≡ true)
    pub reads : (number : ℕ) → reads_of_files number readings files_after ≡ reads_of_files number readings files ++ reads_of_kid number scan.folder.path kid
    pub heard : flat_map (heard_of_row registry options readings files_after) rows_after ≡ flat_map (heard_of_row registry options readings files) rows ++ heard_of_kid registry options scan.folder.path kid
    pub records : flat_map (records_of_row registry options readings files_after) rows_after ≡ flat_map (records_of_row registry options readings files) rows ++ records_of_kid registry options scan.folder kid

  -- what the folder gives more
  module _ (last : Visit) (kid : Kid) (folder : PendingFolder) (same : last.folder ≡ folder) where
    kid_gives : {B : Type 0} (f : PendingFolder → Kid → List B) → flat_map (f last.folder) (with_kid last kid).kids ≡ flat_map (f last.folder) last.kids ++ f folder kid
    kid_gives {B = B} f = given_more (f last.folder) last.kids kid ∙ ap (λ (its : PendingFolder). flat_map (f last.folder) last.kids ++ f its kid) same

    pub subfolders_more : subfolders_of (with_kid last kid) ≡ subfolders_of last ++ subfolders_of_kid folder.path kid
    subfolders_more = kid_gives (λ its. subfolders_of_kid its.path)

    pub numbers_more : numbers_of (with_kid last kid) ≡ numbers_of last ++ numbers_in kid
    numbers_more = kid_gives (λ its. numbers_in)

    pub calls_more : folder_calls_of (with_kid last kid) ≡ folder_calls_of last ++ seen_of_kid folder.path kid
    calls_more = ap (λ (l : List Observation). observed ∷ l) (kid_gives (λ its. seen_of_kid its.path))
      where
        observed : Observation
        observed = observed_of_folder last.folder.path last.observed

    pub reads_more : (number : ℕ) → reads_of_visit number (with_kid last kid) ≡ reads_of_visit number last ++ reads_of_kid number folder.path kid
    reads_more number = kid_gives (λ its. reads_of_kid number its.path)

    pub records_more : records_of_visit registry options (with_kid last kid) ≡ records_of_visit registry options last ++ records_of_kid registry options folder kid
    records_more = kid_gives (λ its. records_of_kid registry options its)

    pub heard_more : heard_of_visit registry options (with_kid last kid) ≡ heard_of_visit registry options last ++ heard_of_kid registry options folder.path kid
    heard_more =
        ap (λ (l : List Heard). listing ++ (repeated ++ l)) (kid_gives (λ its. heard_of_kid registry options its.path))
        ∙ (ap (λ (l : List Heard). listing ++ l) (sym (append_assoc repeated kids more)) ∙ sym (append_assoc listing (repeated ++ kids) more))
      where
        listing : List Heard
        listing = heard_of_listing last.folder.path last.observed

        repeated : List Heard
        repeated = heard_of_repeated last.folder.path last.repeated

        kids : List Heard
        kids = flat_map (heard_of_kid registry options last.folder.path) last.kids

        more : List Heard
        more = heard_of_kid registry options folder.path kid

  module _ (calls : List Call) (heard : List Heard) (given : List Record) (entry : FolderEntry) (kid : Kid) (scan scan_after : Scan) (rows rows_after : List Row) (files files_after : List FileRow)
      (taken : KidTaken entry kid scan scan_after rows rows_after files files_after) (visited : Visited registry options readings calls heard given scan rows files) where
    after_open : IsOpen visited.visits scan → Visited registry options readings (calls ++ map OfFolder (seen_of_kid scan.folder.path kid)) heard given scan_after rows_after files_after
    after_open folders =
        let numbers = numbers_go_on (flat_map numbers_of visited.visits) (numbers_in kid) scan.number scan_after.number taken.numbered (record { follow = visited.numbered; counted = visited.counted }) in
        let numbers_are = grown numbers_of (numbers_in kid) (numbers_more folders.last kid scan.folder folders.folder) in
        record {
          visits = after;
          in_turn = subst (λ (l : List PendingFolder). InTurn (top ∷ []) after l) (sym taken.waiting)
              (in_turn_kid (top ∷ []) folders.before folders.last now scan.waiting.items (subfolders_of_kid scan.folder.path kid) refl (subfolders_more folders.last kid scan.folder folders.folder)
              (subst (λ (l : List Visit). InTurn (top ∷ []) l scan.waiting.items) folders.are visited.in_turn));
          begun = inl (record {
            before = folders.before;
            last = now;
            are = refl;
            whole = folders.whole;
            begun = begun_kid (entries_left scan_after) folders.last kid entry taken.its (subst (λ (its : PendingFolder). MayCome its.path kid) (sym folders.folder) taken.may)
                (subst (λ (l : List FolderEntry). IsBegun l folders.last) taken.next folders.begun);
            folder = folders.folder ∙ sym taken.folder;
          });
          numbered = subst (Follow 0) (sym numbers_are) numbers.follow;
          counted = ap length numbers_are ∙ numbers.counted;
          complete = λ ended.
              let parts = taken.ended ended in
              all_true_last is_complete folders.before folders.last now (λ all. all_true_more is_done folders.last.kids kid all parts.1)
              (subst (λ (l : List Visit). list_all is_complete l ≡ true) folders.are (visited.complete parts.0));
          folders = folder_calls_more calls seen
              ∙ (ap (λ (l : List Observation). l ++ seen) visited.folders ∙ sym (grown folder_calls_of seen (calls_more folders.last kid scan.folder folders.folder)));
          reads = λ number.
              ap (λ (l : List Observation). l ++ reads_of_files number readings files_after) (reads_still calls seen number)
              ∙ (ap (λ (l : List Observation). reads_of number calls ++ l) (taken.reads number)
              ∙ (sym (append_assoc (reads_of number calls) (reads_of_files number readings files) (reads_of_kid number scan.folder.path kid))
              ∙ (ap (λ (l : List Observation). l ++ reads_of_kid number scan.folder.path kid) (visited.reads number)
              ∙ sym (grown (reads_of_visit number) (reads_of_kid number scan.folder.path kid) (reads_more folders.last kid scan.folder folders.folder number)))));
          entries = grown (heard_of_visit registry options) its_heard (heard_more folders.last kid scan.folder folders.folder)
              ∙ (ap (λ (l : List Heard). l ++ its_heard) visited.entries
              ∙ (append_assoc heard (flat_map (heard_of_row registry options readings files) rows) its_heard
              ∙ ap (λ (l : List Heard). heard ++ l) (sym taken.heard)));
          records = grown (records_of_visit registry options) its_records (records_more folders.last kid scan.folder folders.folder)
              ∙ (ap (λ (l : List Record). l ++ its_records) visited.records
              ∙ (append_assoc given (flat_map (records_of_row registry options readings files) rows) its_records
              ∙ ap (λ (l : List Record). given ++ l) (sym taken.records)));
        }
      where
        now : Visit
        now = with_kid folders.last kid

        after : List Visit
        after = folders.before ++ now ∷ []

        seen : List Observation
        seen = seen_of_kid scan.folder.path kid

        its_heard : List Heard
        its_heard = heard_of_kid registry options scan.folder.path kid

        its_records : List Record
        its_records = records_of_kid registry options scan.folder kid

        grown : {B : Type 0} (f : Visit → List B) (more : List B) → f now ≡ f folders.last ++ more → flat_map f after ≡ flat_map f visited.visits ++ more
        grown {B = B} f more is = last_gives_more f folders.before folders.last now more is ∙ ap (λ (l : List Visit). flat_map f l ++ more) (sym folders.are)

    by_cases : IsOpen visited.visits scan ⊎ NoneOpen visited.visits scan → Visited registry options readings (calls ++ map OfFolder (seen_of_kid scan.folder.path kid)) heard given scan_after rows_after files_after
    by_cases (inl folders) = after_open folders
    by_cases (inr none) = absurd (no_next (ap (λ (l : List FolderEntry). reverse l) none.empty))
      where
        no_next : entries_left scan ≡ [] → ⊥
        no_next empty = let nothing : entry ∷ entries_left scan_after ≡ [] = sym taken.next ∙ empty in absurd cc

    pub after_kid : Visited registry options readings (calls ++ map OfFolder (seen_of_kid scan.folder.path kid)) heard given scan_after rows_after files_after
    after_kid = by_cases visited.begun
