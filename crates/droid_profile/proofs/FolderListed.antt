-- What stands after one folder more was listed.
use Rattle.std.proofs.Common.{◌≡◌, ◌⊎◌, inl, inr, ℕ, List, [], ◌∷◌, ◌++◌, length, map, reverse, append-nil, append_assoc, Option, Some, None, refl, sym, ap, subst, ◌∙◌}
use Rattle.std.specs.List.{flat_map, AllByRecursion}
use Rattle.std.proofs.lemmas.List.{reverse-reverse}
use Rattle.std.proofs.lemmas.List.Concat.{flat_map-append}
use Rattle.droid_frame.specs.declared.record.Record.{Record}
use Rattle.droid_pronom.specs.Registry.{Contents}
use Rattle.droid_tree.specs.Heard.{Heard}
use Rattle.droid_tree.specs.Listings.{ListsInOrder, observed_of_folder}
use Rattle.droid_tree.specs.Observation.{Observation, Listed}
use Rattle.droid_tree.specs.Paths.{top}
use Rattle.droid_tree.specs.declared.folder_entry.FolderEntry.{FolderEntry}
use Rattle.droid_tree.specs.declared.pending_folder.PendingFolder.{PendingFolder}
use Rattle.droid_profile.specs.Calls.{Call, OfFolder}
use Rattle.droid_profile.specs.ProfileRecords.{records_of_visit}
use Rattle.droid_profile.specs.Visits.{Visit, AreListed, Follow, InTurn, IsBegun, IsVisit, folder_calls_of, heard_of_listing, heard_of_repeated, heard_of_visit, is_complete, numbers_of, reads_of_visit}
use Rattle.droid_profile.specs.declared.options.Options.{Options}
use Rattle.droid_profile.proofs.VisitSteps.{all_append, given_more, in_turn_visit}
use Rattle.droid_profile.specs.declared.lanes.file_row.FileRow.{FileRow}
use Rattle.droid_profile.specs.RowsPushed.{repeated_row}
use Rattle.droid_profile.specs.RowsTaken.{IsReady, Readings, heard_of_row, reads_of_files, records_of_row}
use Rattle.droid_profile.specs.ScanFits.{IsOpen, NoneOpen, Visited, entries_left}
use Rattle.droid_profile.specs.StepsTaken.{ListsFolder, unlisted_rows}
use Rattle.droid_profile.specs.declared.walk.row.Row.{Row}
use Rattle.droid_profile.specs.declared.walk.scan.Scan.{Scan}
use Rattle.droid_profile.proofs.CallLists.{folder_calls_more, reads_still}
use Rattle.droid_profile.proofs.RowLists.{all_true_more}

-- the folder was listed, and its entries are kept in reverse
pub lists_folder : {T : Type 0} (observes : T → Observation → T → Type 0) (folder : PendingFolder) (scan scan_after : Scan) (before after : List Row) (tree tree_after : T) (path : List ℕ) (entries repeated : List FolderEntry)
    → path ≡ folder.path → ListsInOrder observes path entries repeated tree tree_after → scan_after ≡ record scan { entries = scan_after.entries } → scan_after.entries.items ≡ reverse entries → after ≡ before ++ map (repeated_row folder.path) repeated
    → ListsFolder observes folder scan scan_after before after tree tree_after
lists_folder observes folder scan scan_after before after tree tree_after path entries repeated same lists is reversed rows_are = record {
  observed = Some lists.listed;
  repeated = repeated;
  came = subst (λ (p : List ℕ). observes tree (Listed p lists.listed) tree_after) same lists.observed;
  listed = subst (λ (l : List FolderEntry). AreListed (Some lists.listed) l repeated) (sym (ap (λ (l : List FolderEntry). reverse l) reversed ∙ reverse-reverse entries))
      (record { same = lists.same; in_order = lists.in_order; are_repeated = lists.are_repeated });
  rows_are = rows_are;
  scan_is = is;
}

-- the rows of a listing
abbrev pub listing_rows : List ℕ → Option (List FolderEntry) → List FolderEntry → List Row
listing_rows path observed repeated = unlisted_rows path observed ++ map (repeated_row path) repeated

-- they can be handed out
repeated_ready : (count : ℕ) (path : List ℕ) (repeated : List FolderEntry) → AllByRecursion (IsReady count) (map (repeated_row path) repeated)
repeated_ready count path [] = tt
repeated_ready count path (entry ∷ repeated) = (tt, repeated_ready count path repeated)

pub listing_ready : (count : ℕ) (path : List ℕ) (observed : Option (List FolderEntry)) (repeated : List FolderEntry) → AllByRecursion (IsReady count) (listing_rows path observed repeated)
listing_ready count path None repeated = (tt, repeated_ready count path repeated)
listing_ready count path (Some observed) repeated = repeated_ready count path repeated

module _ (registry : Contents) (options : Options) (readings : Readings) (files : List FileRow) where
  heard_of_repeats : (path : List ℕ) (repeated : List FolderEntry) → flat_map (heard_of_row registry options readings files) (map (repeated_row path) repeated) ≡ heard_of_repeated path repeated
  heard_of_repeats path [] = refl
  heard_of_repeats path (entry ∷ repeated) = ap (λ (l : List Heard). heard_of_row registry options readings files (repeated_row path entry) ++ l) (heard_of_repeats path repeated)

  heard_of_rows : (path : List ℕ) (observed : Option (List FolderEntry)) (repeated : List FolderEntry)
      → flat_map (heard_of_row registry options readings files) (listing_rows path observed repeated) ≡ heard_of_listing path observed ++ heard_of_repeated path repeated
  heard_of_rows path None repeated = ap (λ (l : List Heard). heard_of_listing path None ++ l) (heard_of_repeats path repeated)
  heard_of_rows path (Some observed) repeated = heard_of_repeats path repeated

  no_records_of_repeats : (path : List ℕ) (repeated : List FolderEntry) → flat_map (records_of_row registry options readings files) (map (repeated_row path) repeated) ≡ []
  no_records_of_repeats path [] = refl
  no_records_of_repeats path (entry ∷ repeated) = no_records_of_repeats path repeated

  no_records_of_rows : (path : List ℕ) (observed : Option (List FolderEntry)) (repeated : List FolderEntry) → flat_map (records_of_row registry options readings files) (listing_rows path observed repeated) ≡ []
  no_records_of_rows path None repeated = no_records_of_repeats path repeated
  no_records_of_rows path (Some observed) repeated = no_records_of_repeats path repeated

  -- all folders so far were visited whole
  all_whole : (visits : List Visit) (scan : Scan) → scan.entries.items ≡ [] → IsOpen visits scan ⊎ NoneOpen visits scan → AllByRecursion IsVisit visits
  all_whole visits scan empty (inl folders) =
      let left : entries_left scan ≡ [] = ap (λ (l : List FolderEntry). reverse l) empty in
      subst (AllByRecursion IsVisit) (sym folders.are)
      (all_append IsVisit folders.before (folders.last ∷ []) folders.whole (subst (λ (l : List FolderEntry). IsBegun l folders.last) left folders.begun, tt))
  all_whole visits scan empty (inr none) = subst (AllByRecursion IsVisit) (sym none.none) tt

  module _ (calls : List Call) (heard : List Heard) (given : List Record) (folder : PendingFolder) (waiting : List PendingFolder) (observed : Option (List FolderEntry)) (repeated : List FolderEntry) (scan scan_after : Scan) (rows rows_after : List Row)
      (empty : scan.entries.items ≡ []) (first : scan.waiting.items ≡ folder ∷ waiting) (left : scan_after.waiting.items ≡ waiting) (its : scan_after.folder ≡ folder) (counted : scan_after.number ≡ scan.number)
      (listed : AreListed observed (entries_left scan_after) repeated) (rows_are : rows_after ≡ rows ++ listing_rows folder.path observed repeated)
      (visited : Visited registry options readings calls heard given scan rows files) where
    abbrev now : Visit
    now = record { folder = folder; observed = observed; repeated = repeated; kids = [] }

    abbrev after : List Visit
    after = visited.visits ++ now ∷ []

    grown : {B : Type 0} (f : Visit → List B) → flat_map f after ≡ flat_map f visited.visits ++ f now
    grown f = given_more f visited.visits now

    still : {B : Type 0} (f : Visit → List B) → f now ≡ [] → flat_map f after ≡ flat_map f visited.visits
    still {B = B} f none = grown f ∙ (ap (λ (l : List B). flat_map f visited.visits ++ l) none ∙ append-nil (flat_map f visited.visits))

    abbrev called : List Observation
    called = observed_of_folder folder.path observed ∷ []

    abbrev its_heard : List Heard
    its_heard = heard_of_listing folder.path observed ++ heard_of_repeated folder.path repeated

    of_rows : {B : Type 0} (f : Row → List B) → flat_map f rows_after ≡ flat_map f rows ++ flat_map f (listing_rows folder.path observed repeated)
    of_rows {B = B} f = ap (λ (l : List Row). flat_map f l) rows_are ∙ flat_map-append f rows (listing_rows folder.path observed repeated)

    pub after_listing : Visited registry options readings (calls ++ map OfFolder called) heard given scan_after rows_after files
    after_listing = record {
      visits = after;
      in_turn = subst (λ (l : List PendingFolder). InTurn (top ∷ []) after l) (append-nil waiting ∙ sym left)
          (in_turn_visit (top ∷ []) visited.visits now folder waiting refl (subst (λ (l : List PendingFolder). InTurn (top ∷ []) visited.visits l) first visited.in_turn));
      begun = inl (record {
        before = visited.visits;
        last = now;
        are = refl;
        whole = all_whole visited.visits scan empty visited.begun;
        begun = record { listed = listed; kids = tt };
        folder = sym its;
      });
      numbered = subst (Follow 0) (sym (still numbers_of refl)) visited.numbered;
      counted = ap length (still numbers_of refl) ∙ (visited.counted ∙ sym counted);
      complete = λ ended. all_true_more is_complete visited.visits now (visited.complete ended) refl;
      folders = folder_calls_more calls called ∙ (ap (λ (l : List Observation). l ++ called) visited.folders ∙ sym (grown folder_calls_of));
      reads = λ number.
          ap (λ (l : List Observation). l ++ reads_of_files number readings files) (reads_still calls called number)
          ∙ (visited.reads number ∙ sym (still (reads_of_visit number) refl));
      entries = grown (heard_of_visit registry options)
          ∙ (ap (λ (l : List Heard). flat_map (heard_of_visit registry options) visited.visits ++ (heard_of_listing folder.path observed ++ l)) (append-nil (heard_of_repeated folder.path repeated))
          ∙ (ap (λ (l : List Heard). l ++ its_heard) visited.entries
          ∙ (append_assoc heard (flat_map (heard_of_row registry options readings files) rows) its_heard
          ∙ ap (λ (l : List Heard). heard ++ l)
          (sym (of_rows (heard_of_row registry options readings files) ∙ ap (λ (l : List Heard). flat_map (heard_of_row registry options readings files) rows ++ l) (heard_of_rows folder.path observed repeated))))));
      records = still (records_of_visit registry options) refl
          ∙ (visited.records
          ∙ ap (λ (l : List Record). given ++ l)
          (sym (of_rows (records_of_row registry options readings files)
          ∙ (ap (λ (l : List Record). flat_map (records_of_row registry options readings files) rows ++ l) (no_records_of_rows folder.path observed repeated)
          ∙ append-nil (flat_map (records_of_row registry options readings files) rows)))));
    }
