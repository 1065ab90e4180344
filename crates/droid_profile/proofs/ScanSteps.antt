-- What was taken fits after each kind of step.
use Rattle.std.proofs.Common.{◌≡◌, inl, inr, ℕ, ◌+◌, ◌≤◌, Bool, true, false, not, List, [], ◌∷◌, ◌++◌, length, length-append, map, reverse, None, Result, IfErr, append-nil, refl, sym, ap, subst, ◌∙◌, arith}
use Rattle.std.specs.Prelude.{IsUtf8}
use Rattle.std.specs.Result.{IsErrAnd}
use Rattle.std.specs.List.{flat_map, AllByRecursion}
use Rattle.std.proofs.lemmas.List.{reverse-append}
use Rattle.droid_core_spec.specs.Conditions.{is_bad_name, is_moment}
use Rattle.droid_core_spec.specs.Judging.{refusal_of}
use Rattle.droid_frame.specs.declared.record.Record.{Record}
use Rattle.droid_frame.specs.declared.refusal.Refusal.TheVariants as refusals
use Rattle.droid_pronom.specs.Registry.{Contents}
use Rattle.droid_tree.specs.Heard.{Heard, Left}
use Rattle.droid_tree.specs.Kinds.{reason_of_kind}
use Rattle.droid_tree.specs.Listings.{observed_of_folder}
use Rattle.droid_tree.specs.Observation.{Observation, Opened, Unopened, GoesOver}
use Rattle.droid_tree.specs.Paths.{below}
use Rattle.droid_tree.specs.declared.folder_entry.EntryKind.TheVariants as kinds
use Rattle.droid_tree.specs.declared.folder_entry.FolderEntry.{FolderEntry}
use Rattle.droid_tree.specs.declared.pending_folder.PendingFolder.{PendingFolder}
use Rattle.droid_tree.specs.declared.skip_reason.Skipped.{Skipped}
use Rattle.droid_tree.specs.declared.skip_reason.Skipped.TheVariants as reasons
use Rattle.droid_profile.specs.Calls.{OfFolder}
use Rattle.droid_profile.specs.Kids.{Kid, Subfolder, ClosedFolder, AFile, AnotherKind, NoText, RefusedEntry, IsNode, MayCome, entry_of, entry_refusal, heard_of_kid, is_done, numbers_in, reads_of_kid, seen_of_kid, subfolders_of_kid}
use Rattle.droid_profile.specs.ProfileRecords.{folder_record, records_of_kid}
use Rattle.droid_profile.specs.Visits.{AreListed}
use Rattle.droid_profile.specs.EarlyEnds.{TreeStands}
use Rattle.droid_profile.specs.declared.fault.ProfileFault.{ProfileFault}
use Rattle.droid_profile.specs.declared.options.Options.{Options}
use Rattle.droid_profile.proofs.VisitSteps.{all_append, given_more}
use Rattle.droid_profile.specs.FileStates.{AreFresh}
use Rattle.droid_profile.specs.declared.lanes.file_row.FileRow.{FileRow}
use Rattle.droid_profile.specs.declared.lanes.file_row.FileState.TheVariants.{Waits}
use Rattle.droid_profile.specs.RowsPushed.{left_row}
use Rattle.droid_profile.specs.RowsTaken.{HasMoment, IsReady, MayBeRead, Readings, heard_of_row, reads_of_files, records_of_row}
use Rattle.droid_profile.specs.ScanFits.{EndsTaking, IsExplained, Takes, Visited, entries_left}
use Rattle.droid_profile.specs.StepsTaken.{ClosesFolder, IsNext, IsSkipped, ListsFolder, OpensFolder, TakesFile, TakesFolder, unread_record}
use Rattle.droid_profile.specs.declared.walk.row.Row.{Row}
use Rattle.droid_profile.specs.declared.walk.row.Row.TheVariants as rows
use Rattle.droid_profile.specs.declared.walk.scan.Scan.{Scan}
use Rattle.droid_profile.proofs.EntryTaken.{KidTaken, NextNumber, NoNumber, after_kid}
use Rattle.droid_profile.proofs.FilePushed.{ended_one_more, fresh_more, heard_one_more, may_be_read, reads_one_more, ready_more, records_one_more}
use Rattle.droid_profile.proofs.FolderListed.{after_listing, listing_ready, listing_rows}
use Rattle.droid_profile.proofs.RowLists.{all_weaker}
use Rattle.droid_profile.proofs.Runs.{ends_now, handed_on}

-- ---- the next entry

next_entry : (before scan after : Scan) (entry : FolderEntry) → IsNext before scan entry → after.entries ≡ scan.entries → entries_left before ≡ entry ∷ entries_left after
next_entry before scan after entry next same =
    ap (λ (l : List FolderEntry). reverse l) next.entries
    ∙ (reverse-append scan.entries.items (entry ∷ []) ∙ ap (λ (e : _). entry ∷ reverse e.items) (sym same))

-- an entry that no refusal meets has a moment that a profile can have
moment_of : (bad long good : Bool) → refusal_of ((bad, refusals.BadName) ∷ (long, refusals.PathTooLong) ∷ (not good, refusals.BadOption) ∷ []) ≡ None → good ≡ true
moment_of bad long true none = refl
moment_of true long false none = absurd cc
moment_of false true false none = absurd cc
moment_of false false false none = absurd cc

pub has_moment : (path : List ℕ) (entry : FolderEntry) → entry_refusal path entry ≡ None → is_moment entry.modified ≡ true
unfolding entry_refusal
has_moment path entry none = moment_of (is_bad_name entry.name) _ (is_moment entry.modified) none

-- what stands if an entry could not be taken: all before it
pub not_taken : {T A : Type 0} (observes : T → Observation → T → Type 0) (entry : FolderEntry) (popped : Scan) (before : List Row) (files : List FileRow) (tree tree_after : T) (result : Result A ProfileFault) (fault : ProfileFault)
    → IsErrAnd result (λ its. its ≡ fault) → IsExplained fault popped.number → TreeStands fault tree tree_after → IfErr result (λ its. (scan : Scan) → IsNext scan popped entry → EndsTaking observes its 0 scan before files tree tree_after)
not_taken observes entry popped before files tree tree_after result fault same explained stands =
    handed_on (λ its. (scan : Scan) → IsNext scan popped entry → EndsTaking observes its 0 scan before files tree tree_after) result fault same
    (λ scan next. ends_now observes fault scan before files tree tree_after (subst (λ (s : Scan). IsExplained fault s.number) next.same explained) stands)

-- a folder or a file that is no file is a folder
pub is_folder : (entry : FolderEntry) → IsNode entry.kind → (entry.kind ≡ kinds.File → ⊥) → entry.kind ≡ kinds.Folder
is_folder entry (inl folder) no_file = folder
is_folder entry (inr file) no_file = absurd (no_file file)

-- ---- any entry

-- nothing but a report comes of the entry
record Skips (path : List ℕ) (entry : FolderEntry) (why : Skipped) (more : List Observation) (kid : Kid) : Type 0 where
  its : entry_of kid ≡ entry
  may : MayCome path kid
  no_number : numbers_in kid ≡ []
  no_folder : subfolders_of_kid path kid ≡ []
  no_reads : (number : ℕ) → reads_of_kid number path kid ≡ []
  no_records : (registry : Contents) (options : Options) (folder : PendingFolder) → records_of_kid registry options folder kid ≡ []
  done : is_done kid ≡ true
  seen : seen_of_kid path kid ≡ more
  heard : (registry : Contents) (options : Options) → heard_of_kid registry options path kid ≡ Left (below path entry.name) why ∷ []

-- if the files are read like this, the entry has this outcome
record HasTaken (registry : Contents) (options : Options) (readings : Readings) (entry : FolderEntry) (more : List Observation) (scan scan_after : Scan) (before after : List Row) (files files_after : List FileRow) : Type 0 where
  kid : Kid
  taken : KidTaken registry options readings entry kid scan scan_after before after files files_after
  seen : seen_of_kid scan.folder.path kid ≡ more
  may : MayBeRead readings files

-- however the files are read, the entry has an outcome
record StepFits (registry : Contents) (options : Options) (entry : FolderEntry) (more : List Observation) (scan scan_after : Scan) (before after : List Row) (files files_after : List FileRow) : Type 0 where
  taken : (readings : Readings) → MayBeRead readings files_after → HasTaken registry options readings entry more scan scan_after before after files files_after
  fresh : AreFresh files_after
  numbers : AllByRecursion (λ (file : FileRow). file.record.id ≤ scan_after.number) files_after
  moments : AllByRecursion HasMoment files_after
  ready : AllByRecursion (IsReady (length files_after)) after

module _ {T : Type 0} (observes : T → Observation → T → Type 0) (entry : FolderEntry) (scan scan_after : Scan) (before : List Row) where
  takes_step : (after : List Row) (more : List Observation) (files files_after : List FileRow) (tree tree_after : T) → GoesOver observes tree more tree_after
      → ((registry : Contents) (options : Options) → AreFresh files → AllByRecursion (λ (file : FileRow). file.record.id ≤ scan.number) files → AllByRecursion HasMoment files → AllByRecursion (IsReady (length files)) before → StepFits registry options entry more scan scan_after before after files files_after)
      → Takes observes scan scan_after before after files files_after tree tree_after
  takes_step after more files files_after tree tree_after observed steps = λ registry options calls heard given fits.
      let step = steps registry options fits.fresh fits.numbers fits.moments fits.ready in
      record {
        more = more;
        fits = record {
          visited = λ readings may.
              let has = step.taken readings may in
              subst (λ (l : List Observation). Visited registry options readings (calls ++ map OfFolder l) heard given scan_after after files_after) has.seen
              (after_kid registry options readings calls heard given entry has.kid scan scan_after before after files files_after has.taken (fits.visited readings has.may));
          fresh = step.fresh;
          numbers = step.numbers;
          moments = step.moments;
          ready = step.ready;
        };
        observed = observed;
      }

  module _ (popped : Scan) (next : IsNext scan popped entry) where
    -- ---- something that is skipped

    takes_left : (why : Skipped) (more : List Observation) (kid : Kid) (files : List FileRow) (tree tree_after : T) → Skips scan.folder.path entry why more kid → scan_after ≡ record scan { entries = popped.entries } → GoesOver observes tree more tree_after
        → Takes observes scan scan_after before (before ++ left_row scan.folder.path entry why ∷ []) files files tree tree_after
    takes_left why more kid files tree tree_after skips is observed =
        let row : Row = left_row scan.folder.path entry why in
        takes_step (before ++ row ∷ []) more files files tree tree_after observed (λ registry options fresh numbers moments ready. record {
          taken = λ readings may. record {
            kid = kid;
            taken = record {
              its = skips.its;
              may = skips.may;
              next = next_entry scan popped scan_after entry next (ap (λ (s : Scan). s.entries) is);
              folder = ap (λ (s : Scan). s.folder) is;
              waiting = ap (λ (s : Scan). s.waiting.items) is ∙ (sym (append-nil scan.waiting.items) ∙ ap (λ (l : List PendingFolder). scan.waiting.items ++ l) (sym skips.no_folder));
              numbered = NoNumber skips.no_number (ap (λ (s : Scan). s.number) is);
              ended = λ ended. (ended, skips.done);
              reads = λ number. sym (ap (λ (l : List Observation). reads_of_files number readings files ++ l) (skips.no_reads number) ∙ append-nil (reads_of_files number readings files));
              heard = given_more (heard_of_row registry options readings files) before row
                  ∙ ap (λ (l : List Heard). flat_map (heard_of_row registry options readings files) before ++ l) (sym (skips.heard registry options));
              records = given_more (records_of_row registry options readings files) before row
                  ∙ ap (λ (l : List Record). flat_map (records_of_row registry options readings files) before ++ l) (sym (skips.no_records registry options scan.folder));
            };
            seen = skips.seen;
            may = may;
          };
          fresh = fresh;
          numbers = subst (λ (n : ℕ). AllByRecursion (λ (file : FileRow). file.record.id ≤ n) files) (sym (ap (λ (s : Scan). s.number) is)) numbers;
          moments = moments;
          ready = all_append (IsReady (length files)) before (row ∷ []) ready (tt, tt);
        })

    pub takes_no_text : (files : List FileRow) (tree : T) → ¬ (IsUtf8 entry.name) → scan_after ≡ popped → (after : List Row) → after ≡ before ++ left_row popped.folder.path entry reasons.Name ∷ [] → Takes observes scan scan_after before after files files tree tree
    takes_no_text files tree no_text is after rows_are =
        subst (λ (l : List Row). Takes observes scan scan_after before l files files tree tree) (sym (rows_are ∙ ap (λ (s : Scan). before ++ left_row s.folder.path entry reasons.Name ∷ []) next.same))
        (takes_left reasons.Name [] (NoText entry) files tree tree
        (record { its = refl; may = no_text; no_number = refl; no_folder = refl; no_reads = λ number. refl; no_records = λ registry options folder. refl; done = refl; seen = refl; heard = λ registry options. refl })
        (is ∙ next.same) refl)

    takes_reason : (why : Skipped) (files : List FileRow) (tree : T) → IsUtf8 entry.name → IsSkipped scan.folder.path entry why → scan_after ≡ record scan { entries = popped.entries } → Takes observes scan scan_after before (before ++ left_row scan.folder.path entry why ∷ []) files files tree tree
    takes_reason why files tree text (inl other) is =
        subst (λ (w : Skipped). Takes observes scan scan_after before (before ++ left_row scan.folder.path entry w ∷ []) files files tree tree) (sym other.1)
        (takes_left (reason_of_kind entry.kind) [] (AnotherKind entry) files tree tree
        (record { its = refl; may = (text, other.0); no_number = refl; no_folder = refl; no_reads = λ number. refl; no_records = λ registry options folder. refl; done = refl; seen = refl; heard = λ registry options. refl })
        is refl)
    takes_reason why files tree text (inr refused) is =
        subst (λ (w : Skipped). Takes observes scan scan_after before (before ++ left_row scan.folder.path entry w ∷ []) files files tree tree) (sym refused.3)
        (takes_left (reasons.Refused refused.1) [] (RefusedEntry entry refused.1) files tree tree
        (record { its = refl; may = (text, refused.0, refused.2); no_number = refl; no_folder = refl; no_reads = λ number. refl; no_records = λ registry options folder. refl; done = refl; seen = refl; heard = λ registry options. refl })
        is refl)

    pub takes_skipped : (why : Skipped) (files : List FileRow) (tree : T) → IsUtf8 entry.name → IsSkipped popped.folder.path entry why → scan_after ≡ popped → (after : List Row) → after ≡ before ++ left_row popped.folder.path entry why ∷ [] → Takes observes scan scan_after before after files files tree tree
    takes_skipped why files tree text skipped is after rows_are =
        subst (λ (l : List Row). Takes observes scan scan_after before l files files tree tree) (sym (rows_are ∙ ap (λ (s : Scan). before ++ left_row s.folder.path entry why ∷ []) next.same))
        (takes_reason why files tree text (subst (λ (s : Scan). IsSkipped s.folder.path entry why) next.same skipped) (is ∙ next.same))

    -- ---- a file or a folder

    module _ (text : IsUtf8 entry.name) (none : entry_refusal popped.folder.path entry ≡ None) where
      -- the folder is that of the scan before
      no_refusal : entry_refusal scan.folder.path entry ≡ None
      no_refusal = subst (λ (s : Scan). entry_refusal s.folder.path entry ≡ None) next.same none

      file_step : (files : List FileRow) (file : FileRow) (tree : T) → entry.kind ≡ kinds.File → file.record ≡ unread_record scan.folder entry (scan.number + 1) → file.entry ≡ entry → file.state ≡ Waits
          → scan_after ≡ record scan { entries = popped.entries; number = scan.number + 1 } → Takes observes scan scan_after before (before ++ rows.File (length files) ∷ []) files (files ++ file ∷ []) tree tree
      file_step files file tree kind its same waits is =
          let number : ℕ = scan.number + 1 in
          let counted : scan_after.number ≡ number = ap (λ (s : Scan). s.number) is in
          let here : file.record.id ≡ number = ap (λ (r : Record). r.id) its in
          takes_step (before ++ rows.File (length files) ∷ []) [] files (files ++ file ∷ []) tree tree refl (λ registry options fresh numbers moments ready. record {
            taken = λ readings may.
                let read = may_be_read registry options readings files file scan.folder entry number its same may in
                record {
                  kid = AFile entry number (readings number);
                  taken = record {
                    its = refl;
                    may = (text, kind, no_refusal, read.1);
                    next = next_entry scan popped scan_after entry next (ap (λ (s : Scan). s.entries) is);
                    folder = ap (λ (s : Scan). s.folder) is;
                    waiting = ap (λ (s : Scan). s.waiting.items) is ∙ sym (append-nil scan.waiting.items);
                    numbered = NextNumber number refl refl counted;
                    ended = ended_one_more registry options readings files file scan.folder entry number its same;
                    reads = reads_one_more registry options readings files file scan.folder entry number its same;
                    heard = heard_one_more registry options readings files file scan.folder entry number its same before ready;
                    records = records_one_more registry options readings files file scan.folder entry number its same before ready;
                  };
                  seen = refl;
                  may = read.0;
                };
            fresh = fresh_more files file scan.number fresh numbers here waits (ap (λ (r : Record). r.name) its ∙ sym (ap (λ (e : FolderEntry). e.name) same));
            numbers = all_append (λ (f : FileRow). f.record.id ≤ scan_after.number) files (file ∷ [])
                (all_weaker (λ (f : FileRow). f.record.id ≤ scan.number) (λ (f : FileRow). f.record.id ≤ scan_after.number) files (λ f low. omega (arith, low, counted)) numbers) (omega (arith, here, counted), tt);
            moments = all_append HasMoment files (file ∷ []) moments (subst (λ (r : Record). is_moment r.modified ≡ true) (sym its) (has_moment scan.folder.path entry no_refusal), tt);
            ready = all_append (IsReady (length (files ++ file ∷ []))) before (rows.File (length files) ∷ []) (ready_more files file before ready) (omega (arith, length-append files (file ∷ [])), tt);
          })

      pub takes_file : (after : List Row) (files files_after : List FileRow) (tree : T) → entry.kind ≡ kinds.File → TakesFile entry popped scan_after before after files files_after → Takes observes scan scan_after before after files files_after tree tree
      takes_file after files files_after tree kind takes =
          let it = subst (λ (s : Scan). TakesFile entry s scan_after before after files files_after) next.same takes in
          subst (λ (l : List Row). Takes observes scan scan_after before l files files_after tree tree) (sym it.rows_are)
          (subst (λ (l : List FileRow). Takes observes scan scan_after before (before ++ rows.File (length files) ∷ []) files l tree tree) (sym it.files_are)
          (file_step files it.file tree kind it.its_record it.its_entry it.waits it.scan_is))

      folder_step : (files : List FileRow) (tree tree_after : T) → entry.kind ≡ kinds.Folder → observes tree (Opened (below scan.folder.path entry.name)) tree_after
          → scan_after.waiting.items ≡ scan.waiting.items ++ subfolders_of_kid scan.folder.path (Subfolder entry (scan.number + 1)) → scan_after ≡ record scan { waiting = scan_after.waiting; entries = popped.entries; number = scan.number + 1 }
          → Takes observes scan scan_after before (before ++ rows.Folder (folder_record scan.folder entry (scan.number + 1)) ∷ []) files files tree tree_after
      folder_step files tree tree_after kind opened waits is =
          let number : ℕ = scan.number + 1 in
          let counted : scan_after.number ≡ number = ap (λ (s : Scan). s.number) is in
          let row : Row = rows.Folder (folder_record scan.folder entry number) in
          takes_step (before ++ row ∷ []) (seen_of_kid scan.folder.path (Subfolder entry number)) files files tree tree_after (tree_after, opened, refl) (λ registry options fresh numbers moments ready. record {
            taken = λ readings may. record {
              kid = Subfolder entry number;
              taken = record {
                its = refl;
                may = (text, kind, no_refusal);
                next = next_entry scan popped scan_after entry next (ap (λ (s : Scan). s.entries) is);
                folder = ap (λ (s : Scan). s.folder) is;
                waiting = waits;
                numbered = NextNumber number refl refl counted;
                ended = λ ended. (ended, refl);
                reads = λ n. sym (append-nil (reads_of_files n readings files));
                heard = given_more (heard_of_row registry options readings files) before row;
                records = given_more (records_of_row registry options readings files) before row;
              };
              seen = refl;
              may = may;
            };
            fresh = fresh;
            numbers = all_weaker (λ (f : FileRow). f.record.id ≤ scan.number) (λ (f : FileRow). f.record.id ≤ scan_after.number) files (λ f low. omega (arith, low, counted)) numbers;
            moments = moments;
            ready = all_append (IsReady (length files)) before (row ∷ []) ready (has_moment scan.folder.path entry no_refusal, tt);
          })

      pub takes_folder : (after : List Row) (files : List FileRow) (tree tree_after : T) → entry.kind ≡ kinds.Folder → TakesFolder observes entry popped scan_after before after tree tree_after → Takes observes scan scan_after before after files files tree tree_after
      takes_folder after files tree tree_after kind (inl opens) =
          let it = subst (λ (s : Scan). OpensFolder observes entry s scan_after before after tree tree_after) next.same opens in
          subst (λ (l : List Row). Takes observes scan scan_after before l files files tree tree_after) (sym it.rows_are) (folder_step files tree tree_after kind it.observed it.waits it.scan_is)
      takes_folder after files tree tree_after kind (inr closes) =
          let it = subst (λ (s : Scan). ClosesFolder observes entry s scan_after before after tree tree_after) next.same closes in
          subst (λ (l : List Row). Takes observes scan scan_after before l files files tree tree_after) (sym it.rows_are)
          (takes_left reasons.Unreadable (Unopened (below scan.folder.path entry.name) ∷ []) (ClosedFolder entry) files tree tree_after
          (record { its = refl; may = (text, kind, no_refusal); no_number = refl; no_folder = refl; no_reads = λ number. refl; no_records = λ registry options folder. refl; done = refl; seen = refl; heard = λ registry options. refl })
          it.scan_is (tree_after, it.observed, refl))

-- ---- the next folder

pub takes_listing : {T : Type 0} (observes : T → Observation → T → Type 0) (folder : PendingFolder) (scan popped listed scan_after : Scan) (before after : List Row) (files : List FileRow) (tree tree_after : T)
    → scan.entries.items ≡ [] → scan.waiting.items ≡ folder ∷ popped.waiting.items → popped ≡ record scan { waiting = popped.waiting } → ListsFolder observes folder popped listed before after tree tree_after → scan_after ≡ record listed { folder = folder }
    → Takes observes scan scan_after before after files files tree tree_after
takes_listing observes folder scan popped listed scan_after before after files tree tree_after empty first popped_is lists is = λ registry options calls heard given fits.
    record {
      more = observed_of_folder folder.path lists.observed ∷ [];
      fits = record {
        visited = λ readings may.
            after_listing registry options readings files calls heard given folder popped.waiting.items lists.observed lists.repeated scan scan_after before after empty first left its counted
            (subst (λ (s : Scan). AreListed lists.observed (entries_left s) lists.repeated) (sym is) lists.listed) lists.rows_are (fits.visited readings may);
        fresh = fits.fresh;
        numbers = subst (λ (n : ℕ). AllByRecursion (λ (file : FileRow). file.record.id ≤ n) files) (sym counted) fits.numbers;
        moments = fits.moments;
        ready = subst (λ (l : List Row). AllByRecursion (IsReady (length files)) l) (sym lists.rows_are)
            (all_append (IsReady (length files)) before (listing_rows folder.path lists.observed lists.repeated) fits.ready (listing_ready (length files) folder.path lists.observed lists.repeated));
      };
      observed = (tree_after, lists.came, refl);
    }
  where
    its : scan_after.folder ≡ folder
    its = ap (λ (s : Scan). s.folder) is

    left : scan_after.waiting.items ≡ popped.waiting.items
    left = ap (λ (s : Scan). s.waiting.items) is ∙ ap (λ (s : Scan). s.waiting.items) lists.scan_is

    counted : scan_after.number ≡ scan.number
    counted = ap (λ (s : Scan). s.number) is ∙ (ap (λ (s : Scan). s.number) lists.scan_is ∙ ap (λ (s : Scan). s.number) popped_is)
