-- How a profile ends early.
use Rattle.std.proofs.Common.{◌≡◌, ◌⊎◌, inl, inr, ℕ, ◌+◌, ◌≤◌, Bool, List, [], ◌∷◌, ◌++◌, length, length-append, map, filter, append-nil, append_assoc, refl, sym, ap, subst, ◌∙◌, arith}
use Rattle.std.specs.List.{count_by, flat_map, AllByRecursion}
use Rattle.droid_frame.specs.declared.record.Record.{Record}
use Rattle.droid_pronom.specs.Registry.{Contents}
use Rattle.droid_tree.specs.Heard.{Heard}
use Rattle.droid_tree.specs.Observation.{Observation, GoesOver}
use Rattle.droid_tree.specs.Paths.{top}
use Rattle.droid_tree.specs.declared.folder_entry.FolderEntry.{FolderEntry}
use Rattle.droid_profile.specs.Calls.{Call, heard_of_calls, observation_of}
use Rattle.droid_profile.specs.EarlyEnds.{AreBegun, AreFirst, EndsEarly, TakesFirst, TreeStands, Took, is_counted, is_of_record}
use Rattle.droid_profile.specs.Profiles.{is_of_bytes, is_of_entry}
use Rattle.droid_profile.specs.Visits.{Visit, IsBegun, IsVisit}
use Rattle.droid_profile.specs.declared.fault.ProfileFault.{ProfileFault}
use Rattle.droid_profile.specs.declared.fault.ProfileFault.TheVariants as faults
use Rattle.droid_profile.specs.declared.options.Options.{Options}
use Rattle.droid_profile.specs.declared.recipient.RecipientFault.{RecipientFault}
use Rattle.droid_profile.specs.FilesRead.{ReadsAll, ReadsFront}
use Rattle.droid_profile.specs.declared.lanes.file_row.FileRow.{FileRow}
use Rattle.droid_profile.proofs.BatchEnds.{over_more}
use Rattle.droid_profile.specs.RowsTaken.{Readings, heard_of_row, records_of_row}
use Rattle.droid_profile.specs.ScanFits.{EndsTaking, IsExplained, IsOpen, NoneOpen, Visited, entries_left}
use Rattle.droid_profile.specs.declared.walk.row.Row.{Row}
use Rattle.droid_profile.specs.declared.walk.scan.Scan.{Scan}
use Rattle.droid_profile.proofs.StepsMade.{counts_append}
use Rattle.droid_profile.specs.HandedOut.{AreSettled, HandsFront}
use Rattle.droid_profile.specs.Walking.{StandsAt}
use Rattle.droid_profile.proofs.ChosenReadings.{ReadLike, begun_as, read_as}
use Rattle.droid_profile.proofs.Handing.{takes_after}
use Rattle.droid_profile.proofs.ReportKinds.{OfEntry, all_front, of_rows, entries_before_bytes, bytes_of_calls, entries_then, bytes_then}
use Rattle.droid_profile.proofs.Waiting.{bytes_uncounted, rest_waits, rows_wait}
use Rattle.droid_profile.proofs.Walks.{after_folders, calls_of, like_none_read, none_read, observed_more}

-- ---- the folders that were visited

begun_list : (rest : List FolderEntry) (before : List Visit) (last : Visit) → AllByRecursion IsVisit before → IsBegun rest last → AreBegun (before ++ last ∷ [])
begun_list rest [] last whole begun = (rest, begun)
begun_list rest (visit ∷ []) last whole begun = (whole.0, (rest, begun))
begun_list rest (visit ∷ (next ∷ before)) last whole begun = (whole.0, begun_list rest (next ∷ before) last whole.1 begun)

visits_begun : (visits : List Visit) (scan : Scan) → IsOpen visits scan ⊎ NoneOpen visits scan → AreBegun visits
visits_begun visits scan (inl its) = subst AreBegun (sym its.are) (begun_list (entries_left scan) its.before its.last its.whole its.begun)
visits_begun visits scan (inr none) = subst AreBegun (sym none.none) tt

-- ---- faults

not_of_recipient : (fault : ProfileFault) (number : ℕ) → IsExplained fault number → (why : RecipientFault) → fault ≡ faults.Recipient why → ⊥
not_of_recipient fault number (inl is) why same = cc
not_of_recipient fault number (inr is) why same = let it : fault ≡ faults.Numbers = is.0 in cc

last_number : (fault : ProfileFault) (number : ℕ) → IsExplained fault number → fault ≡ faults.Numbers → number ≡ 4294967295
last_number fault number (inl is) same = absurd cc
last_number fault number (inr is) same = is.1

reads_not_of_recipient : (fault : ProfileFault) → fault ≡ faults.Memory → (why : RecipientFault) → fault ≡ faults.Recipient why → ⊥
reads_not_of_recipient fault is why same = cc

reads_not_of_numbers : (fault : ProfileFault) → fault ≡ faults.Memory → fault ≡ faults.Numbers → ⊥
reads_not_of_numbers fault is same = cc

hands_not_of_numbers : (fault : ProfileFault) → (fault ≡ faults.Memory) ⊎ ((why : RecipientFault) × (fault ≡ faults.Recipient why)) → fault ≡ faults.Numbers → ⊥
hands_not_of_numbers fault (inl is) same = cc
hands_not_of_numbers fault (inr is) same = let it : fault ≡ faults.Recipient is.0 = is.1 in cc

module _ {T W R : Type 0} (observes : T → Observation → T → Type 0) (hears : W → Heard → W → Type 0) (takes : R → Record → R → Type 0) (registry : Contents) (options : Options) (fails : R → Record → RecipientFault → R → Type 0) where
  pub ends_at_once : (tree : T) (watcher : W) (recipient : R) → EndsEarly observes hears takes fails registry options faults.Memory tree tree watcher watcher recipient recipient
  ends_at_once tree watcher recipient = record {
    visits = [];
    waiting = top ∷ [];
    in_turn = refl;
    begun = tt;
    numbered = tt;
    calls = [];
    are_calls = record { folders = refl; files = λ number. refl };
    reached = tree;
    observed = refl;
    stands = inl refl;
    heard = [];
    entries = record { rest = []; are = refl };
    few_wait = omega arith;
    few_unreported = omega arith;
    bytes = refl;
    informed = refl;
    given = [];
    taken = Took (record { rest = []; are = refl }) refl (λ why is. cc);
    reported = refl;
    all_numbers = λ is. absurd cc;
  }

  ends_visited : (fault : ProfileFault) (readings : Readings) (calls reads : List Call) (entries : List Heard) (given : List Record) (scan : Scan) (rows : List Row) (files : List FileRow) (start reached tree_after : T) (begun watcher_after : W) (first recipient_after : R) (heard : List Heard) (taken_all : List Record)
      → Visited registry options readings calls entries given scan rows files → ReadLike readings files reads
      → (are_first : AreFirst (filter is_of_entry heard) (entries ++ flat_map (heard_of_row registry options readings files) rows)) → count_by is_counted are_first.rest ≤ 8192 → scan.number ≤ length (filter is_of_entry heard) + 8192
      → count_by is_of_record heard ≡ length taken_all → filter is_of_bytes heard ≡ heard_of_calls (calls ++ reads)
      → GoesOver observes start (map observation_of (calls ++ reads)) reached → TreeStands fault reached tree_after → GoesOver hears begun heard watcher_after
      → TakesFirst takes fails fault (given ++ flat_map (records_of_row registry options readings files) rows) taken_all first recipient_after → (fault ≡ faults.Numbers → scan.number ≡ 4294967295)
      → EndsEarly observes hears takes fails registry options fault start tree_after begun watcher_after first recipient_after
  ends_visited fault readings calls reads entries given scan rows files start reached tree_after begun watcher_after first recipient_after heard taken_all visited read are_first few_wait few_numbers counts bytes observed stands informed taken last = record {
    visits = visited.visits;
    waiting = scan.waiting.items;
    in_turn = visited.in_turn;
    begun = visits_begun visited.visits scan visited.begun;
    numbered = visited.numbered;
    calls = calls ++ reads;
    are_calls = calls_of registry options readings calls reads entries given scan rows files visited read;
    reached = reached;
    observed = observed;
    stands = stands;
    heard = heard;
    entries = record { rest = are_first.rest; are = visited.entries ∙ are_first.are };
    few_wait = few_wait;
    few_unreported = omega (arith, visited.counted, few_numbers);
    bytes = bytes;
    informed = informed;
    given = taken_all;
    taken = subst (λ (l : List Record). TakesFirst takes fails fault l taken_all first recipient_after) (sym visited.records) taken;
    reported = counts;
    all_numbers = λ is. visited.counted ∙ last is;
  }

  -- before the batch was read
  pub ends_before : (fault : ProfileFault) (whole : Bool) (scan : Scan) (rows : List Row) (files : List FileRow) (start reached tree_after : T) (begun watcher : W) (first recipient : R) → StandsAt observes hears takes registry options whole scan rows files start reached begun watcher first recipient
      → TreeStands fault reached tree_after → ((why : RecipientFault) → fault ≡ faults.Recipient why → ⊥) → (fault ≡ faults.Numbers → scan.number ≡ 4294967295) → EndsEarly observes hears takes fails registry options fault start tree_after begun watcher first recipient
  ends_before fault whole scan rows files start reached tree_after begun watcher first recipient on stands not last =
      let read = like_none_read files in
      ends_visited fault none_read on.calls [] (filter is_of_entry on.heard) on.given scan rows files start reached tree_after begun watcher first recipient on.heard on.given (on.fits.visited none_read read.may) read
      (record { rest = flat_map (heard_of_row registry options none_read files) rows; are = refl })
      (omega (arith, rows_wait registry options none_read files rows, on.few_rows)) on.few_numbers on.reported
      (on.bytes ∙ sym (ap heard_of_calls (append-nil on.calls)))
      (observed_more observes hears takes registry options on.calls [] start reached reached on.observed refl) stands on.informed
      (Took (record { rest = flat_map (records_of_row registry options none_read files) rows; are = refl }) on.taken not) last

  -- while rows were taken
  pub ends_taking : (fault : ProfileFault) (whole : Bool) (scan : Scan) (rows : List Row) (files : List FileRow) (start tree tree_after : T) (begun watcher : W) (first recipient : R) → rows ≡ [] → files ≡ []
      → EndsTaking observes fault 8192 scan rows files tree tree_after → StandsAt observes hears takes registry options whole scan [] [] start tree begun watcher first recipient → EndsEarly observes hears takes fails registry options fault start tree_after begun watcher first recipient
  ends_taking fault whole scan rows files start tree tree_after begun watcher first recipient none no_files ends on =
      let ends_from : EndsTaking observes fault 8192 scan [] [] tree tree_after =
      subst (λ (l : List Row). EndsTaking observes fault 8192 scan l [] tree tree_after) none (subst (λ (l : List FileRow). EndsTaking observes fault 8192 scan rows l tree tree_after) no_files ends) in
      let front = ends_from registry options on.calls (filter is_of_entry on.heard) on.given on.fits in
      ends_before fault whole front.scan front.rows front.files start front.reached tree_after begun watcher first recipient
      (after_folders observes hears takes registry options whole scan front.scan front.rows front.files start tree front.reached begun watcher first recipient on front.takes front.few)
      front.stands (not_of_recipient fault front.scan.number front.explained) (last_number fault front.scan.number front.explained)

  -- while files were read
  pub ends_reading : (fault : ProfileFault) (whole : Bool) (scan : Scan) (rows : List Row) (files : List FileRow) (start tree tree_after : T) (begun watcher watcher_after : W) (first recipient : R)
      → StandsAt observes hears takes registry options whole scan rows files start tree begun watcher first recipient → ReadsFront observes hears files fault tree tree_after watcher watcher_after
      → EndsEarly observes hears takes fails registry options fault start tree_after begun watcher_after first recipient
  ends_reading fault whole scan rows files start tree tree_after begun watcher watcher_after first recipient on front =
      let read = begun_as files front.calls on.fits.fresh.distinct front.are front.begun in
      let entries : List Heard = flat_map (heard_of_row registry options read.readings files) rows in
      ends_visited fault read.readings on.calls front.calls (filter is_of_entry on.heard) on.given scan rows files start front.reached tree_after begun watcher_after first recipient (on.heard ++ heard_of_calls front.calls) on.given
      (on.fits.visited read.readings read.like.may) read.like
      (record { rest = entries; are = ap (λ (l : List Heard). l ++ entries) (sym (entries_before_bytes on.heard front.calls)) })
      (omega (arith, rows_wait registry options read.readings files rows, on.few_rows))
      (omega (arith, on.few_numbers, ap length (entries_before_bytes on.heard front.calls)))
      (omega (arith, counts_append is_of_record on.heard (heard_of_calls front.calls), bytes_uncounted front.calls, on.reported))
      (bytes_of_calls on.heard on.calls front.calls on.bytes)
      (observed_more observes hears takes registry options on.calls front.calls start tree front.reached on.observed front.observed) front.stands
      (over_more hears begun watcher watcher_after on.heard (heard_of_calls front.calls) on.informed front.heard)
      (Took (record { rest = flat_map (records_of_row registry options read.readings files) rows; are = refl }) on.taken (reads_not_of_recipient fault front.explained))
      (λ is. absurd (reads_not_of_numbers fault front.explained is))

  -- while rows were handed out
  pub ends_handing : (fault : ProfileFault) (whole : Bool) (scan : Scan) (rows : List Row) (files files_after : List FileRow) (start tree tree_after : T) (begun watcher watcher_read watcher_after : W) (first recipient recipient_after : R)
      → StandsAt observes hears takes registry options whole scan rows files start tree begun watcher first recipient → ReadsAll observes hears registry options files files_after tree tree_after watcher watcher_read
      → ((readings : Readings) → AreSettled registry options readings files files_after
      → HandsFront hears takes fails (flat_map (heard_of_row registry options readings files) rows) (flat_map (records_of_row registry options readings files) rows) fault watcher_read watcher_after recipient recipient_after)
      → EndsEarly observes hears takes fails registry options fault start tree_after begun watcher_after first recipient_after
  ends_handing fault whole scan rows files files_after start tree tree_after begun watcher watcher_read watcher_after first recipient recipient_after on all hands =
      let read = read_as registry options files files_after all.calls on.fits.fresh.distinct all.are all.counted all.settled in
      let entries : List Heard = flat_map (heard_of_row registry options read.readings files) rows in
      let records : List Record = flat_map (records_of_row registry options read.readings files) rows in
      let front = hands read.readings read.settled in
      let given : List Record = front.given in
      let of : AllByRecursion OfEntry front.heard = all_front OfEntry front.heard front.are_first.rest (subst (AllByRecursion OfEntry) front.are_first.are (of_rows registry options read.readings files rows)) in
      let are = entries_then on.heard front.heard all.calls of in
      ends_visited fault read.readings on.calls all.calls (filter is_of_entry on.heard) on.given scan rows files start tree_after tree_after begun watcher_after first recipient_after ((on.heard ++ heard_of_calls all.calls) ++ front.heard) (on.given ++ given)
      (on.fits.visited read.readings read.like.may) read.like
      (record { rest = front.are_first.rest; are = ap (λ (l : List Heard). filter is_of_entry on.heard ++ l) front.are_first.are ∙ (sym (append_assoc (filter is_of_entry on.heard) front.heard front.are_first.rest) ∙ ap (λ (l : List Heard). l ++ front.are_first.rest) (sym are)) })
      (omega (arith, rest_waits front.heard entries front.are_first, rows_wait registry options read.readings files rows, on.few_rows))
      (omega (arith, on.few_numbers, ap length are, length-append (filter is_of_entry on.heard) front.heard))
      (omega (arith, counts_append is_of_record (on.heard ++ heard_of_calls all.calls) front.heard, counts_append is_of_record on.heard (heard_of_calls all.calls), bytes_uncounted all.calls, on.reported, front.reported, length-append on.given given))
      (bytes_then on.heard front.heard on.calls all.calls of on.bytes)
      (observed_more observes hears takes registry options on.calls all.calls start tree tree_after on.observed all.observed) (inl refl)
      (over_more hears begun watcher_read watcher_after (on.heard ++ heard_of_calls all.calls) front.heard (over_more hears begun watcher watcher_read on.heard (heard_of_calls all.calls) on.informed all.heard) front.informed)
      (takes_after takes fails fault on.given records given first recipient recipient_after on.taken front.taken)
      (λ is. absurd (hands_not_of_numbers fault front.explained is))
