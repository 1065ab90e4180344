-- The steps of one lane, each over a batch that fits what was read.
use Rattle.std.proofs.Common.{◌≡◌, inl, inr, ℕ, zero, suc, ◌+◌, ◌<◌, ◌≤◌, Bool, true, false, List, [], ◌∷◌, ◌++◌, length, drop, set, slice_get, Some, option_map, Contains, MatchBool, length-set, append-nil, refl, sym, ap, subst, ◌∙◌, arith}
use Rattle.std.proofs.lemmas.Bool.Decides.{eqb_tells}
use Rattle.std.proofs.lemmas.List.Elements.{Contains-push_cases}
use Rattle.std.proofs.lemmas.Option.{get_or_from_slice_get, slice_get-map, slice_get_within}
use Rattle.droid_frame.specs.Hashes.{hash}
use Rattle.droid_frame.specs.declared.hash_value.HashValue.{HashValue}
use Rattle.droid_frame.specs.declared.record.Record.{Record}
use Rattle.droid_pronom.specs.Registry.{Contents}
use Rattle.droid_pronom.specs.declared.identification.Found.{Found}
use Rattle.droid_hash.specs.Ends.{Came}
use Rattle.droid_hash.specs.Scanning.{Scanned, lanes_kind}
use Rattle.droid_tree.specs.Observation.{Observation, Read}
use Rattle.droid_tree.specs.declared.folder_entry.FolderEntry.{FolderEntry}
use Rattle.droid_tree.specs.declared.skip_reason.Skipped.{Skipped}
use Rattle.droid_profile.specs.Calls.{Call, OfFile, folder_calls, reads_of}
use Rattle.droid_profile.specs.Kids.{found_of}
use Rattle.droid_profile.specs.Readings.{Reading, Ending, AtEnd, NotYet, IsEnding, IsReading, bytes_of, is_whole, joined, last_read, reads_in}
use Rattle.droid_profile.specs.declared.options.Options.{Options}
use Rattle.droid_profile.specs.BatchFits.{BatchFits, IsDropped, LaneFits, RowFits, StateFits, whole_record}
use Rattle.droid_profile.specs.FileStates.{numbers_in}
use Rattle.droid_profile.specs.LaneEnds.{Completes, HasEnded}
use Rattle.droid_profile.specs.LaneReads.{GetsBytes, IsDue}
use Rattle.droid_profile.specs.LaneSteps.{Begins, IsFor}
use Rattle.droid_profile.specs.declared.lanes.batch.Batch.{Batch}
use Rattle.droid_profile.specs.declared.lanes.file_lane.FileLane.{FileLane}
use Rattle.droid_profile.specs.declared.lanes.file_row.FileRow.{FileRow}
use Rattle.droid_profile.specs.declared.lanes.file_row.FileState.TheVariants.{Waits, InLane, Whole, Dropped}
use Rattle.droid_profile.proofs.BatchMoves.{Moves, moved}
use Rattle.droid_profile.proofs.Places.{same_item, set_else, set_here}
use Rattle.droid_profile.proofs.ReadingSteps.{ended_by, ended_is, ended_reads, is_open, longer_bytes, longer_is, longer_joined, longer_reads, open_bytes, opened, whole_length}
use Rattle.droid_profile.proofs.ReadsSplit.{read_else, read_more, reads_append}

drop_none : (n : ℕ) (bytes : List ℕ) → bytes ≡ [] → drop n bytes ≡ []
drop_none zero bytes none = none
drop_none (suc n) [] none = refl
drop_none (suc n) (byte ∷ bytes) none = absurd cc

-- no more calls
no_calls : (registry : Contents) (options : Options) (first : List FileRow) (batch : Batch) (calls : List Call) → BatchFits registry options first batch (calls ++ []) → BatchFits registry options first batch calls
no_calls registry options first batch calls fits = subst (BatchFits registry options first batch) (append-nil calls) fits

-- the first state of a file is among the numbers
listed : (files : List FileRow) (place : ℕ) (row : FileRow) → slice_get files place ≡ Some row → Contains (numbers_in files) row.record.id
listed files place row there =
    let at : slice_get (numbers_in files) place ≡ Some row.record.id = slice_get-map (λ (r : FileRow). r.record.id) files place ∙ ap (option_map (λ (r : FileRow). r.record.id)) there in
    (place, slice_get_within (numbers_in files) place row.record.id at, get_or_from_slice_get (numbers_in files) place row.record.id row.record.id at)

-- one lane was changed
pub record LaneSet (old new : Batch) (j : ℕ) (lane lane_after : FileLane) : Type 0 where
  pub within : j < length old.lanes.items
  pub was : slice_get old.lanes.items j ≡ Some lane
  pub lanes : new.lanes.items ≡ set old.lanes.items j lane_after
  pub limit : lane_after.ends.limit ≡ lane.ends.limit
  pub kind : lanes_kind new.hashes ≡ lanes_kind old.hashes
  pub hashes_else : (i : ℕ) → i < 8 → (i ≡ j → ⊥) → (bytes : List ℕ) → Scanned old.hashes i bytes → Scanned new.hashes i bytes

module _ (old new : Batch) (j : ℕ) (lane lane_after : FileLane) (lanes : LaneSet old new j lane lane_after) where
  pub lane_there : slice_get new.lanes.items j ≡ Some lane_after
  lane_there = ap (λ (l : List FileLane). slice_get l j) lanes.lanes ∙ set_here old.lanes.items j lane_after lanes.within

  pub lanes_else : (i : ℕ) → (i ≡ j → ⊥) → slice_get new.lanes.items i ≡ slice_get old.lanes.items i
  lanes_else i apart = ap (λ (l : List FileLane). slice_get l i) lanes.lanes ∙ set_else old.lanes.items j i lane_after apart

  pub still_for : (options : Options) → IsFor options old → IsFor options new
  still_for options made = record {
    few = made.few;
    eight = ap length lanes.lanes ∙ (length-set old.lanes.items j lane_after ∙ made.eight);
    kind = lanes.kind ∙ made.kind;
    limits = λ i its there. elim (eqb_tells i j) [
      | inl t ↦ ap (λ (l : FileLane). l.ends.limit) (same_item (slice_get new.lanes.items j) its lane_after (subst (λ (k : ℕ). slice_get new.lanes.items k ≡ Some its) t.1 there) lane_there) ∙ (lanes.limit ∙ made.limits j lane lanes.was)
      | inr t ↦ made.limits i its (sym (lanes_else i t.1) ∙ there)
    ];
  }

-- one file was changed
pub record FileSet (old new : Batch) (place : ℕ) (row row_after : FileRow) : Type 0 where
  pub was : slice_get old.files.items place ≡ Some row
  pub files : new.files.items ≡ set old.files.items place row_after

within_list : {A : Type 0} (xs : List A) (place : ℕ) (x : A) → slice_get xs place ≡ Some x → place < length xs
within_list [] place x there = absurd cc
within_list (y ∷ ys) zero x there = omega arith
within_list (y ∷ ys) (suc place) x there = omega (arith, within_list ys place x there)

moves_of : (old new : Batch) (j place : ℕ) (lane lane_after : FileLane) (row row_after : FileRow) → LaneSet old new j lane lane_after → FileSet old new place row row_after
    → ((other : ℕ) → lane.busy ≡ true → lane.place ≡ other → other ≡ place) → ((other : ℕ) → (other ≡ place → ⊥) → Contains old.waiting.items other → Contains new.waiting.items other) → Moves old new j place row_after
moves_of old new j place lane lane_after row row_after lanes files free waiting = record {
  row_at = ap (λ (l : List FileRow). slice_get l place) files.files ∙ set_here old.files.items place row_after (within_list old.files.items place row files.was);
  rows_else = λ other apart. ap (λ (l : List FileRow). slice_get l other) files.files ∙ set_else old.files.items place other row_after apart;
  counted = ap length files.files ∙ length-set old.files.items place row_after;
  lanes_else = lanes_else old new j lane lane_after lanes;
  hashes_else = lanes.hashes_else;
  free = λ other its there busy at. let same = same_item (slice_get old.lanes.items j) its lane there lanes.was in
      free other (sym (ap (λ (l : FileLane). l.busy) same) ∙ busy) (sym (ap (λ (l : FileLane). l.place) same) ∙ at);
  waiting = waiting;
}

module _ (registry : Contents) (options : Options) (first : List FileRow) (old new : Batch) (j place : ℕ) (lane lane_after : FileLane) (row row_after : FileRow) (calls : List Call)
    (fits : BatchFits registry options first old calls) (lanes : LaneSet old new j lane lane_after) (files : FileSet old new place row row_after) (small : j < 8) where
  abbrev its_fits : RowFits registry options first old calls place row
  its_fits = fits.rows place row files.was

  -- ---- a file is begun

  pub begun : lane.busy ≡ false → row.state ≡ Waits → row_after ≡ record row { state = InLane j } → Begins lane lane_after place row.entry.len → Scanned new.hashes j []
      → old.waiting.items ≡ new.waiting.items ++ place ∷ [] → BatchFits registry options first new calls
  begun idle waits after begins scanned popped =
      let its = its_fits in
      let state : StateFits registry options old place its.was row its.reading Waits = subst (StateFits registry options old place its.was row its.reading) waits its.state in
      let none : bytes_of its.reading ≡ [] = ap bytes_of state.0 in
      let moves : Moves old new j place row_after = moves_of old new j place lane lane_after row row_after lanes files (λ other busy at. absurd (not_both lane.busy idle busy))
      (λ other apart has. waiting_else other apart (subst (λ (l : List ℕ). Contains l other) popped has)) in
      let lane_fits : LaneFits options new j place its.was.entry its.reading = record {
        within = small;
        lane = lane_after;
        there = lane_there old new j lane lane_after lanes;
        busy = begins.busy;
        its = begins.its;
        ending = subst (λ (b : Bool). MatchBool b (is_whole its.reading.ending ≡ true) ((its.reading.ending ≡ NotYet) × (lane_after.from ≡ length (joined its.reading.pieces)))) (sym begins.at_end)
            (ap (λ (r : Reading). r.ending) state.0, begins.from ∙ sym (ap (λ (r : Reading). length (joined r.pieces)) state.0));
        hashed = [];
        scanned = scanned;
        bytes = none ∙ sym (drop_none lane_after.hashed lane_after.buffer.items begins.empty);
        came = subst (Came lane_after.ends) (sym none) begins.came;
        size = begins.size ∙ ap (λ (e : FolderEntry). e.len) its.entry;
      } in
      let fits_now : RowFits registry options first new (calls ++ []) place (record row { state = InLane j }) = record {
        was = its.was;
        there = its.there;
        entry = its.entry;
        reading = its.reading;
        is_reading = its.is_reading;
        reads = ap (reads_of its.was.record.id) (append-nil calls) ∙ its.reads;
        state = (lane_fits, state.1);
      } in
      no_calls registry options first new calls
      (moved registry options first old new j place row_after moves calls [] fits its.was its.there (λ number apart. refl) refl (listed first place its.was its.there)
      (subst (RowFits registry options first new (calls ++ []) place) (sym after) fits_now)
      (λ is. in_lane (sym (ap (λ (r : FileRow). r.state) after) ∙ is)) (still_for old new j lane lane_after lanes options fits.made))
    where
      not_both : (b : Bool) → b ≡ false → b ≡ true → ⊥
      not_both true is_false is_true = cc
      not_both false is_false is_true = cc

      waiting_else : (other : ℕ) → (other ≡ place → ⊥) → Contains (new.waiting.items ++ place ∷ []) other → Contains new.waiting.items other
      waiting_else other apart has = elim (Contains-push_cases new.waiting.items place other has) [
        | inl there ↦ there
        | inr same ↦ absurd (apart (sym same))
      ]

      in_lane : InLane j ≡ Waits → ⊥
      in_lane is = cc

  -- ---- a file is read in the lane

  record IsRead : Type 0 where
    pub fits_lane : LaneFits options old j place its_fits.was.entry its_fits.reading
    pub plain : row.record ≡ its_fits.was.record
    pub same : fits_lane.lane ≡ lane

  is_read : row.state ≡ InLane j → IsRead
  is_read in_lane =
      let state : StateFits registry options old place its_fits.was row its_fits.reading (InLane j) = subst (StateFits registry options old place its_fits.was row its_fits.reading) in_lane its_fits.state in
      record { fits_lane = state.0; plain = state.1; same = same_item (slice_get old.lanes.items j) state.0.lane lane state.0.there lanes.was }

  -- the others' reads are none of these
  others_none : (its : ℕ) (observation : Observation) (number : ℕ) → (number ≡ its → ⊥) → reads_of number (OfFile its observation ∷ []) ≡ []
  others_none its observation number apart = read_else number its observation apart

  module _ (in_lane : row.state ≡ InLane j) (unchanged : old.waiting.items ≡ new.waiting.items) where
    abbrev read : IsRead
    read = is_read in_lane

    its_place : lane.place ≡ place
    its_place = sym (ap (λ (l : FileLane). l.place) read.same) ∙ read.fits_lane.its

    moves_now : Moves old new j place row_after
    moves_now = moves_of old new j place lane lane_after row row_after lanes files (λ other busy at. sym at ∙ its_place) (λ other apart has. subst (λ (l : List ℕ). Contains l other) unchanged has)

    -- this lane and this file are so far now
    moved_to : (more : List Call) → ((number : ℕ) → (number ≡ its_fits.was.record.id → ⊥) → reads_of number more ≡ []) → folder_calls more ≡ [] → RowFits registry options first new (calls ++ more) place row_after
        → (row_after.state ≡ Waits → ⊥) → BatchFits registry options first new (calls ++ more)
    moved_to more none no_folders row_fits begun_now =
        moved registry options first old new j place row_after moves_now calls more fits its_fits.was its_fits.there none no_folders (listed first place its_fits.was its_fits.there) row_fits begun_now
        (still_for old new j lane lane_after lanes options fits.made)

    -- the entry and what is left of the file
    size_is : lane.ends.size ≡ its_fits.was.entry.len
    size_is = sym (ap (λ (l : FileLane). l.ends.size) read.same) ∙ read.fits_lane.size

    came_is : Came lane.ends (bytes_of its_fits.reading)
    came_is = subst (λ (l : FileLane). Came l.ends (bytes_of its_fits.reading)) read.same read.fits_lane.came

    -- all that was read is hashed
    all_hashed : drop lane.hashed lane.buffer.items ≡ [] → Scanned old.hashes j (bytes_of its_fits.reading)
    all_hashed none =
        let rest : drop read.fits_lane.lane.hashed read.fits_lane.lane.buffer.items ≡ [] = subst (λ (l : FileLane). drop l.hashed l.buffer.items ≡ []) (sym read.same) none in
        let all : bytes_of its_fits.reading ≡ read.fits_lane.hashed =
        read.fits_lane.bytes ∙ (ap (λ (l : List ℕ). read.fits_lane.hashed ++ l) rest ∙ append-nil read.fits_lane.hashed) in
        subst (Scanned old.hashes j) (sym all) read.fits_lane.scanned

    module _ (due : IsDue lane) where
      open_now : (its_fits.reading.ending ≡ NotYet) × (lane.from ≡ length (joined its_fits.reading.pieces))
      open_now =
          let fits_lane : FileLane → Type 0 = λ l. MatchBool l.at_end (is_whole its_fits.reading.ending ≡ true) ((its_fits.reading.ending ≡ NotYet) × (l.from ≡ length (joined its_fits.reading.pieces))) in
          subst (λ (b : Bool). MatchBool b (is_whole its_fits.reading.ending ≡ true) ((its_fits.reading.ending ≡ NotYet) × (lane.from ≡ length (joined its_fits.reading.pieces)))) due.goes_on (subst fits_lane read.same read.fits_lane.ending)

      pub from_within : lane.from ≤ row.entry.len
      from_within = omega (arith, open_now.1, its_fits.is_reading.within, ap (λ (e : FolderEntry). e.len) its_fits.entry)

      reading_is : its_fits.reading ≡ opened its_fits.reading.pieces
      reading_is = is_open its_fits.reading open_now.0

      bytes_are : bytes_of its_fits.reading ≡ joined its_fits.reading.pieces
      bytes_are = ap bytes_of reading_is ∙ open_bytes its_fits.was.record.path its_fits.was.entry its_fits.reading.pieces

      -- a piece more was read
      module _ (bytes : List ℕ) (gets : GetsBytes lane lane_after bytes) (still : row_after ≡ row) (same_hashes : new.hashes ≡ old.hashes) where
        abbrev number : ℕ
        number = its_fits.was.record.id

        abbrev seen : ℕ → Call
        seen wanted = OfFile its_fits.was.record.id (Read row.record.path row.entry lane.from wanted bytes)

        path_is : row.record.path ≡ its_fits.was.record.path
        path_is = ap (λ (r : Record). r.path) read.plain

        seen_is : (wanted : ℕ) → reads_of its_fits.was.record.id (calls ++ seen wanted ∷ []) ≡ reads_in its_fits.was.record.path its_fits.was.entry its_fits.reading ++ Read its_fits.was.record.path its_fits.was.entry lane.from wanted bytes ∷ []
        seen_is wanted =
            reads_append its_fits.was.record.id calls (seen wanted ∷ [])
            ∙ (ap (λ (l : List Observation). l ++ reads_of its_fits.was.record.id (seen wanted ∷ [])) its_fits.reads
            ∙ (ap (λ (l : List Observation). reads_in its_fits.was.record.path its_fits.was.entry its_fits.reading ++ l) (read_more its_fits.was.record.id (Read row.record.path row.entry lane.from wanted bytes))
            ∙ (ap (λ (p : List ℕ). reads_in its_fits.was.record.path its_fits.was.entry its_fits.reading ++ Read p row.entry lane.from wanted bytes ∷ []) path_is
            ∙ ap (λ (e : FolderEntry). reads_in its_fits.was.record.path its_fits.was.entry its_fits.reading ++ Read its_fits.was.record.path e lane.from wanted bytes ∷ []) its_fits.entry)))

        lane_holds : (reading : Reading) → bytes_of reading ≡ joined its_fits.reading.pieces ++ bytes
            → MatchBool lane_after.at_end (is_whole reading.ending ≡ true) ((reading.ending ≡ NotYet) × (lane_after.from ≡ length (joined reading.pieces))) → LaneFits options new j place its_fits.was.entry reading
        lane_holds reading all ending = record {
          within = small;
          lane = lane_after;
          there = lane_there old new j lane lane_after lanes;
          busy = gets.busy ∙ due.busy;
          its = gets.its ∙ its_place;
          ending = ending;
          hashed = bytes_of its_fits.reading;
          scanned = subst (λ (h : _). Scanned h j (bytes_of its_fits.reading)) (sym same_hashes) (all_hashed due.hashed);
          bytes = all ∙ (ap (λ (l : List ℕ). l ++ bytes) (sym bytes_are)
              ∙ ap (λ (l : List ℕ). bytes_of its_fits.reading ++ l) (sym (ap (λ (n : ℕ). drop n lane_after.buffer.items) gets.hashed ∙ gets.buffer)));
          came = subst (Came lane_after.ends) (ap (λ (l : List ℕ). l ++ bytes) bytes_are ∙ sym all) (gets.came (bytes_of its_fits.reading) came_is);
          size = gets.size ∙ size_is;
        }

        row_now : (wanted : ℕ) (reading : Reading) → IsReading its_fits.was.entry.len reading → reads_in its_fits.was.record.path its_fits.was.entry its_fits.reading ++ Read its_fits.was.record.path its_fits.was.entry lane.from wanted bytes ∷ [] ≡ reads_in its_fits.was.record.path its_fits.was.entry reading
            → LaneFits options new j place its_fits.was.entry reading → BatchFits registry options first new (calls ++ seen wanted ∷ [])
        row_now wanted reading is_reading same lane_fits =
            let now : RowFits registry options first new (calls ++ seen wanted ∷ []) place row = record {
              was = its_fits.was;
              there = its_fits.there;
              entry = its_fits.entry;
              reading = reading;
              is_reading = is_reading;
              reads = seen_is wanted ∙ same;
              state = subst (StateFits registry options new place its_fits.was row reading) (sym in_lane) (lane_fits, read.plain);
            } in
            moved_to (seen wanted ∷ []) (others_none its_fits.was.record.id (Read row.record.path row.entry lane.from wanted bytes)) refl (subst (RowFits registry options first new (calls ++ seen wanted ∷ []) place) (sym still) now)
            (λ waits. absurd (in_no_lane (sym in_lane ∙ (sym (ap (λ (r : FileRow). r.state) still) ∙ waits))))
          where
            in_no_lane : InLane j ≡ Waits → ⊥
            in_no_lane is = cc

        pub piece_read : lane.from + length bytes ≤ row.entry.len → lane_after.at_end ≡ false → BatchFits registry options first new (calls ++ seen (length bytes) ∷ [])
        piece_read within goes_on =
            let pieces = its_fits.reading.pieces in
            let path = its_fits.was.record.path in
            let entry = its_fits.was.entry in
            let in_file : lane.from + length bytes ≤ entry.len = omega (arith, within, ap (λ (e : FolderEntry). e.len) its_fits.entry) in
            let reading : Reading = opened (pieces ++ bytes ∷ []) in
            row_now (length bytes) reading (longer_is path entry pieces bytes lane.from open_now.1 in_file)
            (ap (λ (r : Reading). reads_in path entry r ++ Read path entry lane.from (length bytes) bytes ∷ []) reading_is ∙ sym (longer_reads path entry pieces bytes lane.from open_now.1))
            (lane_holds reading (longer_bytes path entry pieces bytes lane.from open_now.1)
            (subst (λ (b : Bool). MatchBool b (is_whole reading.ending ≡ true) ((reading.ending ≡ NotYet) × (lane_after.from ≡ length (joined reading.pieces)))) (sym goes_on)
            (refl, gets.from ∙ sym (longer_joined path entry pieces bytes lane.from open_now.1))))

        pub last_piece_read : (wanted : ℕ) → IsEnding row.entry.len lane.from (AtEnd wanted bytes) → lane_after.at_end ≡ true → BatchFits registry options first new (calls ++ seen wanted ∷ [])
        last_piece_read wanted is ended =
            let pieces = its_fits.reading.pieces in
            let path = its_fits.was.record.path in
            let entry = its_fits.was.entry in
            let reading : Reading = ended_by pieces (AtEnd wanted bytes) in
            row_now wanted reading (ended_is path entry pieces (AtEnd wanted bytes) lane.from open_now.1 its_fits.is_reading.within (subst (λ (e : FolderEntry). IsEnding e.len lane.from (AtEnd wanted bytes)) its_fits.entry is))
            (ap (λ (r : Reading). reads_in path entry r ++ Read path entry lane.from wanted bytes ∷ []) reading_is ∙ sym (ended_reads path entry pieces (AtEnd wanted bytes) lane.from open_now.1))
            (lane_holds reading refl (subst (λ (b : Bool). MatchBool b (is_whole reading.ending ≡ true) ((reading.ending ≡ NotYet) × (lane_after.from ≡ length (joined reading.pieces)))) (sym ended) refl))

      -- the reading stopped
      pub stopped : (ending : Ending) (observation : Observation) (why : Skipped) → last_read row.record.path row.entry lane.from ending ≡ observation ∷ [] → IsEnding row.entry.len lane.from ending → IsDropped ending why → row_after ≡ record row { state = Dropped why }
          → BatchFits registry options first new (calls ++ OfFile its_fits.was.record.id observation ∷ [])
      stopped ending observation why one is dropped after =
          let pieces = its_fits.reading.pieces in
          let path = its_fits.was.record.path in
          let entry = its_fits.was.entry in
          let path_is : row.record.path ≡ path = ap (λ (r : Record). r.path) read.plain in
          let last_is : last_read path entry lane.from ending ≡ observation ∷ [] =
          sym (ap (λ (p : List ℕ). last_read p row.entry lane.from ending) path_is ∙ ap (λ (e : FolderEntry). last_read path e lane.from ending) its_fits.entry) ∙ one in
          let now : RowFits registry options first new (calls ++ OfFile its_fits.was.record.id observation ∷ []) place (record row { state = Dropped why }) = record {
            was = its_fits.was;
            there = its_fits.there;
            entry = its_fits.entry;
            reading = ended_by pieces ending;
            is_reading = ended_is path entry pieces ending lane.from open_now.1 its_fits.is_reading.within (subst (λ (e : FolderEntry). IsEnding e.len lane.from ending) its_fits.entry is);
            reads = reads_append its_fits.was.record.id calls (OfFile its_fits.was.record.id observation ∷ [])
                ∙ (ap (λ (l : List Observation). l ++ reads_of its_fits.was.record.id (OfFile its_fits.was.record.id observation ∷ [])) its_fits.reads
                ∙ (ap (λ (l : List Observation). reads_in path entry its_fits.reading ++ l) (read_more its_fits.was.record.id observation ∙ sym last_is)
                ∙ (ap (λ (r : Reading). reads_in path entry r ++ last_read path entry lane.from ending) reading_is ∙ sym (ended_reads path entry pieces ending lane.from open_now.1))));
            state = (dropped, read.plain);
          } in
          moved_to (OfFile its_fits.was.record.id observation ∷ []) (others_none its_fits.was.record.id observation) refl
          (subst (RowFits registry options first new (calls ++ OfFile its_fits.was.record.id observation ∷ []) place) (sym after) now)
          (λ waits. absurd (in_no_lane (sym (ap (λ (r : FileRow). r.state) after) ∙ waits)))
        where
          in_no_lane : Dropped why ≡ Waits → ⊥
          in_no_lane is = cc

    -- ---- the file of the lane ends

    pub completed : HasEnded lane → (digest : HashValue) (found : Found) → ((bytes : List ℕ) → Scanned old.hashes j bytes → digest ≡ hash options.hash bytes)
        → ((bytes : List ℕ) → Came lane.ends bytes → length bytes ≡ row.entry.len → found ≡ found_of registry options row.entry bytes) → Completes row row_after digest found → BatchFits registry options first new calls
    completed ended digest found hashes finds completes =
        let entry = its_fits.was.entry in
        let all = bytes_of its_fits.reading in
        let at_end : FileLane → Type 0 = λ l. MatchBool l.at_end (is_whole its_fits.reading.ending ≡ true) ((its_fits.reading.ending ≡ NotYet) × (l.from ≡ length (joined its_fits.reading.pieces))) in
        let whole : is_whole its_fits.reading.ending ≡ true =
        subst (λ (b : Bool). MatchBool b (is_whole its_fits.reading.ending ≡ true) ((its_fits.reading.ending ≡ NotYet) × (lane.from ≡ length (joined its_fits.reading.pieces)))) ended.at_end (subst at_end read.same read.fits_lane.ending) in
        let counted : length all ≡ entry.len = whole_length its_fits.reading entry.len its_fits.reading.ending refl whole its_fits.is_reading.ending in
        let hash_is : digest ≡ hash options.hash all = hashes all (all_hashed ended.hashed) in
        let found_is : found ≡ found_of registry options entry all = finds all came_is (counted ∙ sym (ap (λ (e : FolderEntry). e.len) its_fits.entry)) ∙ ap (λ (e : FolderEntry). found_of registry options e all) its_fits.entry in
        let now : RowFits registry options first new (calls ++ []) place row_after = record {
          was = its_fits.was;
          there = its_fits.there;
          entry = completes.entry ∙ its_fits.entry;
          reading = its_fits.reading;
          is_reading = its_fits.is_reading;
          reads = ap (reads_of its_fits.was.record.id) (append-nil calls) ∙ its_fits.reads;
          state = subst (StateFits registry options new place its_fits.was row_after its_fits.reading) (sym completes.state) (
            whole,
            completes.record_is ∙ (ap (λ (r : Record). record r { method = found.method; mismatch = found.mismatch; hash = digest; puids = found.puids }) read.plain
                ∙ (ap (λ (d : HashValue). record its_fits.was.record { method = found.method; mismatch = found.mismatch; hash = d; puids = found.puids }) hash_is
                ∙ ap (λ (f : Found). whole_record options its_fits.was.record f all) found_is)),
          );
        } in
        no_calls registry options first new calls (moved_to [] (λ number apart. refl) refl now (λ waits. absurd (is_no_wait (sym completes.state ∙ waits))))
      where
        is_no_wait : Whole ≡ Waits → ⊥
        is_no_wait is = cc
