use Rattle.std.proofs.Common.{◌≡◌, inl, ℕ, ◌<◌, false, List, [], length, get_or, set, slice_get, Some, length-set, append-nil, ap, refl, sym, subst, ◌∙◌, arith}
use Rattle.std.specs.Vec.{with_item}
use Rattle.std.proofs.lemmas.Option.{slice_get_read, slice_get_within}
use Rattle.droid_profile.specs.BatchFits.{BatchFits}
use Rattle.droid_profile.specs.FileStates.{HasState}
use Rattle.droid_profile.specs.LaneReads.{IsDue, ReadsOnce}
use Rattle.droid_profile.specs.TurnsLeft.{MovesOn}
use Rattle.droid_profile.specs.declared.lanes.batch.Batch.{Batch}
use Rattle.droid_profile.specs.declared.lanes.file_lane.FileLane.{FileLane}
use Rattle.droid_profile.specs.declared.lanes.file_row.FileRow.{FileRow}
use Rattle.droid_profile.specs.declared.lanes.file_row.FileState.TheVariants.{InLane, Dropped}
use Rattle.droid_profile.specs.declared.lanes.lane_reader.Came.{Came as Outcome}
use Rattle.droid_profile.proofs.BatchSteps.{FileSet, LaneSet, from_within}
use Rattle.droid_profile.proofs.MoreReads.{more_last, more_piece, more_stopped}
use Rattle.droid_profile.proofs.Places.{same_item, set_here, set_same, set_twice}
use Rattle.droid_profile.proofs.StrayLane.{left_idle}
use Rattle.droid_profile.proofs.TurnSteps.{idle_less, lanes_less, moved_less}
use Rattle.droid_profile.proofs.lanes.lane_reader.read_on.Goals as goal

pub returns-in-Piece-clause-read : goal.returns-in-Piece-clause-read
returns-in-Piece-clause-read g c = λ registry options first calls batch fits.
    let files : List FileRow = c.args.files.now.items in
    let lanes : List FileLane = c.args.lanes.now.items in
    let j = c.args.lane in
    let place = c.index-2.result.now.place in
    let has = c.is_read_in.ensures.0 c.if-not-is_read_in.false in
    let there : slice_get files place ≡ Some has.row = sym (ap (λ (l : List FileRow). slice_get l place) c.as_slice.ensures.value) ∙ has.there in
    let within : place < length files = slice_get_within files place has.row there in
    let row : FileRow = c.index-as_slice-place.result in
    let row_there : slice_get files place ≡ Some row =
    slice_get_read files (length files) place row refl within (c.index-as_slice-place.is ∙ ap (λ (l : List FileRow). get_or l place row) c.as_slice-2.ensures.value) in
    let lane = c.index_mut-2.result.now in
    let lane_there : slice_get lanes j ≡ Some lane = slice_get_read lanes (length lanes) j lane refl c.requires c.index_mut-2.ensures.value in
    let first_there : slice_get lanes j ≡ Some c.index.result.now = slice_get_read lanes (length lanes) j c.index.result.now refl c.requires c.index.ensures in
    let due : IsDue lane = subst IsDue (same_item (slice_get lanes j) c.index.result.now lane first_there lane_there) (c.is_due.ensures.due c.if-not-is_due.false) in
    let in_lane : row.state ≡ InLane j = ap (λ (r : FileRow). r.state) (same_item (slice_get files place) row has.row row_there there) ∙ has.its in
    let small : j < 8 = omega (arith, c.requires, fits.made.eight) in
    let old : Batch = record batch { files = c.args.files.now; lanes = c.args.lanes.now } in
    let after = c.read_piece.new.lane in
    let new : Batch = record batch { files = c.args.files.now; lanes = with_item c.args.lanes.now j after } in
    let lane_set : LaneSet old new j lane after = record {
      within = c.requires;
      was = lane_there;
      lanes = refl;
      limit = c.read_piece.ensures.limit;
      kind = refl;
      hashes_else = λ i below apart bytes scanned. scanned;
    } in
    let file_set : FileSet old new place row row = record { was = row_there; files = set_same files place row row_there } in
    let start = from_within registry options first old new j place lane after row row calls fits lane_set file_set small in_lane refl due in
    more_piece g.T.Tree.observes g.W.Watcher.hears registry options first old new j place lane after row row calls fits lane_set file_set small in_lane refl due
    c.args.tree.now c.read_piece.new.tree c.args.watcher.now c.read_piece.new.watcher refl refl
    (subst (λ (o : Outcome). ReadsOnce g.T.Tree.observes g.W.Watcher.hears row.record.path row.entry o lane after c.args.tree.now c.read_piece.new.tree c.args.watcher.now c.read_piece.new.watcher) c.in-Piece.is (c.in_ok-why.ensures.read start))

pub returns-in-Last-clause-read : goal.returns-in-Last-clause-read
returns-in-Last-clause-read g c = λ registry options first calls batch fits.
    let files : List FileRow = c.args.files.now.items in
    let lanes : List FileLane = c.args.lanes.now.items in
    let j = c.args.lane in
    let place = c.index-2.result.now.place in
    let has = c.is_read_in.ensures.0 c.if-not-is_read_in.false in
    let there : slice_get files place ≡ Some has.row = sym (ap (λ (l : List FileRow). slice_get l place) c.as_slice.ensures.value) ∙ has.there in
    let within : place < length files = slice_get_within files place has.row there in
    let row : FileRow = c.index-as_slice-place.result in
    let row_there : slice_get files place ≡ Some row =
    slice_get_read files (length files) place row refl within (c.index-as_slice-place.is ∙ ap (λ (l : List FileRow). get_or l place row) c.as_slice-2.ensures.value) in
    let lane = c.index_mut-2.result.now in
    let lane_there : slice_get lanes j ≡ Some lane = slice_get_read lanes (length lanes) j lane refl c.requires c.index_mut-2.ensures.value in
    let first_there : slice_get lanes j ≡ Some c.index.result.now = slice_get_read lanes (length lanes) j c.index.result.now refl c.requires c.index.ensures in
    let due : IsDue lane = subst IsDue (same_item (slice_get lanes j) c.index.result.now lane first_there lane_there) (c.is_due.ensures.due c.if-not-is_due.false) in
    let in_lane : row.state ≡ InLane j = ap (λ (r : FileRow). r.state) (same_item (slice_get files place) row has.row row_there there) ∙ has.its in
    let small : j < 8 = omega (arith, c.requires, fits.made.eight) in
    let old : Batch = record batch { files = c.args.files.now; lanes = c.args.lanes.now } in
    let after = c.read_piece.new.lane in
    let new : Batch = record batch { files = c.args.files.now; lanes = with_item c.args.lanes.now j after } in
    let lane_set : LaneSet old new j lane after = record {
      within = c.requires;
      was = lane_there;
      lanes = refl;
      limit = c.read_piece.ensures.limit;
      kind = refl;
      hashes_else = λ i below apart bytes scanned. scanned;
    } in
    let file_set : FileSet old new place row row = record { was = row_there; files = set_same files place row row_there } in
    let start = from_within registry options first old new j place lane after row row calls fits lane_set file_set small in_lane refl due in
    more_last g.T.Tree.observes g.W.Watcher.hears registry options first old new j place lane after row row calls fits lane_set file_set small in_lane refl due
    c.args.tree.now c.read_piece.new.tree c.args.watcher.now c.read_piece.new.watcher refl refl
    (subst (λ (o : Outcome). ReadsOnce g.T.Tree.observes g.W.Watcher.hears row.record.path row.entry o lane after c.args.tree.now c.read_piece.new.tree c.args.watcher.now c.read_piece.new.watcher) c.in-Last.is (c.in_ok-why.ensures.read start))

pub returns-in-Stopped-clause-read : goal.returns-in-Stopped-clause-read
returns-in-Stopped-clause-read g c = λ registry options first calls batch fits.
    let files : List FileRow = c.args.files.now.items in
    let lanes : List FileLane = c.args.lanes.now.items in
    let j = c.args.lane in
    let place = c.index-2.result.now.place in
    let has = c.is_read_in.ensures.0 c.if-not-is_read_in.false in
    let there : slice_get files place ≡ Some has.row = sym (ap (λ (l : List FileRow). slice_get l place) c.as_slice.ensures.value) ∙ has.there in
    let within : place < length files = slice_get_within files place has.row there in
    let row : FileRow = c.index-as_slice-place.result in
    let row_there : slice_get files place ≡ Some row =
    slice_get_read files (length files) place row refl within (c.index-as_slice-place.is ∙ ap (λ (l : List FileRow). get_or l place row) c.as_slice-2.ensures.value) in
    let lane = c.index_mut-2.result.now in
    let lane_there : slice_get lanes j ≡ Some lane = slice_get_read lanes (length lanes) j lane refl c.requires c.index_mut-2.ensures.value in
    let first_there : slice_get lanes j ≡ Some c.index.result.now = slice_get_read lanes (length lanes) j c.index.result.now refl c.requires c.index.ensures in
    let due : IsDue lane = subst IsDue (same_item (slice_get lanes j) c.index.result.now lane first_there lane_there) (c.is_due.ensures.due c.if-not-is_due.false) in
    let in_lane : row.state ≡ InLane j = ap (λ (r : FileRow). r.state) (same_item (slice_get files place) row has.row row_there there) ∙ has.its in
    let small : j < 8 = omega (arith, c.requires, fits.made.eight) in
    let old : Batch = record batch { files = c.args.files.now; lanes = c.args.lanes.now } in
    let read = c.read_piece.new.lane in
    let why = c.in-Stopped.why in
    let held = c.index_mut-in-Stopped.result.now in
    let read_there : slice_get (set lanes j read) j ≡ Some read = set_here lanes j read c.requires in
    let held_there : slice_get (set lanes j read) j ≡ Some held =
    slice_get_read (set lanes j read) (length (set lanes j read)) j held refl (omega (arith, c.requires, length-set lanes j read)) c.index_mut-in-Stopped.ensures.value in
    let held_is : held ≡ read = same_item (slice_get (set lanes j read) j) held read held_there read_there in
    let after : FileLane = record held { busy = false } in
    let found = c.index_mut-in-Stopped-2.result.now in
    let found_there : slice_get files place ≡ Some found = slice_get_read files (length files) place found refl within c.index_mut-in-Stopped-2.ensures.value in
    let found_is : found ≡ row = same_item (slice_get files place) found row found_there row_there in
    let row_after : FileRow = record found { state = Dropped why } in
    let new : Batch = record batch { files = with_item c.args.files.now place row_after; lanes = with_item (with_item c.args.lanes.now j read) j after } in
    let lane_set : LaneSet old new j lane after = record {
      within = c.requires;
      was = lane_there;
      lanes = set_twice lanes j read after;
      limit = ap (λ (l : FileLane). l.ends.limit) held_is ∙ c.read_piece.ensures.limit;
      kind = refl;
      hashes_else = λ i below apart bytes scanned. scanned;
    } in
    let file_set : FileSet old new place row row_after = record { was = row_there; files = refl } in
    let start = from_within registry options first old new j place lane after row row_after calls fits lane_set file_set small in_lane refl due in
    more_stopped g.T.Tree.observes g.W.Watcher.hears registry options first old new j place lane after row row_after calls fits lane_set file_set small in_lane refl due
    c.args.tree.now c.read_piece.new.tree c.args.watcher.now c.read_piece.new.watcher read why (ap (λ (r : FileRow). record r { state = Dropped why }) found_is)
    (subst (λ (o : Outcome). ReadsOnce g.T.Tree.observes g.W.Watcher.hears row.record.path row.entry o lane read c.args.tree.now c.read_piece.new.tree c.args.watcher.now c.read_piece.new.watcher) c.in-Stopped.is (c.in_ok-why.ensures.read start))

-- ---- no file is read in the lane

pub returns-then-not-is_read_in-clause-read : goal.returns-then-not-is_read_in-clause-read
returns-then-not-is_read_in-clause-read g c = λ registry options first calls batch fits.
    let files : List FileRow = c.args.files.now.items in
    let lanes : List FileLane = c.args.lanes.now.items in
    let j = c.args.lane in
    let lane = c.index_mut.result.now in
    let lane_there : slice_get lanes j ≡ Some lane = slice_get_read lanes (length lanes) j lane refl c.requires c.index_mut.ensures.value in
    let second_there : slice_get lanes j ≡ Some c.index-2.result.now = slice_get_read lanes (length lanes) j c.index-2.result.now refl c.requires c.index-2.ensures in
    let place = c.index-2.result.now.place in
    let its_place : lane.place ≡ place = ap (λ (l : FileLane). l.place) (same_item (slice_get lanes j) lane c.index-2.result.now lane_there second_there) in
    let after : FileLane = record lane { busy = false } in
    let old : Batch = record batch { files = c.args.files.now; lanes = c.args.lanes.now } in
    let new : Batch = record batch { files = c.args.files.now; lanes = with_item c.args.lanes.now j after } in
    let lane_set : LaneSet old new j lane after = record { within = c.requires; was = lane_there; lanes = refl; limit = refl; kind = refl; hashes_else = λ i small apart bytes scanned. scanned } in
    record {
      more = [];
      fits = subst (BatchFits registry options first new) (sym (append-nil calls)) (left_idle registry options first old new j lane after lane_set refl refl
          (λ has.
          let here : HasState c.as_slice.result.now place (InLane j) = record {
            row = has.row;
            there = ap (λ (l : List FileRow). slice_get l place) c.as_slice.ensures.value ∙ subst (λ (k : ℕ). slice_get files k ≡ Some has.row) its_place has.there;
            its = has.its;
          } in
          let yes = c.is_read_in.ensures.1 here in
          let no = c.if-not-is_read_in.true in
          absurd cc)
          calls fits);
      observed = refl;
      heard = refl;
    }

-- ---- less is left

pub returns-then-not-is_read_in-clause-lessens : goal.returns-then-not-is_read_in-clause-lessens
returns-then-not-is_read_in-clause-lessens g c =
    let lanes : List FileLane = c.args.lanes.now.items in
    let j = c.args.lane in
    let lane = c.index_mut.result.now in
    let lane_there : slice_get lanes j ≡ Some lane = slice_get_read lanes (length lanes) j lane refl c.requires c.index_mut.ensures.value in
    let first_there : slice_get lanes j ≡ Some c.index.result.now = slice_get_read lanes (length lanes) j c.index.result.now refl c.requires c.index.ensures in
    let due : IsDue lane = subst IsDue (same_item (slice_get lanes j) c.index.result.now lane first_there lane_there) (c.is_due.ensures.due c.if-not-is_due.false) in
    let after : FileLane = record lane { busy = false } in
    inl (lanes_less lanes (set lanes j after) j lane after lane_there refl (idle_less lane after due.busy refl))

pub returns-in-Stopped-clause-lessens : goal.returns-in-Stopped-clause-lessens
returns-in-Stopped-clause-lessens g c =
    let lanes : List FileLane = c.args.lanes.now.items in
    let j = c.args.lane in
    let lane = c.index_mut-2.result.now in
    let lane_there : slice_get lanes j ≡ Some lane = slice_get_read lanes (length lanes) j lane refl c.requires c.index_mut-2.ensures.value in
    let first_there : slice_get lanes j ≡ Some c.index.result.now = slice_get_read lanes (length lanes) j c.index.result.now refl c.requires c.index.ensures in
    let due : IsDue lane = subst IsDue (same_item (slice_get lanes j) c.index.result.now lane first_there lane_there) (c.is_due.ensures.due c.if-not-is_due.false) in
    let read = c.read_piece.new.lane in
    let after : FileLane = record c.index_mut-in-Stopped.result.now { busy = false } in
    inl (lanes_less lanes (set (set lanes j read) j after) j lane after lane_there (set_twice lanes j read after) (idle_less lane after due.busy refl))

pub returns-in-Piece-clause-lessens : goal.returns-in-Piece-clause-lessens
returns-in-Piece-clause-lessens g c =
    let lanes : List FileLane = c.args.lanes.now.items in
    let j = c.args.lane in
    let lane = c.index_mut-2.result.now in
    let lane_there : slice_get lanes j ≡ Some lane = slice_get_read lanes (length lanes) j lane refl c.requires c.index_mut-2.ensures.value in
    let first_there : slice_get lanes j ≡ Some c.index.result.now = slice_get_read lanes (length lanes) j c.index.result.now refl c.requires c.index.ensures in
    let due : IsDue lane = subst IsDue (same_item (slice_get lanes j) c.index.result.now lane first_there lane_there) (c.is_due.ensures.due c.if-not-is_due.false) in
    let after = c.read_piece.new.lane in
    let moves = subst (λ (o : Outcome). MovesOn o lane after) c.in-Piece.is c.in_ok-why.ensures.moves in
    inl (lanes_less lanes (set lanes j after) j lane after lane_there refl (moved_less lane after due.busy due.goes_on moves.0 moves.1))

pub returns-in-Last-clause-lessens : goal.returns-in-Last-clause-lessens
returns-in-Last-clause-lessens g c =
    let lanes : List FileLane = c.args.lanes.now.items in
    let j = c.args.lane in
    let lane = c.index_mut-2.result.now in
    let lane_there : slice_get lanes j ≡ Some lane = slice_get_read lanes (length lanes) j lane refl c.requires c.index_mut-2.ensures.value in
    let first_there : slice_get lanes j ≡ Some c.index.result.now = slice_get_read lanes (length lanes) j c.index.result.now refl c.requires c.index.ensures in
    let due : IsDue lane = subst IsDue (same_item (slice_get lanes j) c.index.result.now lane first_there lane_there) (c.is_due.ensures.due c.if-not-is_due.false) in
    let after = c.read_piece.new.lane in
    let moves = subst (λ (o : Outcome). MovesOn o lane after) c.in-Last.is c.in_ok-why.ensures.moves in
    inl (lanes_less lanes (set lanes j after) j lane after lane_there refl (moved_less lane after due.busy due.goes_on moves.0 moves.1))
