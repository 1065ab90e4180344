use Rattle.std.proofs.Common.{◌≡◌, inl, ℕ, ◌<◌, false, List, length, set, slice_get, Some, ap, refl, sym, subst, ◌∙◌, arith}
use Rattle.std.proofs.lemmas.Option.{slice_get_read, slice_get_within}
use Rattle.droid_frame.specs.Hashes.{hash}
use Rattle.droid_frame.specs.declared.hash_kind.HashKind.{HashKind}
use Rattle.droid_profile.specs.FileStates.{HasState}
use Rattle.droid_profile.specs.LaneEnds.{HasEnded}
use Rattle.droid_profile.specs.declared.lanes.file_lane.FileLane.{FileLane}
use Rattle.droid_profile.specs.declared.lanes.file_row.FileRow.{FileRow}
use Rattle.droid_profile.specs.declared.lanes.file_row.FileState.TheVariants.{InLane}
use Rattle.droid_profile.proofs.BatchSteps.{completed}
use Rattle.droid_profile.proofs.LaneEnd.{has_read}
use Rattle.droid_profile.proofs.Places.{same_item}
use Rattle.droid_profile.proofs.StrayLane.{left_idle}
use Rattle.droid_profile.proofs.TurnSteps.{idle_less, lanes_less}
use Rattle.droid_profile.proofs.lanes.file_end.end_file.Goals as goal

pub identify_at-requires-clause-read : goal.identify_at-requires-clause-read
identify_at-requires-clause-read c = λ its row its_there row_there.
    let files : List FileRow = c.args.batch.now.files.items in
    let lanes : List FileLane = c.args.batch.now.lanes.items in
    let place = c.index-2.result.now.place in
    let has = c.is_read_in.ensures.0 c.if-not-is_read_in.false in
    let there : slice_get files place ≡ Some has.row = sym (ap (λ (l : List FileRow). slice_get l place) c.as_slice.ensures.value) ∙ has.there in
    let first_there : slice_get lanes c.args.lane ≡ Some c.index.result.now = slice_get_read lanes (length lanes) c.args.lane c.index.result.now refl c.requires.within c.index.ensures in
    has_read c.args.registry.now c.args.options c.requires.fits.first c.args.batch.now c.requires.fits.calls c.requires.fits.fits c.args.lane place its row its_there row_there
    (ap (λ (r : FileRow). r.state) (same_item (slice_get files place) row has.row row_there there) ∙ has.its)
    (subst HasEnded (same_item (slice_get lanes c.args.lane) c.index.result.now its first_there its_there) (c.has_ended.ensures.ended c.if-not-has_ended.false))

pub index_mut-requires-2 : goal.index_mut-requires-2
index_mut-requires-2 c =
    let has = c.is_read_in.ensures.0 c.if-not-is_read_in.false in
    let place = c.index-2.result.now.place in
    let there : slice_get c.args.batch.now.files.items place ≡ Some has.row = sym (ap (λ (l : List FileRow). slice_get l place) c.as_slice.ensures.value) ∙ has.there in
    omega (arith, slice_get_within c.args.batch.now.files.items place has.row there, c.args.batch.now.files.ok.0)

pub returns-clause-fits : goal.returns-clause-fits
returns-clause-fits c = λ first calls fits.
    let files : List FileRow = c.args.batch.now.files.items in
    let lanes : List FileLane = c.args.batch.now.lanes.items in
    let place = c.index-2.result.now.place in
    let has = c.is_read_in.ensures.0 c.if-not-is_read_in.false in
    let there : slice_get files place ≡ Some has.row = sym (ap (λ (l : List FileRow). slice_get l place) c.as_slice.ensures.value) ∙ has.there in
    let within : place < length files = slice_get_within files place has.row there in
    let row = c.index_mut-2.result.now in
    let row_there : slice_get files place ≡ Some row = slice_get_read files (length files) place row refl within c.index_mut-2.ensures.value in
    let lane = c.index_mut-3.result.now in
    let lane_there : slice_get lanes c.args.lane ≡ Some lane = slice_get_read lanes (length lanes) c.args.lane lane refl c.requires.within c.index_mut-3.ensures.value in
    let first_there : slice_get lanes c.args.lane ≡ Some c.index.result.now = slice_get_read lanes (length lanes) c.args.lane c.index.result.now refl c.requires.within c.index.ensures in
    completed c.args.registry.now c.args.options first c.args.batch.now _ c.args.lane place lane (record lane { busy = false }) row c.complete.new.row calls fits
    (record {
      within = c.requires.within;
      was = lane_there;
      lanes = refl;
      limit = refl;
      kind = c.end-hash.ensures.kind;
      hashes_else = λ i small apart bytes scanned. c.end-hash.ensures.others i small apart bytes scanned;
    })
    (record { was = row_there; files = refl })
    (omega (arith, c.requires.within, fits.made.eight))
    (ap (λ (r : FileRow). r.state) (same_item (slice_get files place) row has.row row_there there) ∙ has.its)
    refl
    (subst HasEnded (same_item (slice_get lanes c.args.lane) c.index.result.now lane first_there lane_there) (c.has_ended.ensures.ended c.if-not-has_ended.false))
    c.end-hash.result c.in_ok-found.found
    (λ bytes scanned. c.end-hash.ensures.value bytes scanned ∙ ap (λ (k : HashKind). hash k bytes) fits.made.kind)
    (λ bytes came whole. c.in_ok-found.ensures lane row bytes lane_there row_there came whole)
    c.complete.ensures

pub identify_at-requires-clause-there : goal.identify_at-requires-clause-there
identify_at-requires-clause-there c =
    let has = c.is_read_in.ensures.0 c.if-not-is_read_in.false in
    let place = c.index-2.result.now.place in
    let there : slice_get c.args.batch.now.files.items place ≡ Some has.row = sym (ap (λ (l : List FileRow). slice_get l place) c.as_slice.ensures.value) ∙ has.there in
    slice_get_within c.args.batch.now.files.items place has.row there

-- ---- no file is read in the lane

pub returns-then-not-is_read_in-clause-fits : goal.returns-then-not-is_read_in-clause-fits
returns-then-not-is_read_in-clause-fits c = λ first calls fits.
    let files : List FileRow = c.args.batch.now.files.items in
    let lanes : List FileLane = c.args.batch.now.lanes.items in
    let j = c.args.lane in
    let lane = c.index_mut.result.now in
    let lane_there : slice_get lanes j ≡ Some lane = slice_get_read lanes (length lanes) j lane refl c.requires.within c.index_mut.ensures.value in
    let second_there : slice_get lanes j ≡ Some c.index-2.result.now = slice_get_read lanes (length lanes) j c.index-2.result.now refl c.requires.within c.index-2.ensures in
    let place = c.index-2.result.now.place in
    let its_place : lane.place ≡ place = ap (λ (l : FileLane). l.place) (same_item (slice_get lanes j) lane c.index-2.result.now lane_there second_there) in
    left_idle c.args.registry.now c.args.options first c.args.batch.now _ j lane (record lane { busy = false })
    (record { within = c.requires.within; was = lane_there; lanes = refl; limit = refl; kind = refl; hashes_else = λ i small apart bytes scanned. scanned }) refl refl
    (λ has.
    let here : HasState c.as_slice.result.now place (InLane j) = record {
      row = has.row;
      there = ap (λ (l : List FileRow). slice_get l place) c.as_slice.ensures.value ∙ subst (λ (k : ℕ). slice_get files k ≡ Some has.row) its_place has.there;
      its = has.its;
    } in
    let yes = c.is_read_in.ensures.1 here in
    let no = c.if-not-is_read_in.true in
    absurd cc)
    calls fits

-- ---- less is left

pub returns-then-not-is_read_in-clause-lessens : goal.returns-then-not-is_read_in-clause-lessens
returns-then-not-is_read_in-clause-lessens c =
    let lanes : List FileLane = c.args.batch.now.lanes.items in
    let lane = c.index_mut.result.now in
    let lane_there : slice_get lanes c.args.lane ≡ Some lane = slice_get_read lanes (length lanes) c.args.lane lane refl c.requires.within c.index_mut.ensures.value in
    let first_there : slice_get lanes c.args.lane ≡ Some c.index.result.now = slice_get_read lanes (length lanes) c.args.lane c.index.result.now refl c.requires.within c.index.ensures in
    let ended = subst HasEnded (same_item (slice_get lanes c.args.lane) c.index.result.now lane first_there lane_there) (c.has_ended.ensures.ended c.if-not-has_ended.false) in
    inl (omega (arith, lanes_less lanes (set lanes c.args.lane (record lane { busy = false })) c.args.lane lane (record lane { busy = false }) lane_there refl (idle_less lane (record lane { busy = false }) ended.busy refl)))

pub returns-clause-lessens : goal.returns-clause-lessens
returns-clause-lessens c =
    let lanes : List FileLane = c.args.batch.now.lanes.items in
    let lane = c.index_mut-3.result.now in
    let lane_there : slice_get lanes c.args.lane ≡ Some lane = slice_get_read lanes (length lanes) c.args.lane lane refl c.requires.within c.index_mut-3.ensures.value in
    let first_there : slice_get lanes c.args.lane ≡ Some c.index.result.now = slice_get_read lanes (length lanes) c.args.lane c.index.result.now refl c.requires.within c.index.ensures in
    let ended = subst HasEnded (same_item (slice_get lanes c.args.lane) c.index.result.now lane first_there lane_there) (c.has_ended.ensures.ended c.if-not-has_ended.false) in
    inl (omega (arith, lanes_less lanes (set lanes c.args.lane (record lane { busy = false })) c.args.lane lane (record lane { busy = false }) lane_there refl (idle_less lane (record lane { busy = false }) ended.busy refl)))
