use Rattle.std.proofs.Common.{◌≡◌, ◌<◌, List, ℕ, [], ◌∷◌, ◌++◌, length, slice_get, Some, Contains, append-nil, ap, refl, sym, subst, ◌∙◌, arith, inl, inr}
use Rattle.std.proofs.lemmas.List.Elements.{Contains-push_cases}
use Rattle.std.proofs.lemmas.Option.{slice_get_read, slice_get_within}
use Rattle.droid_profile.specs.FileStates.{HasState}
use Rattle.droid_profile.specs.LaneSteps.{Begins}
use Rattle.droid_profile.specs.TurnsLeft.{waiting_left}
use Rattle.droid_profile.specs.declared.lanes.file_lane.FileLane.{FileLane}
use Rattle.droid_profile.specs.declared.lanes.file_row.FileRow.{FileRow}
use Rattle.droid_profile.specs.declared.lanes.file_row.FileState.TheVariants.{Waits, InLane}
use Rattle.droid_profile.proofs.BatchSteps.{begun}
use Rattle.droid_profile.proofs.Places.{same_item}
use Rattle.droid_profile.proofs.TurnSteps.{begun_left, idle_left, left_set, waiting_push}
use Rattle.droid_profile.proofs.WaitingSteps.{waiting_changed}
use Rattle.droid_profile.proofs.lanes.file_start.begin_file.Goals as goal

pub returns-in_default-clause-fits : goal.returns-in_default-clause-fits
returns-in_default-clause-fits c = λ registry options first calls fits.
    waiting_changed registry options first c.args.batch.now _ refl refl refl calls fits
    (λ place row there waits has. subst (λ (l : List ℕ). Contains l place) (c.in_default.ensures.items ∙ append-nil c.pop.new.self.items) has)

-- the file that was popped does not wait
not_last : (waiting front : List ℕ) (last other : ℕ) → waiting ≡ front ++ last ∷ [] → (last ≡ other → ⊥) → Contains waiting other → Contains front other
not_last waiting front last other popped apart has = elim (Contains-push_cases front last other (subst (λ (l : List ℕ). Contains l other) popped has)) [
  | inl there ↦ there
  | inr same ↦ absurd (apart same)
]

pub returns-then-not-waits_at-clause-fits : goal.returns-then-not-waits_at-clause-fits
returns-then-not-waits_at-clause-fits c = λ registry options first calls fits.
    waiting_changed registry options first c.args.batch.now _ refl refl refl calls fits
    (λ place row there waits has. not_last c.args.batch.now.waiting.items c.pop.new.self.items c.in-Some.place place c.in-Some.ensures.items
    (λ same. let here : HasState c.as_slice.result.now c.in-Some.place Waits = record {
      row = row;
      there = ap (λ (l : List FileRow). slice_get l c.in-Some.place) c.as_slice.ensures.value ∙ subst (λ (k : ℕ). slice_get c.args.batch.now.files.items k ≡ Some row) (sym same) there;
      its = waits;
    } in
    let yes = c.waits_at.ensures.1 here in
    let no = c.if-not-waits_at.true in
    absurd cc)
    has)

pub index-requires-2 : goal.index-requires-2
index-requires-2 c =
    let has = c.waits_at.ensures.0 c.if-not-waits_at.false in
    let there : slice_get c.args.batch.now.files.items c.in-Some.place ≡ Some has.row = sym (ap (λ (l : List FileRow). slice_get l c.in-Some.place) c.as_slice.ensures.value) ∙ has.there in
    omega (arith, slice_get_within c.args.batch.now.files.items c.in-Some.place has.row there, c.args.batch.now.files.ok.0)

pub returns-clause-fits : goal.returns-clause-fits
returns-clause-fits c = λ registry options first calls fits.
    let files : List FileRow = c.args.batch.now.files.items in
    let lanes : List FileLane = c.args.batch.now.lanes.items in
    let place = c.in-Some.place in
    let has = c.waits_at.ensures.0 c.if-not-waits_at.false in
    let there : slice_get files place ≡ Some has.row = sym (ap (λ (l : List FileRow). slice_get l place) c.as_slice.ensures.value) ∙ has.there in
    let within : place < length files = slice_get_within files place has.row there in
    let row = c.index_mut-2.result.now in
    let row_there : slice_get files place ≡ Some row = slice_get_read files (length files) place row refl within c.index_mut-2.ensures.value in
    let seen_there : slice_get files place ≡ Some c.index-2.result.now = slice_get_read files (length files) place c.index-2.result.now refl within c.index-2.ensures in
    let lane = c.index_mut.result.now in
    let lane_there : slice_get lanes c.args.lane ≡ Some lane = slice_get_read lanes (length lanes) c.args.lane lane refl c.requires.there c.index_mut.ensures.value in
    let first_there : slice_get lanes c.args.lane ≡ Some c.index.result.now = slice_get_read lanes (length lanes) c.args.lane c.index.result.now refl c.requires.there c.index.ensures in
    begun registry options first c.args.batch.now _ c.args.lane place lane c.begin-2.new.self row (record row { state = InLane c.args.lane }) calls fits
    (record {
      within = c.requires.there;
      was = lane_there;
      lanes = refl;
      limit = c.begin-2.ensures.limit;
      kind = c.begin.ensures.kind;
      hashes_else = λ i small apart bytes scanned. c.begin.ensures.others i small apart bytes scanned;
    })
    (record { was = row_there; files = refl })
    c.requires.small
    (ap (λ (l : FileLane). l.busy) (same_item (slice_get lanes c.args.lane) lane c.index.result.now lane_there first_there) ∙ c.if-index.false)
    (ap (λ (r : FileRow). r.state) (same_item (slice_get files place) row has.row row_there there) ∙ has.its)
    refl
    (subst (λ (n : ℕ). Begins lane c.begin-2.new.self place n) (ap (λ (r : FileRow). r.entry.len) (same_item (slice_get files place) c.index-2.result.now row seen_there row_there)) c.begin-2.ensures)
    c.begin.ensures.empty
    c.in-Some.ensures.items

pub index_mut-requires-2 : goal.index_mut-requires-2
index_mut-requires-2 c =
    let has = c.waits_at.ensures.0 c.if-not-waits_at.false in
    let there : slice_get c.args.batch.now.files.items c.in-Some.place ≡ Some has.row = sym (ap (λ (l : List FileRow). slice_get l c.in-Some.place) c.as_slice.ensures.value) ∙ has.there in
    omega (arith, slice_get_within c.args.batch.now.files.items c.in-Some.place has.row there, c.args.batch.now.files.ok.0)

-- ---- less is left

pub returns-then-not-waits_at-clause-lessens : goal.returns-then-not-waits_at-clause-lessens
returns-then-not-waits_at-clause-lessens c = inl (omega (arith, ap waiting_left c.in-Some.ensures.items, waiting_push c.pop.new.self.items c.in-Some.place))

pub returns-clause-lessens : goal.returns-clause-lessens
returns-clause-lessens c =
    let lanes : List FileLane = c.args.batch.now.lanes.items in
    let lane = c.index_mut.result.now in
    let lane_there : slice_get lanes c.args.lane ≡ Some lane = slice_get_read lanes (length lanes) c.args.lane lane refl c.requires.there c.index_mut.ensures.value in
    let first_there : slice_get lanes c.args.lane ≡ Some c.index.result.now = slice_get_read lanes (length lanes) c.args.lane c.index.result.now refl c.requires.there c.index.ensures in
    let idle = ap (λ (l : FileLane). l.busy) (same_item (slice_get lanes c.args.lane) lane c.index.result.now lane_there first_there) ∙ c.if-index.false in
    inl (omega (
      arith,
      ap waiting_left c.in-Some.ensures.items,
      waiting_push c.pop.new.self.items c.in-Some.place,
      left_set lanes c.args.lane lane c.begin-2.new.self lane_there,
      idle_left lane idle,
      begun_left lane c.begin-2.new.self _ _ c.begin-2.ensures,
    ))
