use Rattle.std.proofs.Common.{◌<◌, List, ◌++◌, length, Option, refl, sym, subst, arith}
use Rattle.std.proofs.lemmas.Option.{slice_get_within}
use Rattle.droid_profile.specs.Calls.{Call}
use Rattle.droid_profile.specs.declared.fault.ProfileFault.TheVariants as faults
use Rattle.droid_profile.specs.BatchFits.{BatchFits}
use Rattle.droid_profile.specs.FilesRead.{ReadsFront, ReadsMore}
use Rattle.droid_profile.specs.declared.lanes.batch.Batch.{Batch}
use Rattle.droid_profile.specs.LaneSteps.{rest_in}
use Rattle.droid_profile.specs.declared.lanes.file_lane.FileLane.{FileLane}
use Rattle.droid_profile.specs.declared.lanes.file_row.FileRow.{FileRow}
use Rattle.droid_profile.proofs.AdvanceSteps.{advanced}
use Rattle.droid_profile.proofs.BatchEnds.{always, front, read_on, still_on}
use Rattle.droid_profile.proofs.TurnSteps.{one_lane, served_more, served_none, turn_less}
use Rattle.droid_profile.proofs.lanes.reader.read_turn.Goals as goal

pub loop-lane-init : goal.loop-lane-init
loop-lane-init g c = record { fits = c.requires; goes_on = λ first start heard on. on; served = served_none c.args.batch.now }

pub loop-lane-preserved : goal.loop-lane-preserved
loop-lane-preserved g c =
    let registry = c.args.registry.now in
    let options = c.args.options in
    let now = c.loop-lane in
    let begun : Batch = c.begin_file.new.batch in
    let new : Batch = record begun { lanes = c.read_on.new.lanes; files = c.read_on.new.files } in
    let step : (first : List FileRow) (calls : List Call) → BatchFits registry options first now.batch calls
    → ReadsMore g.T.Tree.observes g.W.Watcher.hears registry options first new calls now.tree c.read_on.new.tree now.watcher c.read_on.new.watcher =
    λ first calls fits. c.in_ok-read_on.ensures.read registry options first calls begun (c.begin_file.ensures.fits registry options first calls (c.in_ok-end_file.ensures.fits first calls fits)) in
    let before = now.invariant.fits in
    let more = step before.first before.calls before.fits in
    record {
      fits = record { first = before.first; calls = before.calls ++ more.more; fits = more.fits };
      goes_on = λ first start heard on.
          read_on g.T.Tree.observes g.W.Watcher.hears registry options first now.batch new start now.tree c.read_on.new.tree heard now.watcher c.read_on.new.watcher (now.invariant.goes_on first start heard on) (step first);
      served = served_more c.args.batch.now now.batch new now.lane now.invariant.served
          (one_lane now.batch c.end_file.new.batch begun new now.lane c.in_ok-end_file.ensures.lessens c.begin_file.ensures.lessens refl c.in_ok-read_on.ensures.lessens);
    }

pub advance-requires : goal.advance-requires
advance-requires g c = c.loop-lane.invariant.fits.fits.made.eight

pub returns-clause-read : goal.returns-clause-read
returns-clause-read g c = λ first start heard on.
    let now = c.loop-lane in
    let new : Batch = record now.batch { lanes = c.advance.new.lanes; hashes = c.advance.new.hashes } in
    still_on g.T.Tree.observes g.W.Watcher.hears c.args.registry.now c.args.options first now.batch new start now.tree heard now.watcher (now.invariant.goes_on first start heard on)
    (λ calls fits. advanced c.args.registry.now c.args.options now.batch new refl refl c.advance.ensures first calls fits)

pub returns-in_err-end_file-clause-ended : goal.returns-in_err-end_file-clause-ended
returns-in_err-end_file-clause-ended g c = always c.from_residual.result (λ first start heard on.
    let now = c.loop-lane in
    front g.T.Tree.observes g.W.Watcher.hears c.args.registry.now c.args.options first now.batch faults.Memory start now.tree now.tree heard now.watcher refl (now.invariant.goes_on first start heard on))

pub returns-in_err-read_on-clause-ended : goal.returns-in_err-read_on-clause-ended
returns-in_err-read_on-clause-ended g c = always c.from_residual-in_err-read_on.result (λ first start heard on.
    let now = c.loop-lane in
    subst (λ (w : g.row.W.Denot). ReadsFront g.T.Tree.observes g.W.Watcher.hears first faults.Memory start c.read_on.new.tree heard w) (sym c.in_err-read_on.ensures.unheard)
    (front g.T.Tree.observes g.W.Watcher.hears c.args.registry.now c.args.options first now.batch faults.Memory start now.tree c.read_on.new.tree heard now.watcher refl (now.invariant.goes_on first start heard on)))

pub read_on-requires : goal.read_on-requires
read_on-requires g c =
    let before = c.loop-lane.invariant.fits in
    let after = c.begin_file.ensures.fits c.args.registry.now c.args.options before.first before.calls (c.in_ok-end_file.ensures.fits before.first before.calls before.fits) in
    omega (arith, after.made.eight, c.loop-lane-test.true, c.len-lane-end.ensures, c.requires.fits.made.eight, c.args.batch.now.lanes.ok.0)

pub returns-clause-lessens : goal.returns-clause-lessens
returns-clause-lessens g c = λ left.
    let now = c.loop-lane in
    let eight = c.requires.fits.made.eight in
    let still = now.invariant.fits.fits.made.eight in
    turn_less c.args.batch.now now.batch c.advance.new.lanes.items c.advance.ensures.count now.lane now.invariant.served
    (omega (arith, c.loop-lane-test.false, c.len-lane-end.ensures, eight, c.args.batch.now.lanes.ok.0)) (omega (arith, eight)) left c.advance.ensures.passed
    (λ j lane there rest. c.advance.ensures.some j (omega (arith, slice_get_within now.batch.lanes.items j lane there, still)) (subst (λ (its : Option FileLane). 0 < length (rest_in its)) (sym there) rest))
