use Rattle.std.proofs.Common.{◌<◌, List, length, refl, sym, subst, ◌∙◌}
use Rattle.std.proofs.lemmas.Result.{err_from_is_err_and}
use Rattle.droid_profile.specs.declared.fault.ProfileFault.{ProfileFault}
use Rattle.droid_profile.specs.FilesRead.{ReadsFront}
use Rattle.droid_profile.specs.declared.lanes.file_row.FileRow.{FileRow}
use Rattle.droid_profile.proofs.BatchEnds.{all_read, ends_by, front_at_once, not_begun}
use Rattle.droid_profile.proofs.lanes.reader.read_files.Goals as goal

pub turns-init : goal.turns-init
turns-init g c =
    let files : List FileRow = c.args.batch.now.files.items in
    let made = c.requires.made in
    not_begun g.T.Tree.observes g.W.Watcher.hears c.args.registry.now c.args.options files _ c.args.tree.now c.args.watcher.now refl c.requires.fresh
    (record { few = made.few; eight = made.eight; kind = made.kind; limits = made.limits })
    (λ place within. c.in_ok-batch.ensures place (subst (λ (l : List FileRow). place < length l) (sym c.as_slice.ensures.value) within))

pub read_turn-requires : goal.read_turn-requires
read_turn-requires g c = record { first = c.args.batch.now.files.items; calls = c.turns.invariant.calls; fits = c.turns.invariant.fits }

pub turns-preserved : goal.turns-preserved
turns-preserved g c = c.in_ok-read_turn.ensures.read c.args.batch.now.files.items c.args.tree.now c.args.watcher.now c.turns.invariant

pub turns-smaller : goal.turns-smaller
turns-smaller g c = c.in_ok-read_turn.ensures.lessens (c.are_read.ensures.left c.turns-test.true)

pub returns-clause-read : goal.returns-clause-read
returns-clause-read g c =
    all_read g.T.Tree.observes g.W.Watcher.hears c.args.registry.now c.args.options c.args.batch.now.files.items c.turns.batch c.args.tree.now c.turns.tree c.args.watcher.now c.turns.watcher
    (c.are_read.ensures.none c.turns-test.false) (c.are_read.ensures.idle c.turns-test.false) c.turns.invariant

pub returns-clause-made : goal.returns-clause-made
returns-clause-made g c = c.turns.invariant.fits.made

pub returns-in_err-batch-clause-ended : goal.returns-in_err-batch-clause-ended
returns-in_err-batch-clause-ended g c =
    let files : List FileRow = c.args.batch.now.files.items in
    let fault = err_from_is_err_and c.from_residual.result c.from_residual.ensures.1 in
    let P : ProfileFault → Type 0 = λ f. ReadsFront g.T.Tree.observes g.W.Watcher.hears files f c.args.tree.now c.args.tree.now c.args.watcher.now c.args.watcher.now in
    ends_by P c.from_residual.result fault.0 fault.1 (subst P (sym fault.2) (front_at_once g.T.Tree.observes g.W.Watcher.hears c.args.registry.now c.args.options files c.args.tree.now c.args.watcher.now))

pub returns-in_err-read_turn-clause-ended : goal.returns-in_err-read_turn-clause-ended
returns-in_err-read_turn-clause-ended g c =
    let files : List FileRow = c.args.batch.now.files.items in
    let fault = err_from_is_err_and c.from_residual-in_err-read_turn.result c.from_residual-in_err-read_turn.ensures.1 in
    let P : ProfileFault → Type 0 = λ f. ReadsFront g.T.Tree.observes g.W.Watcher.hears files f c.args.tree.now c.read_turn.new.tree c.args.watcher.now c.read_turn.new.watcher in
    ends_by P c.from_residual-in_err-read_turn.result fault.0 fault.1
    (subst P (sym (fault.2 ∙ c.in_err-read_turn.ensures.memory)) (c.in_err-read_turn.ensures.ended files c.args.tree.now c.args.watcher.now c.turns.invariant))
