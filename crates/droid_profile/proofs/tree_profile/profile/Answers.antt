use Rattle.std.proofs.Common.{◌&&◌, rules}
use Rattle.std.proofs.lemmas.Result.{err_from_is_err_and}
use Rattle.droid_profile.proofs.WalkEnds.{ends_at_once, ends_taking}
use Rattle.droid_profile.proofs.Walks.{all_profiled, rows_taken, stands_at_first}
use Rattle.droid_profile.proofs.tree_profile.profile.Goals as goal

pub returns-in_err-scan-clause-ended : goal.returns-in_err-scan-clause-ended
returns-in_err-scan-clause-ended g c =
    let before = c.args.profiler.now in
    let fault = err_from_is_err_and c.from_residual.result c.from_residual.ensures.1 in
    rw (fault.1, fault.2) (ends_at_once g.T.Tree.observes g.W.Watcher.hears g.R.Recipient.takes c.args.registry.now c.args.options g.R.Recipient.fails before.tree before.watcher before.recipient)

pub returns-in_err-batch-clause-ended : goal.returns-in_err-batch-clause-ended
returns-in_err-batch-clause-ended g c =
    let before = c.args.profiler.now in
    let fault = err_from_is_err_and c.from_residual-in_err-batch.result c.from_residual-in_err-batch.ensures.1 in
    rw (fault.1, fault.2) (ends_at_once g.T.Tree.observes g.W.Watcher.hears g.R.Recipient.takes c.args.registry.now c.args.options g.R.Recipient.fails before.tree before.watcher before.recipient)

pub batches-init : goal.batches-init
batches-init g c =
    let before = c.args.profiler.now in
    record {
      made = c.in_ok-batch.ensures.made;
      no_rows = c.new-rows.ensures.items;
      no_files = c.in_ok-batch.ensures.empty;
      stands = stands_at_first g.T.Tree.observes g.W.Watcher.hears g.R.Recipient.takes c.args.registry.now c.args.options c.in_ok-scan.scan before.tree before.watcher before.recipient c.in_ok-scan.ensures.begun.1
          (c.in_ok-scan.ensures.fits c.args.registry.now c.args.options);
    }

pub batches-smaller : goal.batches-smaller
batches-smaller g c = c.in_ok-more.ensures.less c.if-not-more.false

pub returns-in_err-more-clause-ended : goal.returns-in_err-more-clause-ended
returns-in_err-more-clause-ended g c =
    let before = c.args.profiler.now in
    let now = c.batches.profiler in
    let fault = err_from_is_err_and c.from_residual-in_err-more.result c.from_residual-in_err-more.ensures.1 in
    let ends = ends_taking g.T.Tree.observes g.W.Watcher.hears g.R.Recipient.takes c.args.registry.now c.args.options g.R.Recipient.fails c.in_err-more.field-0.0 c.batches.whole c.batches.scan c.batches.rows.items c.batches.batch.files.items
    before.tree now.tree c.take_rows.new.tree before.watcher now.watcher before.recipient now.recipient c.batches.invariant.no_rows c.batches.invariant.no_files c.in_err-more.ensures.ended c.batches.invariant.stands in
    rw (fault.1, fault.2) ends

pub settle-requires-clause-fresh : goal.settle-requires-clause-fresh
settle-requires-clause-fresh g c =
    let before = c.args.profiler.now in
    let now = c.batches.profiler in
    let on = rows_taken g.T.Tree.observes g.W.Watcher.hears g.R.Recipient.takes c.args.registry.now c.args.options c.batches.whole c.batches.scan c.take_rows.new.scan c.batches.rows.items c.take_rows.new.rows.items c.batches.batch.files.items c.take_rows.new.files.items
    before.tree now.tree c.take_rows.new.tree before.watcher now.watcher before.recipient now.recipient c.batches.invariant.no_rows c.batches.invariant.no_files c.in_ok-more.ensures.taken c.in_ok-more.ensures.few c.batches.invariant.stands in
    on.fits.fresh

pub settle-requires-clause-moments : goal.settle-requires-clause-moments
settle-requires-clause-moments g c =
    let before = c.args.profiler.now in
    let now = c.batches.profiler in
    let on = rows_taken g.T.Tree.observes g.W.Watcher.hears g.R.Recipient.takes c.args.registry.now c.args.options c.batches.whole c.batches.scan c.take_rows.new.scan c.batches.rows.items c.take_rows.new.rows.items c.batches.batch.files.items c.take_rows.new.files.items
    before.tree now.tree c.take_rows.new.tree before.watcher now.watcher before.recipient now.recipient c.batches.invariant.no_rows c.batches.invariant.no_files c.in_ok-more.ensures.taken c.in_ok-more.ensures.few c.batches.invariant.stands in
    on.fits.moments

pub settle-requires-clause-ready : goal.settle-requires-clause-ready
settle-requires-clause-ready g c =
    let before = c.args.profiler.now in
    let now = c.batches.profiler in
    let on = rows_taken g.T.Tree.observes g.W.Watcher.hears g.R.Recipient.takes c.args.registry.now c.args.options c.batches.whole c.batches.scan c.take_rows.new.scan c.batches.rows.items c.take_rows.new.rows.items c.batches.batch.files.items c.take_rows.new.files.items
    before.tree now.tree c.take_rows.new.tree before.watcher now.watcher before.recipient now.recipient c.batches.invariant.no_rows c.batches.invariant.no_files c.in_ok-more.ensures.taken c.in_ok-more.ensures.few c.batches.invariant.stands in
    on.fits.ready

pub returns-in_err-kept-clause-ended : goal.returns-in_err-kept-clause-ended
returns-in_err-kept-clause-ended g c =
    let before = c.args.profiler.now in
    let now = c.batches.profiler in
    let on = rows_taken g.T.Tree.observes g.W.Watcher.hears g.R.Recipient.takes c.args.registry.now c.args.options c.batches.whole c.batches.scan c.take_rows.new.scan c.batches.rows.items c.take_rows.new.rows.items c.batches.batch.files.items c.take_rows.new.files.items
    before.tree now.tree c.take_rows.new.tree before.watcher now.watcher before.recipient now.recipient c.batches.invariant.no_rows c.batches.invariant.no_files c.in_ok-more.ensures.taken c.in_ok-more.ensures.few c.batches.invariant.stands in
    let fault = err_from_is_err_and c.from_residual-in_err-kept.result c.from_residual-in_err-kept.ensures.1 in
    rw (fault.1, fault.2) (c.in_err-kept.ensures.ended c.batches.whole c.take_rows.new.scan before.tree before.watcher before.recipient on)

pub returns-then-not-more-clause-profiled : goal.returns-then-not-more-clause-profiled
returns-then-not-more-clause-profiled g c =
    let observes = g.T.Tree.observes in
    let hears = g.W.Watcher.hears in
    let takes = g.R.Recipient.takes in
    let registry = c.args.registry.now in
    let options = c.args.options in
    let before = c.args.profiler.now in
    let now = c.batches.profiler in
    let after = c.settle.new.profiler in
    let on = rows_taken observes hears takes registry options c.batches.whole c.batches.scan c.take_rows.new.scan c.batches.rows.items c.take_rows.new.rows.items c.batches.batch.files.items c.take_rows.new.files.items
    before.tree now.tree c.take_rows.new.tree before.watcher now.watcher before.recipient now.recipient c.batches.invariant.no_rows c.batches.invariant.no_files c.in_ok-more.ensures.taken c.in_ok-more.ensures.few c.batches.invariant.stands in
    let settled = c.in_ok-kept.ensures.settled c.batches.whole c.take_rows.new.scan before.tree before.watcher before.recipient on in
    let none = c.in_ok-more.ensures.all (search rules) in
    rw c.both-whole.ensures (all_profiled observes hears takes registry options (c.batches.whole && c.in_ok-kept.kept) c.take_rows.new.scan before.tree after.tree before.watcher after.watcher before.recipient after.recipient settled none.0 none.1)

pub batches-preserved : goal.batches-preserved
batches-preserved g c =
    let observes = g.T.Tree.observes in
    let hears = g.W.Watcher.hears in
    let takes = g.R.Recipient.takes in
    let registry = c.args.registry.now in
    let options = c.args.options in
    let before = c.args.profiler.now in
    let now = c.batches.profiler in
    let on = rows_taken observes hears takes registry options c.batches.whole c.batches.scan c.take_rows.new.scan c.batches.rows.items c.take_rows.new.rows.items c.batches.batch.files.items c.take_rows.new.files.items
    before.tree now.tree c.take_rows.new.tree before.watcher now.watcher before.recipient now.recipient c.batches.invariant.no_rows c.batches.invariant.no_files c.in_ok-more.ensures.taken c.in_ok-more.ensures.few c.batches.invariant.stands in
    let settled = c.in_ok-kept.ensures.settled c.batches.whole c.take_rows.new.scan before.tree before.watcher before.recipient on in
    let empty = c.in_ok-kept.ensures.empty in
    record {
      made = c.in_ok-kept.ensures.made;
      no_rows = empty.0;
      no_files = empty.1;
      stands = rw c.both-whole.ensures settled;
    }
