use Rattle.std.proofs.Common.{List, sym, subst}
use Rattle.std.specs.List.{flat_map}
use Rattle.std.proofs.lemmas.Result.{err_from_is_err_and}
use Rattle.droid_profile.specs.declared.lanes.file_row.FileRow.{FileRow}
use Rattle.droid_profile.specs.RowsTaken.{heard_of_row, records_of_row}
use Rattle.droid_profile.specs.declared.walk.row.Row.{Row}
use Rattle.droid_profile.specs.HandedOut.{AreSettled, Hands, HandsFront}
use Rattle.droid_profile.proofs.FileHanded.{moments_kept}
use Rattle.droid_profile.proofs.WalkEnds.{ends_handing, ends_reading}
use Rattle.droid_profile.proofs.Walks.{batch_handed_out}
use Rattle.droid_profile.proofs.tree_profile.settle.Goals as goal

pub returns-in_err-read_files-clause-ended : goal.returns-in_err-read_files-clause-ended
returns-in_err-read_files-clause-ended g c =
    let before = c.args.profiler.now in
    let fault = err_from_is_err_and c.from_residual.result c.from_residual.ensures.1 in
    rw (fault.1, fault.2) (λ whole scan start begun first on.
    ends_reading g.T.Tree.observes g.W.Watcher.hears g.R.Recipient.takes c.args.registry.now c.args.options g.R.Recipient.fails c.in_err-read_files.field-0.0 whole scan c.args.rows.now.items c.args.batch.now.files.items
    start before.tree c.read_files.new.tree begun before.watcher c.read_files.new.watcher first before.recipient on c.in_err-read_files.ensures.ended)

pub hand_out-requires-clause-ready : goal.hand_out-requires-clause-ready
hand_out-requires-clause-ready g c = rw (c.as_slice.ensures.value, c.as_slice-2.ensures.value, c.in_ok-read_files.ensures.read.counted) c.requires.ready

pub hand_out-requires-clause-moments : goal.hand_out-requires-clause-moments
hand_out-requires-clause-moments g c =
    let all = c.in_ok-read_files.ensures.read in
    rw c.as_slice-2.ensures.value (moments_kept c.args.registry.now c.args.options c.args.batch.now.files.items c.read_files.new.batch.files.items all.calls all.counted all.settled c.requires.moments)

pub returns-in_err-kept-clause-ended : goal.returns-in_err-kept-clause-ended
returns-in_err-kept-clause-ended g c =
    let hears = g.W.Watcher.hears in
    let takes = g.R.Recipient.takes in
    let fails = g.R.Recipient.fails in
    let registry = c.args.registry.now in
    let options = c.args.options in
    let before = c.args.profiler.now in
    let files : List FileRow = c.args.batch.now.files.items in
    let fault = err_from_is_err_and c.from_residual-in_err-kept.result c.from_residual-in_err-kept.ensures.1 in
    rw (fault.1, fault.2) (λ whole scan start begun first on.
    ends_handing g.T.Tree.observes hears takes registry options fails c.in_err-kept.field-0.0 whole scan c.args.rows.now.items files c.read_files.new.batch.files.items
    start before.tree c.read_files.new.tree begun before.watcher c.read_files.new.watcher c.hand_out.new.watcher first before.recipient c.hand_out.new.recipient on c.in_ok-read_files.ensures.read
    (λ readings settled.
    subst (λ (l : List Row). HandsFront hears takes fails (flat_map (heard_of_row registry options readings files) l) (flat_map (records_of_row registry options readings files) l) c.in_err-kept.field-0.0 c.read_files.new.watcher c.hand_out.new.watcher before.recipient c.hand_out.new.recipient) c.as_slice.ensures.value
    (c.in_err-kept.ensures.ended registry options readings files (subst (AreSettled registry options readings files) (sym c.as_slice-2.ensures.value) settled))))

pub returns-clause-settled : goal.returns-clause-settled
returns-clause-settled g c = λ whole scan start begun first on.
    let hears = g.W.Watcher.hears in
    let takes = g.R.Recipient.takes in
    let registry = c.args.registry.now in
    let options = c.args.options in
    let before = c.args.profiler.now in
    let files : List FileRow = c.args.batch.now.files.items in
    batch_handed_out g.T.Tree.observes hears takes registry options whole c.in_ok-kept.kept scan c.args.rows.now.items files c.read_files.new.batch.files.items
    start before.tree c.read_files.new.tree begun before.watcher c.read_files.new.watcher c.hand_out.new.watcher first before.recipient c.hand_out.new.recipient on c.in_ok-read_files.ensures.read
    (λ readings settled.
    subst (λ (l : List Row). Hands hears takes (flat_map (heard_of_row registry options readings files) l) (flat_map (records_of_row registry options readings files) l) c.in_ok-kept.kept c.read_files.new.watcher c.hand_out.new.watcher before.recipient c.hand_out.new.recipient) c.as_slice.ensures.value
    (c.in_ok-kept.ensures.handed registry options readings files (subst (AreSettled registry options readings files) (sym c.as_slice-2.ensures.value) settled)))
