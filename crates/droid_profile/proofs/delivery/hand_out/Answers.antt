use Rattle.std.proofs.Common.{List}
use Rattle.std.proofs.lemmas.Result.{err_from_is_err_and}
use Rattle.droid_profile.specs.RowsTaken.{heard_of_row, records_of_row}
use Rattle.droid_profile.specs.declared.walk.row.Row.{Row}
use Rattle.droid_profile.proofs.Handing.{front_row, hands_row}
use Rattle.droid_profile.proofs.Waiting.{row_counted}
use Rattle.droid_profile.proofs.delivery.hand_out.Goals as goal

pub returns-in_err-kept-clause-ended : goal.returns-in_err-kept-clause-ended
returns-in_err-kept-clause-ended g c =
    let hears = g.W.Watcher.hears in
    let takes = g.R.Recipient.takes in
    let fails = g.R.Recipient.fails in
    let rows : List Row = c.args.rows.now in
    let fault = err_from_is_err_and c.from_residual.result c.from_residual.ensures.1 in
    rw (fault.1, fault.2) (λ registry options readings first settled.
    front_row hears takes (heard_of_row registry options readings first) (records_of_row registry options readings first) rows c.loop-row.row-index c.row-item.result c.loop-row-test.true c.row-item.is c.loop-row.whole
    c.args.watcher.now c.loop-row.watcher c.hand_row.new.watcher c.args.recipient.now c.loop-row.recipient c.hand_row.new.recipient (c.loop-row.invariant registry options readings first settled)
    fails c.in_err-kept.field-0.0 (row_counted registry options readings first) (c.in_err-kept.ensures.ended registry options readings first settled))

pub loop-row-preserved : goal.loop-row-preserved
loop-row-preserved g c = λ registry options readings first settled.
    hands_row g.W.Watcher.hears g.R.Recipient.takes (heard_of_row registry options readings first) (records_of_row registry options readings first) c.args.rows.now c.loop-row.row-index c.row-item.result c.loop-row-test.true c.row-item.is c.loop-row.whole
    c.args.watcher.now c.loop-row.watcher c.hand_row.new.watcher c.args.recipient.now c.loop-row.recipient c.hand_row.new.recipient (c.loop-row.invariant registry options readings first settled)
    c.in_ok-kept.kept c.both-whole.result c.both-whole.ensures (c.in_ok-kept.ensures.handed registry options readings first settled)
