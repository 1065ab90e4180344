use Rattle.droid_lines.specs.Stopping.{RequestStops}
use Rattle.droid_lines.proofs.Passing.{if_err_same}
use Rattle.droid_lines.proofs.LineParts.{exchanged, unheard, untaken_stops}
use Rattle.droid_lines.proofs.exchange.exchange.Goals as goal

pub returns-in_err-printed-clause-stops : goal.returns-in_err-printed-clause-stops
returns-in_err-printed-clause-stops g c =
    let core = c.args.client.now in
    let input = g.R.Read.remaining c.args.replies.now in
    let left = g.R.Read.remaining c.read_reply.new.replies in
    let old = g.F.Write.contents c.args.frames.now in
    let new = g.F.Write.contents c.send_request.new.frames in
    let fault = c.in_err-printed.field-0.0 in
    let sent = unheard core c.args.asked old new c.send_request.new.client c.in_ok-send_request.ensures.goes in
    if_err_same c.from_residual-in_err-printed.result fault (λ f. RequestStops f core c.args.asked input left old new c.hear.new.client) c.from_residual-in_err-printed.ensures.1
    (untaken_stops core c.args.asked input left old new c.send_request.new.client c.hear.new.client c.in_ok-frame.frame fault sent c.in_ok-frame.ensures.comes c.in_err-printed.ensures.none)

pub returns-clause-exchanged : goal.returns-clause-exchanged
returns-clause-exchanged g c =
    let core = c.args.client.now in
    let input = g.R.Read.remaining c.args.replies.now in
    let left = g.R.Read.remaining c.read_reply.new.replies in
    let old = g.F.Write.contents c.args.frames.now in
    let new = g.F.Write.contents c.send_request.new.frames in
    let sent = unheard core c.args.asked old new c.send_request.new.client c.in_ok-send_request.ensures.goes in
    exchanged core c.args.asked input left old new c.send_request.new.client c.hear.new.client c.in_ok-frame.frame _ sent c.in_ok-frame.ensures.comes c.in_ok-printed.ensures.takes
