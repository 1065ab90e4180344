use Rattle.std.proofs.Common.{◌≡◌, [], None, arith}
use Rattle.droid_remote.specs.Calls.{Wherever}
use Rattle.droid_remote.specs.Exports.{EndsExport}
use Rattle.droid_remote.proofs.Handing.{if_err_same}
use Rattle.droid_remote.proofs.Parts.{front_ended, front_none}
use Rattle.droid_remote.proofs.remote_export.export.Goals as goal

pub returns-in-Some-clause-downloads : goal.returns-in-Some-clause-downloads
returns-in-Some-clause-downloads g c = λ none known facts stands.
    let does = g.C.Connection.does in
    let old = c.args.sender.now in
    let text = c.args.text.now.items in
    front_ended old.client old.name c.args.profile does known facts 0 0 0 old.in_flight old.in_flight text text
    (front_none old.client old.name c.args.profile does known facts 0 0 old.in_flight text (omega arith) none stands)

pub returns-in_err-one-clause-ended : goal.returns-in_err-one-clause-ended
returns-in_err-one-clause-ended g c =
    let old = c.args.sender.now in
    let new = c.download.new.sender.in_flight in
    if_err_same c.from_residual.result c.in_err-one.field-0.0
    (λ f. old.stopped ≡ None → old.in_flight.waiting.items ≡ [] → Wherever old.in_flight (λ known facts. EndsExport old.client old.name c.args.profile g.C.Connection.does f known facts old.in_flight new)) c.from_residual.ensures.1
    (λ going. c.in_err-one.ensures.ended)
