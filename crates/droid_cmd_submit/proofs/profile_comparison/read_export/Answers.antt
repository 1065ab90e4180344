use Rattle.std.proofs.Common.{◌≡◌, ◌∙◌, [], None, ap, arith, refl}
use Rattle.droid_remote.specs.Calls.{Wherever}
use Rattle.droid_remote.specs.Exports.{Disturbs, Exports}
use Rattle.droid_remote.specs.declared.sender.Sender.{Sender}
use Rattle.droid_remote.proofs.Handing.{if_err_same}
use Rattle.droid_cmd_submit.specs.ProfileComparisons.{EndsOnce, EndsReading}
use Rattle.droid_cmd_submit.proofs.Exporting.{all_disturbed, all_read, none_begun, on_client, once_ended, one_more_begun}
use Rattle.droid_cmd_submit.proofs.profile_comparison.read_export.Goals as goal

pub loop-init : goal.loop-init
loop-init g c = record {
  same = refl;
  begun = λ none known facts stands. let old = c.args.sender.now in none_begun g.C.Connection.does old.client old.name c.args.profile known facts old.in_flight none stands;
}

pub returns-in_err-csv-clause-ended : goal.returns-in_err-csv-clause-ended
returns-in_err-csv-clause-ended g c =
    let does = g.C.Connection.does in
    let old = c.args.sender.now in
    let now = c.loop.sender in
    let new = c.read_once.new.sender.in_flight in
    let fault = c.in_err-csv.field-0.0 in
    if_err_same c.from_residual.result fault
    (λ f. old.stopped ≡ None → old.in_flight.waiting.items ≡ [] → Wherever old.in_flight (λ known facts. EndsReading does old.client old.name c.args.profile known f facts old.in_flight new)) c.from_residual.ensures.1
    (λ going none known facts stands.
    let before = c.loop.invariant.begun none known facts stands in
    once_ended does old.client old.name c.args.profile known facts old.in_flight c.loop.counter now.in_flight before fault new
    (on_client now old c.loop.invariant.same (λ client name. EndsOnce does client name c.args.profile known fault before.facts_now now.in_flight new)
    (c.in_err-csv.ensures.ended (ap (λ (s : Sender _). s.stopped) c.loop.invariant.same ∙ going) before.none known before.facts_now before.stands)))

pub returns-in-Some-clause-reads : goal.returns-in-Some-clause-reads
returns-in-Some-clause-reads g c = λ none known facts stands.
    let does = g.C.Connection.does in
    let old = c.args.sender.now in
    let now = c.loop.sender in
    let new = c.read_once.new.sender.in_flight in
    let before = c.loop.invariant.begun none known facts stands in
    let whole = rw c.in-Some.is at c.in_ok-csv.ensures.whole in
    all_read does old.client old.name c.args.profile known facts old.in_flight c.loop.counter now.in_flight before new c.in-Some.csv.items
    (on_client now old c.loop.invariant.same (λ client name. Exports client name c.args.profile does known before.facts_now now.in_flight new [] c.in-Some.csv.items) (whole before.none known before.facts_now before.stands))

pub loop-preserved : goal.loop-preserved
loop-preserved g c =
    let does = g.C.Connection.does in
    let old = c.args.sender.now in
    let now = c.loop.sender in
    let new = c.read_once.new.sender in
    record {
      same = c.in_ok-csv.ensures.same ∙ ap (λ (s : Sender _). record s { in_flight = new.in_flight }) c.loop.invariant.same;
      begun = λ none known facts stands.
          let before = c.loop.invariant.begun none known facts stands in
          let disturbed = rw c.in-None.is at c.in_ok-csv.ensures.disturbed in
          one_more_begun does old.client old.name c.args.profile known facts old.in_flight c.loop.counter now.in_flight before new.in_flight
          (on_client now old c.loop.invariant.same (λ client name. Disturbs client name c.args.profile does known before.facts_now now.in_flight new.in_flight) (disturbed before.none known before.facts_now before.stands));
    }

pub returns-clause-ended : goal.returns-clause-ended
returns-clause-ended g c = λ going none known facts stands.
    let old = c.args.sender.now in
    all_disturbed g.C.Connection.does old.client old.name c.args.profile known facts old.in_flight c.loop.counter c.loop.sender.in_flight (c.loop.invariant.begun none known facts stands) (omega (arith, c.loop-test.false))
