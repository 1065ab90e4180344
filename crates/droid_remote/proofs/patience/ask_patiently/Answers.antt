use Rattle.std.proofs.Common.{◌+◌, arith}
use Rattle.droid_remote.specs.Calls.{Wherever}
use Rattle.droid_remote.specs.Events.{facts_after}
use Rattle.droid_remote.specs.SenderCalls.{Misses}
use Rattle.droid_remote.proofs.Handing.{if_err_same}
use Rattle.droid_remote.proofs.Pausing.{first_missed, pausing_again, pausing_answered, pausing_ended, pausing_first, pausing_missed, pausing_over, pausing_paused}
use Rattle.droid_remote.proofs.patience.ask_patiently.Goals as goal

pub returns-in_err-first-clause-missed : goal.returns-in_err-first-clause-missed
returns-in_err-first-clause-missed g c =
    let does = g.C.Connection.does in
    let old = c.args.in_flight.now in
    let new = c.ask_once.new.in_flight in
    let fault = c.in_err-first.field-0.0 in
    if_err_same c.from_residual.result fault (λ f. Wherever old (λ known facts. Misses does known c.args.frame f facts old new)) c.from_residual.ensures.1
    (λ known facts stands. first_missed does known c.args.frame fault facts old new stands (c.in_err-first.ensures.missed known facts stands))

pub loop-init : goal.loop-init
loop-init g c = λ known facts stands.
    let full = rw c.in-None.is at c.in_ok-first.ensures.answered in
    pausing_first g.C.Connection.does known c.args.frame facts full.reply c.args.in_flight.now c.ask_once.new.in_flight c.start_wait.new.self full.busy (full.waits known facts stands) c.start_wait.ensures

pub returns-then-not-pause-clause-missed : goal.returns-then-not-pause-clause-missed
returns-then-not-pause-clause-missed g c = λ known facts stands.
    pausing_over g.C.Connection.does known c.args.frame facts c.loop.counter c.args.in_flight.now c.loop.in_flight c.pause.new.self (c.loop.invariant known facts stands) c.if-not-pause.ensures.waited

pub returns-in_err-again-clause-missed : goal.returns-in_err-again-clause-missed
returns-in_err-again-clause-missed g c =
    let does = g.C.Connection.does in
    let old = c.args.in_flight.now in
    let new = c.ask_once-in-loop.new.in_flight in
    let fault = c.in_err-again.field-0.0 in
    if_err_same c.from_residual-in_err-again.result fault (λ f. Wherever old (λ known facts. Misses does known c.args.frame f facts old new)) c.from_residual-in_err-again.ensures.1
    (λ known facts stands.
    let paused = pausing_paused does known c.args.frame facts c.loop.counter old c.loop.in_flight c.pause.new.self (c.loop.invariant known facts stands) c.if-not-pause.ensures.waited in
    pausing_missed does known c.args.frame facts (c.loop.counter + 1) old c.pause.new.self new paused fault (c.in_err-again.ensures.missed known (facts_after facts paused.goes.events) paused.stands_on))

pub returns-in-Some-again-clause-answered : goal.returns-in-Some-again-clause-answered
returns-in-Some-again-clause-answered g c = λ known facts stands.
    let does = g.C.Connection.does in
    let old = c.args.in_flight.now in
    let paused = pausing_paused does known c.args.frame facts c.loop.counter old c.loop.in_flight c.pause.new.self (c.loop.invariant known facts stands) c.if-not-pause.ensures.waited in
    let place = rw c.in-Some-again.is at c.in_ok-again.ensures.answered in
    pausing_answered does known c.args.frame facts (c.loop.counter + 1) old c.pause.new.self c.ask_once-in-loop.new.in_flight paused c.in-Some-again.reply (place.waits known (facts_after facts paused.goes.events) paused.stands_on)

pub loop-preserved : goal.loop-preserved
loop-preserved g c = λ known facts stands.
    let does = g.C.Connection.does in
    let old = c.args.in_flight.now in
    let paused = pausing_paused does known c.args.frame facts c.loop.counter old c.loop.in_flight c.pause.new.self (c.loop.invariant known facts stands) c.if-not-pause.ensures.waited in
    let full = rw c.in-None-again.is at c.in_ok-again.ensures.answered in
    pausing_again does known c.args.frame facts (c.loop.counter + 1) old c.pause.new.self c.ask_once-in-loop.new.in_flight paused full.reply full.busy (full.waits known (facts_after facts paused.goes.events) paused.stands_on)

pub returns-clause-missed : goal.returns-clause-missed
returns-clause-missed g c = λ known facts stands.
    pausing_ended g.C.Connection.does known c.args.frame facts c.loop.counter c.args.in_flight.now c.loop.in_flight (c.loop.invariant known facts stands) (omega (arith, c.loop-test.false))
