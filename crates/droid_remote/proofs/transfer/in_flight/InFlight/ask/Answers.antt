use Rattle.std.proofs.Common.{◌≡◌, ◌-◌, ◌++◌, List, [], Contains, take, length, refl, ap, length-drop, arith}
use Rattle.std.proofs.lemmas.List.{nil_from_length}
use Rattle.std.proofs.lemmas.Result.{err_from_is_err_and}
use Rattle.droid_frame.specs.declared.frame.Frame.{Frame}
use Rattle.droid_remote.specs.Calls.{IsAmong}
use Rattle.droid_remote.specs.Events.{facts_after}
use Rattle.droid_remote.proofs.Counting.{none_in}
use Rattle.droid_remote.proofs.Waiting.{all_goes, all_taken, among_sent, among_settled, both_goes, both_stand, fails_on, now_answered, now_fails, now_stands, pieces_sent}
use Rattle.droid_remote.proofs.transfer.in_flight.InFlight.ask.Goals as goal

pub settle-requires : goal.settle-requires
settle-requires g c = omega (arith, c.saturating_sub-count.ensures, c.len.ensures, c.send.new.self.waiting.ok.0)

pub take-requires : goal.take-requires
take-requires g c =
    omega (arith, c.saturating_sub-count.ensures, c.len.ensures, c.send.new.self.waiting.ok.0, c.in_ok-send.ensures.some, ap (λ (l : List Frame). length l) c.in_ok-settle.ensures.left, length-drop c.saturating_sub-count.result c.send.new.self.waiting.items)

pub returns-in_err-settle-clause-failed : goal.returns-in_err-settle-clause-failed
returns-in_err-settle-clause-failed g c =
    let passed = err_from_is_err_and c.from_residual-in_err-settle.result c.from_residual-in_err-settle.ensures.1 in
    let old = c.args.self.now in
    let sent = c.send.new.self in
    let frame = c.args.frame in
    let count = c.saturating_sub-count.result in
    let due : count ≡ length sent.waiting.items - 1 = omega (arith, c.saturating_sub-count.ensures, c.len.ensures, sent.waiting.ok.0) in
    rw (passed.1, passed.2)
    (λ known facts on. let sends = c.in_ok-send.ensures.sent known facts on in
    fails_on g.C.Connection.does known (Contains sent.waiting.items) (IsAmong old.waiting.items frame) (take count sent.waiting.items) old.waiting.items _ facts old sent _ sends.goes
    (among_sent g.C.Connection.does known count frame facts old sent due sends) (pieces_sent g.C.Connection.does known count frame facts old sent due sends)
    (c.in_err-settle.ensures.failed known (facts_after facts sends.goes.events) sends.stands_on))

pub returns-in_err-answer-clause-failed : goal.returns-in_err-answer-clause-failed
returns-in_err-answer-clause-failed g c =
    let passed = err_from_is_err_and c.from_residual-in_err-answer.result c.from_residual-in_err-answer.ensures.1 in
    let old = c.args.self.now in
    let sent = c.send.new.self in
    let settled = c.settle.new.self in
    let frame = c.args.frame in
    let count = c.saturating_sub-count.result in
    let left = c.in_ok-settle.ensures.left in
    let due : count ≡ length sent.waiting.items - 1 = omega (arith, c.saturating_sub-count.ensures, c.len.ensures, sent.waiting.ok.0) in
    rw (passed.1, passed.2)
    (λ known facts on. let sends = c.in_ok-send.ensures.sent known facts on in
    let settles = c.in_ok-settle.ensures.settled known (facts_after facts sends.goes.events) sends.stands_on in
    fails_on g.C.Connection.does known (Contains settled.waiting.items) (IsAmong old.waiting.items frame) [] old.waiting.items _ facts old settled _
    (both_goes g.C.Connection.does known count frame facts old sent due sends settled settles left)
    (among_settled g.C.Connection.does known count frame facts old sent due sends settled settles left) (none_in old.waiting.items)
    (c.in_err-answer.ensures.failed known (facts_after facts (sends.goes.events ++ settles.goes.events)) (both_stand g.C.Connection.does known count frame facts old sent due sends settled settles left)))

pub returns-in_err-reply-clause-failed : goal.returns-in_err-reply-clause-failed
returns-in_err-reply-clause-failed g c =
    let passed = err_from_is_err_and c.from_residual-in_err-reply.result c.from_residual-in_err-reply.ensures.1 in
    let old = c.args.self.now in
    let sent = c.send.new.self in
    let settled = c.settle.new.self in
    let last = c.take.new.self in
    let frame = c.args.frame in
    let count = c.saturating_sub-count.result in
    let left = c.in_ok-settle.ensures.left in
    let first = c.in_ok-answer.ensures.first in
    let due : count ≡ length sent.waiting.items - 1 = omega (arith, c.saturating_sub-count.ensures, c.len.ensures, sent.waiting.ok.0) in
    let nothing : last.waiting.items ≡ [] =
    nil_from_length last.waiting.items (omega (arith, due, c.in_ok-send.ensures.some, ap (λ (l : List Frame). length l) left, ap (λ (l : List Frame). length l) first, length-drop count sent.waiting.items)) in
    rw (passed.1, passed.2)
    (λ known facts on. let sends = c.in_ok-send.ensures.sent known facts on in
    let settles = c.in_ok-settle.ensures.settled known (facts_after facts sends.goes.events) sends.stands_on in
    let both = both_stand g.C.Connection.does known count frame facts old sent due sends settled settles left in
    let takes = c.in_ok-answer.ensures.taken known (facts_after facts (sends.goes.events ++ settles.goes.events)) both in
    now_fails g.C.Connection.does known count frame facts old sent due sends settled settles left c.in_ok-answer.answer last takes first c.in_ok-answer.ensures.to _ _ c.in_err-reply.ensures.fault c.in_err-reply.ensures.same refl refl refl
    nothing)

pub returns-in_err-reply-clause-none : goal.returns-in_err-reply-clause-none
returns-in_err-reply-clause-none g c =
    let sent = c.send.new.self in
    let count = c.saturating_sub-count.result in
    let due : count ≡ length sent.waiting.items - 1 = omega (arith, c.saturating_sub-count.ensures, c.len.ensures, sent.waiting.ok.0) in
    nil_from_length c.take.new.self.waiting.items
    (omega (arith, due, c.in_ok-send.ensures.some, ap (λ (l : List Frame). length l) c.in_ok-settle.ensures.left, ap (λ (l : List Frame). length l) c.in_ok-answer.ensures.first, length-drop count sent.waiting.items))

pub returns-clause-none : goal.returns-clause-none
returns-clause-none g c =
    let sent = c.send.new.self in
    let count = c.saturating_sub-count.result in
    let due : count ≡ length sent.waiting.items - 1 = omega (arith, c.saturating_sub-count.ensures, c.len.ensures, sent.waiting.ok.0) in
    nil_from_length c.take.new.self.waiting.items
    (omega (arith, due, c.in_ok-send.ensures.some, ap (λ (l : List Frame). length l) c.in_ok-settle.ensures.left, ap (λ (l : List Frame). length l) c.in_ok-answer.ensures.first, length-drop count sent.waiting.items))

pub returns-clause-answered : goal.returns-clause-answered
returns-clause-answered g c =
    let old = c.args.self.now in
    let sent = c.send.new.self in
    let settled = c.settle.new.self in
    let last = c.take.new.self in
    let frame = c.args.frame in
    let answer = c.in_ok-answer.answer in
    let reply = c.in_ok-reply.reply in
    let count = c.saturating_sub-count.result in
    let left = c.in_ok-settle.ensures.left in
    let first = c.in_ok-answer.ensures.first in
    let to = c.in_ok-answer.ensures.to in
    let due : count ≡ length sent.waiting.items - 1 = omega (arith, c.saturating_sub-count.ensures, c.len.ensures, sent.waiting.ok.0) in
    let nothing : last.waiting.items ≡ [] =
    nil_from_length last.waiting.items (omega (arith, due, c.in_ok-send.ensures.some, ap (λ (l : List Frame). length l) left, ap (λ (l : List Frame). length l) first, length-drop count sent.waiting.items)) in
    λ known facts on.
    let sends = c.in_ok-send.ensures.sent known facts on in
    let settles = c.in_ok-settle.ensures.settled known (facts_after facts sends.goes.events) sends.stands_on in
    let both = both_stand g.C.Connection.does known count frame facts old sent due sends settled settles left in
    let takes = c.in_ok-answer.ensures.taken known (facts_after facts (sends.goes.events ++ settles.goes.events)) both in
    record {
      none = nothing;
      goes = all_goes g.C.Connection.does known count frame facts old sent due sends settled settles left answer last takes first to;
      taken = all_taken g.C.Connection.does known count frame facts old sent due sends settled settles left answer last takes first to;
      answered = now_answered g.C.Connection.does known count frame facts old sent due sends settled settles left answer last takes first to reply c.in_ok-reply.ensures.spelled;
      stands_on = now_stands g.C.Connection.does known count frame facts old sent due sends settled settles left answer last takes first to reply _ c.in_ok-reply.ensures.spelled c.in_ok-reply.ensures.known refl refl;
    }
