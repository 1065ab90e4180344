use Rattle.std.proofs.Common.{◌≡◌, ℕ, ◌<◌, ◌≤◌, [], ◌++◌, length, ap, subst, sym, ◌∙◌, arith}
use Rattle.droid_frame.specs.declared.reply.Reply.{Reply}
use Rattle.droid_frame.specs.declared.reply.Reply.TheVariants as replies
use Rattle.droid_remote.specs.Calls.{Waits, Wherever}
use Rattle.droid_remote.specs.Events.{facts_after}
use Rattle.droid_remote.specs.Exports.{EndsAsking, EndsExport, part_frame, part_length}
use Rattle.droid_remote.specs.declared.remote_fault.DownloadFault.TheVariants.{Sending}
use Rattle.droid_remote.proofs.Handing.{if_err_same, same_on}
use Rattle.droid_remote.proofs.Parts.{asks_waits, ends_on, ends_unroomed, ends_unwritten, export_done, first_at, front_disturbed, front_ended, front_missed, front_more, front_none, its_asks, its_own, its_waits, last_at, long_more, next_at, part_within, place_within, same_bound, same_part, some_came, unwritten_on, within_bound}
use Rattle.droid_remote.proofs.remote_export.download.Goals as goal

-- ---- the first part

pub returns-in_err-first-clause-downloads : goal.returns-in_err-first-clause-downloads
returns-in_err-first-clause-downloads g c = λ none known facts stands.
    let does = g.C.Connection.does in
    let old = c.args.sender.now in
    let text = c.args.text.now.items in
    let begun = front_none old.client old.name c.args.profile does known facts 0 0 old.in_flight text (omega arith) none stands in
    front_missed old.client old.name c.args.profile does known facts 0 0 0 old.in_flight old.in_flight c.ask_part.new.sender.in_flight text text begun (c.in_err-first.ensures.missed none known facts stands).asks

pub returns-in_err-first-clause-ended : goal.returns-in_err-first-clause-ended
returns-in_err-first-clause-ended g c =
    let does = g.C.Connection.does in
    let old = c.args.sender.now in
    let new = c.ask_part.new.sender.in_flight in
    if_err_same c.from_residual.result (Sending c.in_err-first.field-0.0) (λ f. old.in_flight.waiting.items ≡ [] → Wherever old.in_flight (λ known facts. EndsExport old.client old.name c.args.profile does f known facts old.in_flight new)) c.from_residual.ensures.1 c.in_err-first.ensures.missed

pub returns-in_err-reserve_text-clause-downloads : goal.returns-in_err-reserve_text-clause-downloads
returns-in_err-reserve_text-clause-downloads g c = λ none known facts stands.
    let does = g.C.Connection.does in
    let old = c.args.sender.now in
    let new = c.ask_part.new.sender.in_flight in
    let first = c.in_ok-first.first in
    let text = c.args.text.now.items in
    let begun = front_none old.client old.name c.args.profile does known facts 0 0 old.in_flight text (omega arith) none stands in
    let asks = asks_waits old.client old.name c.args.profile does known facts 0 (replies.Part first.as_of first.total first.bytes) old.in_flight new none (c.in_ok-first.ensures.came known facts stands) in
    let missed = front_missed old.client old.name c.args.profile does known facts 0 0 0 old.in_flight old.in_flight new text text begun asks in
    record { asks = missed.asks; as_of = missed.as_of; total = missed.total; parts = missed.parts; came = missed.came; wrote = c.reserve_text.ensures.same ∙ missed.wrote }

pub returns-in_err-reserve_text-clause-ended : goal.returns-in_err-reserve_text-clause-ended
returns-in_err-reserve_text-clause-ended g c =
    let does = g.C.Connection.does in
    let old = c.args.sender.now in
    let new = c.ask_part.new.sender.in_flight in
    let first = c.in_ok-first.first in
    let fault = c.in_err-reserve_text.field-0.0 in
    if_err_same c.from_residual-in_err-reserve_text.result fault (λ f. old.in_flight.waiting.items ≡ [] → Wherever old.in_flight (λ known facts. EndsExport old.client old.name c.args.profile does f known facts old.in_flight new)) c.from_residual-in_err-reserve_text.ensures.1
    (λ none known facts stands.
    ends_unroomed old.client old.name c.args.profile does known facts first.as_of first.total first.bytes fault old.in_flight new none (c.in_ok-first.ensures.came known facts stands) c.in_err-reserve_text.ensures.fault)

pub returns-in_err-reserve_text-clause-bound : goal.returns-in_err-reserve_text-clause-bound
returns-in_err-reserve_text-clause-bound g c = same_bound c.args.text.now.items c.reserve_text.new.text.items c.reserve_text.ensures.same

pub append_part-requires : goal.append_part-requires
append_part-requires g c = let first = c.in_ok-first.first in part_within first.total 0 _ (omega arith) c.in_ok-first.ensures.full

pub returns-in_err-from-clause-downloads : goal.returns-in_err-from-clause-downloads
returns-in_err-from-clause-downloads g c = λ none known facts stands.
    let does = g.C.Connection.does in
    let old = c.args.sender.now in
    let new = c.ask_part.new.sender.in_flight in
    let first = c.in_ok-first.first in
    let text = c.args.text.now.items in
    let begun = front_none old.client old.name c.args.profile does known facts 0 0 old.in_flight text (omega arith) none stands in
    let asks = asks_waits old.client old.name c.args.profile does known facts 0 (replies.Part first.as_of first.total first.bytes) old.in_flight new none (c.in_ok-first.ensures.came known facts stands) in
    let missed = front_missed old.client old.name c.args.profile does known facts 0 0 0 old.in_flight old.in_flight new text text begun asks in
    record { asks = missed.asks; as_of = missed.as_of; total = missed.total; parts = missed.parts; came = missed.came; wrote = c.in_err-from.ensures.kept ∙ (c.reserve_text.ensures.same ∙ missed.wrote) }

pub returns-in_err-from-clause-ended : goal.returns-in_err-from-clause-ended
returns-in_err-from-clause-ended g c =
    let does = g.C.Connection.does in
    let old = c.args.sender.now in
    let new = c.ask_part.new.sender.in_flight in
    let first = c.in_ok-first.first in
    let fault = c.in_err-from.field-0.0 in
    if_err_same c.from_residual-in_err-from.result fault (λ f. old.in_flight.waiting.items ≡ [] → Wherever old.in_flight (λ known facts. EndsExport old.client old.name c.args.profile does f known facts old.in_flight new)) c.from_residual-in_err-from.ensures.1
    (λ none known facts stands.
    ends_unwritten old.client old.name c.args.profile does known facts 0 (replies.Part first.as_of first.total first.bytes) fault old.in_flight new none (c.in_ok-first.ensures.came known facts stands) c.in_err-from.ensures.fault)

pub returns-in_err-from-clause-bound : goal.returns-in_err-from-clause-bound
returns-in_err-from-clause-bound g c = same_bound c.args.text.now.items c.append_part.new.text.items (c.in_err-from.ensures.kept ∙ c.reserve_text.ensures.same)

-- ---- the loop

pub loop-init : goal.loop-init
loop-init g c =
    let first = c.in_ok-first.first in
    let wrote = c.in_ok-from.ensures.wrote ∙ ap (λ l. l ++ first.bytes) c.reserve_text.ensures.same in
    record {
      same = c.ask_part.ensures.same;
      place = first_at first.total _ c.in_ok-from.from c.in_ok-first.ensures.full c.in_ok-from.ensures.after;
      within = c.in_ok-reserve_text.ensures.within;
      long = long_more c.args.text.now.items c.args.text.now.items c.append_part.new.text.items first.bytes 0 c.in_ok-from.from (omega arith) wrote c.in_ok-from.ensures.after;
      front = λ none known facts stands.
          let does = g.C.Connection.does in
          let old = c.args.sender.now in
          let text = c.args.text.now.items in
          let begun = front_none old.client old.name c.args.profile does known facts first.as_of first.total old.in_flight text c.in_ok-reserve_text.ensures.within none stands in
          front_more old.client old.name c.args.profile does known facts first.as_of first.total 0 old.in_flight old.in_flight c.ask_part.new.sender.in_flight text text begun c.append_part.new.text.items first.bytes
          (c.in_ok-first.ensures.came known facts stands) c.in_ok-from.from wrote c.in_ok-from.ensures.after;
    }

pub returns-then-from-first-clause-whole : goal.returns-then-from-first-clause-whole
returns-then-from-first-clause-whole g c = λ is none known facts stands.
    let old = c.args.sender.now in
    let first = c.in_ok-first.first in
    export_done old.client old.name c.args.profile g.C.Connection.does known facts first.as_of first.total c.loop.from old.in_flight c.loop.sender.in_flight _ _ c.if-from-first.true (c.loop.invariant.front none known facts stands)

pub returns-then-from-first-clause-downloads : goal.returns-then-from-first-clause-downloads
returns-then-from-first-clause-downloads g c = λ none known facts stands.
    let old = c.args.sender.now in
    let first = c.in_ok-first.first in
    front_ended old.client old.name c.args.profile g.C.Connection.does known facts first.as_of first.total c.loop.from old.in_flight c.loop.sender.in_flight _ _ (c.loop.invariant.front none known facts stands)

pub returns-then-from-first-clause-bound : goal.returns-then-from-first-clause-bound
returns-then-from-first-clause-bound g c =
    let first = c.in_ok-first.first in
    within_bound c.args.text.now.items c.loop.text.items first.total c.loop.from c.loop.invariant.long (place_within first.total c.loop.counter c.loop.from c.loop.invariant.place) c.loop.invariant.within

pub returns-in_err-part-clause-downloads : goal.returns-in_err-part-clause-downloads
returns-in_err-part-clause-downloads g c = λ none known facts stands.
    let does = g.C.Connection.does in
    let old = c.args.sender.now in
    let now = c.loop.sender in
    let new = c.ask_part-in-loop.new.sender in
    let first = c.in_ok-first.first in
    let same = c.loop.invariant.same in
    let front = c.loop.invariant.front none known facts stands in
    let then = facts_after facts front.asks.goes.events in
    let missed = its_asks does known then old.client now.client old.name now.name c.args.profile now.in_flight new.in_flight (ap (λ s. s.client) same) (ap (λ s. s.name) same)
    (c.in_err-part.ensures.missed front.asks.none known then front.asks.stands_on).asks in
    front_missed old.client old.name c.args.profile does known facts first.as_of first.total c.loop.from old.in_flight now.in_flight new.in_flight _ _ front missed

pub returns-in_err-part-clause-same : goal.returns-in_err-part-clause-same
returns-in_err-part-clause-same g c = same_on c.args.sender.now c.loop.sender c.ask_part-in-loop.new.sender c.loop.invariant.same c.ask_part-in-loop.ensures.same

pub returns-in_err-part-clause-bound : goal.returns-in_err-part-clause-bound
returns-in_err-part-clause-bound g c =
    let first = c.in_ok-first.first in
    within_bound c.args.text.now.items c.loop.text.items first.total c.loop.from c.loop.invariant.long (place_within first.total c.loop.counter c.loop.from c.loop.invariant.place) c.loop.invariant.within

pub returns-in_err-part-clause-ended : goal.returns-in_err-part-clause-ended
returns-in_err-part-clause-ended g c =
    let does = g.C.Connection.does in
    let old = c.args.sender.now in
    let now = c.loop.sender in
    let new = c.ask_part-in-loop.new.sender.in_flight in
    let same = c.loop.invariant.same in
    let fault = c.in_err-part.field-0.0 in
    if_err_same c.from_residual-in_err-part.result (Sending fault) (λ f. old.in_flight.waiting.items ≡ [] → Wherever old.in_flight (λ known facts. EndsExport old.client old.name c.args.profile does f known facts old.in_flight new)) c.from_residual-in_err-part.ensures.1
    (λ none known facts stands.
    let front = c.loop.invariant.front none known facts stands in
    let then = facts_after facts front.asks.goes.events in
    ends_on old.client old.name c.args.profile does known facts fault old.in_flight now.in_flight new front.asks
    (its_own (λ client name. EndsAsking client name c.args.profile does fault known then now.in_flight new) old.client now.client old.name now.name (ap (λ s. s.client) same) (ap (λ s. s.name) same)
    (c.in_err-part.ensures.missed front.asks.none known then front.asks.stands_on)))

-- ---- another part of the export

pub append_part-requires-then-are_of_one : goal.append_part-requires-then-are_of_one
append_part-requires-then-are_of_one g c =
    let first = c.in_ok-first.first in
    let part = c.in_ok-part.part in
    let total = (c.are_of_one.ensures.one c.if-are_of_one.true).1 in
    part_within part.total c.loop.from _ (subst (λ (n : ℕ). c.loop.from ≤ n) (sym total) (place_within first.total c.loop.counter c.loop.from c.loop.invariant.place)) c.in_ok-part.ensures.full

pub returns-in_err-from-2-clause-downloads : goal.returns-in_err-from-2-clause-downloads
returns-in_err-from-2-clause-downloads g c = λ none known facts stands.
    let does = g.C.Connection.does in
    let old = c.args.sender.now in
    let now = c.loop.sender in
    let new = c.ask_part-in-loop.new.sender in
    let first = c.in_ok-first.first in
    let part = c.in_ok-part.part in
    let same = c.loop.invariant.same in
    let front = c.loop.invariant.front none known facts stands in
    let then = facts_after facts front.asks.goes.events in
    let waits = its_waits does known then old.client now.client old.name now.name c.args.profile c.loop.from (replies.Part part.as_of part.total part.bytes) now.in_flight new.in_flight (ap (λ s. s.client) same) (ap (λ s. s.name) same)
    (c.in_ok-part.ensures.came known then front.asks.stands_on) in
    let missed = front_missed old.client old.name c.args.profile does known facts first.as_of first.total c.loop.from old.in_flight now.in_flight new.in_flight _ _ front
    (asks_waits old.client old.name c.args.profile does known then c.loop.from (replies.Part part.as_of part.total part.bytes) now.in_flight new.in_flight front.asks.none waits) in
    record { asks = missed.asks; as_of = missed.as_of; total = missed.total; parts = missed.parts; came = missed.came; wrote = c.in_err-from-2.ensures.kept ∙ missed.wrote }

pub returns-in_err-from-2-clause-same : goal.returns-in_err-from-2-clause-same
returns-in_err-from-2-clause-same g c = same_on c.args.sender.now c.loop.sender c.ask_part-in-loop.new.sender c.loop.invariant.same c.ask_part-in-loop.ensures.same

pub returns-in_err-from-2-clause-bound : goal.returns-in_err-from-2-clause-bound
returns-in_err-from-2-clause-bound g c =
    let first = c.in_ok-first.first in
    within_bound c.args.text.now.items c.append_part-then-are_of_one.new.text.items first.total c.loop.from (ap length c.in_err-from-2.ensures.kept ∙ c.loop.invariant.long)
    (place_within first.total c.loop.counter c.loop.from c.loop.invariant.place) c.loop.invariant.within

pub returns-in_err-from-2-clause-ended : goal.returns-in_err-from-2-clause-ended
returns-in_err-from-2-clause-ended g c =
    let does = g.C.Connection.does in
    let old = c.args.sender.now in
    let now = c.loop.sender in
    let new = c.ask_part-in-loop.new.sender.in_flight in
    let part = c.in_ok-part.part in
    let same = c.loop.invariant.same in
    let fault = c.in_err-from-2.field-0.0 in
    let reply = replies.Part part.as_of part.total part.bytes in
    if_err_same c.from_residual-in_err-from-2.result fault (λ f. old.in_flight.waiting.items ≡ [] → Wherever old.in_flight (λ known facts. EndsExport old.client old.name c.args.profile does f known facts old.in_flight new)) c.from_residual-in_err-from-2.ensures.1
    (λ none known facts stands.
    let front = c.loop.invariant.front none known facts stands in
    let then = facts_after facts front.asks.goes.events in
    let waits = its_waits does known then old.client now.client old.name now.name c.args.profile c.loop.from reply now.in_flight new (ap (λ s. s.client) same) (ap (λ s. s.name) same)
    (c.in_ok-part.ensures.came known then front.asks.stands_on) in
    unwritten_on old.client old.name c.args.profile does known facts c.loop.from reply fault old.in_flight now.in_flight new front.asks waits c.in_err-from-2.ensures.fault)

pub loop-preserved : goal.loop-preserved
loop-preserved g c =
    let first = c.in_ok-first.first in
    let part = c.in_ok-part.part in
    let one = c.are_of_one.ensures.one c.if-are_of_one.true in
    let full = subst (λ (n : ℕ). length part.bytes ≡ part_length n c.loop.from) one.1 c.in_ok-part.ensures.full in
    record {
      same = same_on c.args.sender.now c.loop.sender c.ask_part-in-loop.new.sender c.loop.invariant.same c.ask_part-in-loop.ensures.same;
      place = next_at first.total c.loop.counter c.loop.from (length part.bytes) c.in_ok-from-2.from c.loop.invariant.place full c.in_ok-from-2.ensures.after;
      within = c.loop.invariant.within;
      long = long_more c.args.text.now.items c.loop.text.items c.append_part-then-are_of_one.new.text.items part.bytes c.loop.from c.in_ok-from-2.from c.loop.invariant.long c.in_ok-from-2.ensures.wrote c.in_ok-from-2.ensures.after;
      front = λ none known facts stands.
          let does = g.C.Connection.does in
          let old = c.args.sender.now in
          let now = c.loop.sender in
          let new = c.ask_part-in-loop.new.sender in
          let same = c.loop.invariant.same in
          let front = c.loop.invariant.front none known facts stands in
          let then = facts_after facts front.asks.goes.events in
          let waits = its_waits does known then old.client now.client old.name now.name c.args.profile c.loop.from (replies.Part part.as_of part.total part.bytes) now.in_flight new.in_flight (ap (λ s. s.client) same) (ap (λ s. s.name) same)
          (c.in_ok-part.ensures.came known then front.asks.stands_on) in
          let of_one = subst (λ (r : Reply). Waits does known (part_frame old.client old.name c.args.profile c.loop.from) r then now.in_flight new.in_flight) (same_part first.as_of part.as_of first.total part.total part.bytes one) waits in
          front_more old.client old.name c.args.profile does known facts first.as_of first.total c.loop.from old.in_flight now.in_flight new.in_flight _ _ front c.append_part-then-are_of_one.new.text.items part.bytes of_one
          c.in_ok-from-2.from c.in_ok-from-2.ensures.wrote c.in_ok-from-2.ensures.after;
    }

-- ---- a part of another export

pub returns-else-are_of_one-clause-disturbed : goal.returns-else-are_of_one-clause-disturbed
returns-else-are_of_one-clause-disturbed g c = λ is none known facts stands.
    let does = g.C.Connection.does in
    let old = c.args.sender.now in
    let now = c.loop.sender in
    let new = c.ask_part-in-loop.new.sender in
    let first = c.in_ok-first.first in
    let part = c.in_ok-part.part in
    let same = c.loop.invariant.same in
    let front = c.loop.invariant.front none known facts stands in
    let then = facts_after facts front.asks.goes.events in
    let waits = its_waits does known then old.client now.client old.name now.name c.args.profile c.loop.from (replies.Part part.as_of part.total part.bytes) now.in_flight new.in_flight (ap (λ s. s.client) same) (ap (λ s. s.name) same)
    (c.in_ok-part.ensures.came known then front.asks.stands_on) in
    front_disturbed old.client old.name c.args.profile does known facts first.as_of first.total c.loop.from old.in_flight now.in_flight new.in_flight _ _ front part.as_of part.total part.bytes waits
    (some_came first.total c.loop.counter c.loop.from c.loop.invariant.place c.if-from-first.false) (c.are_of_one.ensures.apart c.if-are_of_one.false)

pub returns-else-are_of_one-clause-downloads : goal.returns-else-are_of_one-clause-downloads
returns-else-are_of_one-clause-downloads g c = λ none known facts stands.
    let does = g.C.Connection.does in
    let old = c.args.sender.now in
    let now = c.loop.sender in
    let new = c.ask_part-in-loop.new.sender in
    let first = c.in_ok-first.first in
    let part = c.in_ok-part.part in
    let same = c.loop.invariant.same in
    let front = c.loop.invariant.front none known facts stands in
    let then = facts_after facts front.asks.goes.events in
    let waits = its_waits does known then old.client now.client old.name now.name c.args.profile c.loop.from (replies.Part part.as_of part.total part.bytes) now.in_flight new.in_flight (ap (λ s. s.client) same) (ap (λ s. s.name) same)
    (c.in_ok-part.ensures.came known then front.asks.stands_on) in
    front_missed old.client old.name c.args.profile does known facts first.as_of first.total c.loop.from old.in_flight now.in_flight new.in_flight _ _ front
    (asks_waits old.client old.name c.args.profile does known then c.loop.from (replies.Part part.as_of part.total part.bytes) now.in_flight new.in_flight front.asks.none waits)

pub returns-else-are_of_one-clause-same : goal.returns-else-are_of_one-clause-same
returns-else-are_of_one-clause-same g c = same_on c.args.sender.now c.loop.sender c.ask_part-in-loop.new.sender c.loop.invariant.same c.ask_part-in-loop.ensures.same

pub returns-else-are_of_one-clause-bound : goal.returns-else-are_of_one-clause-bound
returns-else-are_of_one-clause-bound g c =
    let first = c.in_ok-first.first in
    within_bound c.args.text.now.items c.loop.text.items first.total c.loop.from c.loop.invariant.long (place_within first.total c.loop.counter c.loop.from c.loop.invariant.place) c.loop.invariant.within

-- ---- all parts came

pub returns-clause-whole : goal.returns-clause-whole
returns-clause-whole g c = λ is none known facts stands.
    let old = c.args.sender.now in
    let first = c.in_ok-first.first in
    let all = last_at first.total c.loop.counter c.loop.from c.loop.invariant.place c.loop.invariant.within (omega (arith, c.loop-test.false)) in
    export_done old.client old.name c.args.profile g.C.Connection.does known facts first.as_of first.total c.loop.from old.in_flight c.loop.sender.in_flight _ _ all (c.loop.invariant.front none known facts stands)

pub returns-clause-downloads : goal.returns-clause-downloads
returns-clause-downloads g c = λ none known facts stands.
    let old = c.args.sender.now in
    let first = c.in_ok-first.first in
    front_ended old.client old.name c.args.profile g.C.Connection.does known facts first.as_of first.total c.loop.from old.in_flight c.loop.sender.in_flight _ _ (c.loop.invariant.front none known facts stands)

pub returns-clause-bound : goal.returns-clause-bound
returns-clause-bound g c =
    let first = c.in_ok-first.first in
    within_bound c.args.text.now.items c.loop.text.items first.total c.loop.from c.loop.invariant.long (place_within first.total c.loop.counter c.loop.from c.loop.invariant.place) c.loop.invariant.within
