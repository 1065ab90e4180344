use Rattle.std.proofs.Common.{◌≡◌, ◌+◌, ◌++◌, ◌∷◌, [], List, Contains, take, inr, refl, subst, arith}
use Rattle.std.proofs.lemmas.List.{take_all}
use Rattle.droid_frame.specs.declared.frame.Frame.{Frame}
use Rattle.droid_remote.specs.Events.{Cut, Sent, facts_after}
use Rattle.droid_remote.specs.Moves.{Moves}
use Rattle.droid_remote.specs.declared.transfer.connection_steps.Stage.TheVariants.{Nowhere, All}
use Rattle.droid_remote.proofs.Counting.{among, counts_fewer, counts_none, counts_nowhere, counts_sent, first_all, one_more}
use Rattle.droid_remote.proofs.Going.{moves_none, moves_on, moves_one}
use Rattle.droid_remote.proofs.transfer.connection_steps.write_waiting.Goals as goal

pub loop-index-init : goal.loop-index-init
loop-index-init g c = λ known facts vouched. moves_none g.C.Connection.does known (Contains c.args.waiting.now.items) facts All [] _ (counts_none known facts vouched)

pub returns-in_default-clause-moves : goal.returns-in_default-clause-moves
returns-in_default-clause-moves g c = λ known facts vouched.
    let before = c.loop-index.invariant known facts vouched in
    record { goes = before.goes; counts = counts_nowhere known c.args.waiting.now.items (facts_after facts before.goes.events) }

pub returns-then-not-write-clause-moves : goal.returns-then-not-write-clause-moves
returns-then-not-write-clause-moves g c = λ known facts vouched.
    let waiting = c.args.waiting.now in
    let frame = c.in-Some.frame.now in
    let before = c.loop-index.invariant known facts vouched in
    let there = among waiting.items c.loop-index.index _ frame waiting.ok.0 (c.in-Some.ensures.variant.0 refl) c.in-Some.ensures.lookup in
    moves_on g.C.Connection.does known (Contains waiting.items) facts Nowhere waiting.items _ _ _ before.goes
    (moves_one g.C.Connection.does known (Contains waiting.items) (facts_after facts before.goes.events) Nowhere waiting.items _ _ (Cut frame) c.if-not-write.ensures (inr (there, before.counts.vouched tt))
    (counts_nowhere known waiting.items []))

pub loop-index-preserved : goal.loop-index-preserved
loop-index-preserved g c = λ known facts vouched.
    let waiting = c.args.waiting.now in
    let frame = c.in-Some.frame.now in
    let index = c.loop-index.index in
    let before = c.loop-index.invariant known facts vouched in
    let now = facts_after facts before.goes.events in
    let below = c.in-Some.ensures.variant.0 refl in
    let there = among waiting.items index _ frame waiting.ok.0 below c.in-Some.ensures.lookup in
    moves_on g.C.Connection.does known (Contains waiting.items) facts All (take (index + 1) waiting.items) _ _ _ before.goes
    (moves_one g.C.Connection.does known (Contains waiting.items) now All (take (index + 1) waiting.items) _ _ (Sent frame) c.if-not-write.ensures (inr (there, before.counts.vouched tt))
    (counts_fewer known (take (index + 1) waiting.items) (take index waiting.items ++ frame ∷ []) _
    (one_more waiting.items index frame (omega (arith, waiting.ok.0, below)) c.in-Some.ensures.lookup) (counts_sent known (take index waiting.items) frame now before.counts)))

pub returns-clause-moves : goal.returns-clause-moves
returns-clause-moves g c = λ known facts vouched.
    let waiting = c.args.waiting.now in
    let whole : take c.loop-index.index waiting.items ≡ waiting.items = take_all c.loop-index.index waiting.items (omega (arith, waiting.ok.0)) in
    subst (λ (l : List Frame). Moves g.C.Connection.does known (Contains waiting.items) facts All l c.args.connection.now c.loop-index.connection) whole (c.loop-index.invariant known facts vouched)

pub returns-clause-first : goal.returns-clause-first
returns-clause-first g c = first_all c.args.waiting.now.items
