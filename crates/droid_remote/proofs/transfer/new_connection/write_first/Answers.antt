use Rattle.std.proofs.Common.{[], Contains, inr, refl}
use Rattle.droid_remote.specs.Events.{Cut, Sent}
use Rattle.droid_remote.specs.declared.transfer.connection_steps.Stage.TheVariants.{Nowhere, First, Answered}
use Rattle.droid_remote.proofs.Counting.{among, counts_answered, counts_first, counts_nowhere}
use Rattle.droid_remote.proofs.Going.{moves_none, moves_one}
use Rattle.droid_remote.proofs.transfer.new_connection.write_first.Goals as goal

pub returns-in_default-clause-moves : goal.returns-in_default-clause-moves
returns-in_default-clause-moves g c = λ known facts vouched.
    moves_none g.C.Connection.does known (Contains c.args.waiting.now.items) facts Answered c.args.waiting.now.items _ (counts_answered known c.args.waiting.now.items facts vouched)

pub returns-then-write-clause-moves : goal.returns-then-write-clause-moves
returns-then-write-clause-moves g c = λ known facts vouched.
    let waiting = c.args.waiting.now in
    let frame = c.in-Some.frame.now in
    let there = among waiting.items 0 _ frame waiting.ok.0 (c.in-Some.ensures.variant.0 refl) c.in-Some.ensures.lookup in
    moves_one g.C.Connection.does known (Contains waiting.items) facts First waiting.items _ _ (Sent frame) c.if-write.ensures (inr (there, vouched)) (counts_first known waiting.items frame facts c.in-Some.ensures.lookup vouched)

pub returns-else-write-clause-moves : goal.returns-else-write-clause-moves
returns-else-write-clause-moves g c = λ known facts vouched.
    let waiting = c.args.waiting.now in
    let frame = c.in-Some.frame.now in
    let there = among waiting.items 0 _ frame waiting.ok.0 (c.in-Some.ensures.variant.0 refl) c.in-Some.ensures.lookup in
    moves_one g.C.Connection.does known (Contains waiting.items) facts Nowhere waiting.items _ _ (Cut frame) c.if-write.ensures (inr (there, vouched)) (counts_nowhere known waiting.items [])
