use Rattle.std.proofs.Common.{◌++◌, Contains, inl, inr}
use Rattle.std.proofs.lemmas.Result.{err_from_is_err_and}
use Rattle.droid_remote.specs.Events.{facts_after}
use Rattle.droid_remote.proofs.Counting.{counts_nowhere}
use Rattle.droid_remote.proofs.Going.{goes_on, moves_on, stops_on}
use Rattle.droid_remote.proofs.Repeating.{vouched_both}
use Rattle.droid_remote.proofs.transfer.new_connection.begin_on.Goals as goal

pub returns-then-not-stands-clause-moves : goal.returns-then-not-stands-clause-moves
returns-then-not-stands-clause-moves g c = λ facts.
    let known = c.args.known.now in
    let waiting = c.args.waiting.now.items in
    let first = c.in_ok-stands.ensures.repeated known waiting facts (λ one is. inl is) in
    record { goes = first.goes; counts = counts_nowhere known waiting (facts_after facts first.goes.events) }

pub returns-in_err-vouched-clause-stopped : goal.returns-in_err-vouched-clause-stopped
returns-in_err-vouched-clause-stopped g c =
    let passed = err_from_is_err_and c.from_residual-in_err-vouched.result c.from_residual-in_err-vouched.ensures.1 in
    let known = c.args.known.now in
    let waiting = c.args.waiting.now.items in
    rw (passed.1, passed.2)
    (λ facts. let first = c.in_ok-stands.ensures.repeated known waiting facts (λ one is. inl is) in
    stops_on g.C.Connection.does known (Contains waiting) _ facts _ _ _ first.goes (c.in_err-vouched.ensures.stopped known waiting (facts_after facts first.goes.events) (λ one is. inr is)))

pub returns-then-not-vouched-clause-moves : goal.returns-then-not-vouched-clause-moves
returns-then-not-vouched-clause-moves g c = λ facts.
    let known = c.args.known.now in
    let waiting = c.args.waiting.now.items in
    let first = c.in_ok-stands.ensures.repeated known waiting facts (λ one is. inl is) in
    let second = c.in_ok-vouched.ensures.repeated known waiting (facts_after facts first.goes.events) (λ one is. inr is) in
    let goes = goes_on g.C.Connection.does known (Contains waiting) facts _ _ _ first.goes second.goes in
    record { goes = goes; counts = counts_nowhere known waiting (facts_after facts (first.goes.events ++ second.goes.events)) }

pub returns-clause-moves : goal.returns-clause-moves
returns-clause-moves g c = λ facts.
    let known = c.args.known.now in
    let waiting = c.args.waiting.now.items in
    let first = rw c.if-not-stands.false at c.in_ok-stands.ensures.repeated known waiting facts (λ one is. inl is) in
    let second = rw c.if-not-vouched.false at c.in_ok-vouched.ensures.repeated known waiting (facts_after facts first.goes.events) (λ one is. inr is) in
    moves_on g.C.Connection.does known (Contains waiting) facts _ waiting _ _ _ (goes_on g.C.Connection.does known (Contains waiting) facts _ _ _ first.goes second.goes)
    (c.write_first-stage.ensures.moves known (facts_after facts (first.goes.events ++ second.goes.events)) (vouched_both g.C.Connection.does known waiting facts _ _ _ first second))
