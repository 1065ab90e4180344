use Rattle.std.proofs.Common.{ℕ, List, Option, IfSome, sym, subst}
use Rattle.std.specs.Io.KnownBytes.{prepend_known}
use Rattle.droid_frame.proofs.Scopes.{is_error}
use Rattle.droid_lines.proofs.PassingOn.{unless_given_up, unless_not}
use Rattle.droid_lines.specs.Reading.{GivesLine, MovesAll, MovesToFeed}
use Rattle.droid_lines.proofs.Feeds.{gives_fed, gives_last, moved_on, plain_more}
use Rattle.droid_lines.proofs.line_reader.LineReader.next_line.Goals as goal

pub returns-in_err-move_line-clause-counts : goal.returns-in_err-move_line-clause-counts
returns-in_err-move_line-clause-counts g c = λ start counts.
    let now = c.loop-line.invariant.counts start counts in
    let is = is_error c.from_residual.result _ c.from_residual.ensures.1 in
    unless_not start _ c.loop-line.retries _ (λ e. absurd cc) now

pub returns-in_err-refill-clause-counts : goal.returns-in_err-refill-clause-counts
returns-in_err-refill-clause-counts g c = λ start counts.
    let now = c.loop-line.invariant.counts start counts in
    unless_given_up start _ _ _ (is_error c.from_residual-in_err-refill.result _ c.from_residual-in_err-refill.ensures.1) (c.in_err-refill.ensures.counts start now)

pub returns-then-not-branch-2-clause-line : goal.returns-then-not-branch-2-clause-line
returns-then-not-branch-2-clause-line g c =
    let known = prepend_known c.args.self.now (g.L.Read.remaining c.args.reader.now) in
    let old = g.L.Read.remaining c.loop-line.reader in
    let rem = g.L.Read.remaining c.refill.new.reader in
    let line = c.loop-line.line.items in
    let mid = c.loop-line.self in
    let after = c.move_line.new.line.items in
    let moves : MovesAll mid c.move_line.new.self line after = rw c.if-not-branch.true at c.in_ok-move_line.ensures in
    let end = rw c.if-not-branch-2.true at c.in_ok-refill.ensures.end in
    let came = moved_on known old rem line mid c.refill.new.self after c.loop-line.invariant.came c.in_ok-refill.ensures.bytes moves.moved in
    let plain = plain_more line mid after c.loop-line.invariant.plain moves.plain moves.moved in
    subst (λ (o : Option (List ℕ)). IfSome known (λ script. GivesLine script (prepend_known c.refill.new.self rem) o)) (sym c.last_line.ensures)
    (gives_last known rem after c.refill.new.self plain came end.0 end.1)

pub returns-then-not-branch-2-clause-counts : goal.returns-then-not-branch-2-clause-counts
returns-then-not-branch-2-clause-counts g c = λ start counts.
    let now = c.loop-line.invariant.counts start counts in
    unless_not start _ c.refill.new.retries _ (λ e. absurd cc) (c.in_ok-refill.ensures.counts start now)

pub loop-line-preserved : goal.loop-line-preserved
loop-line-preserved g c =
    let known = prepend_known c.args.self.now (g.L.Read.remaining c.args.reader.now) in
    let line = c.loop-line.line.items in
    let mid = c.loop-line.self in
    let after = c.move_line.new.line.items in
    let moves : MovesAll mid c.move_line.new.self line after = rw c.if-not-branch.true at c.in_ok-move_line.ensures in
    record {
      came = moved_on known (g.L.Read.remaining c.loop-line.reader) (g.L.Read.remaining c.refill.new.reader) line mid c.refill.new.self after c.loop-line.invariant.came c.in_ok-refill.ensures.bytes moves.moved;
      plain = plain_more line mid after c.loop-line.invariant.plain moves.plain moves.moved;
      counts = λ start counts. c.in_ok-refill.ensures.counts start (c.loop-line.invariant.counts start counts);
    }

pub returns-clause-line : goal.returns-clause-line
returns-clause-line g c =
    let known = prepend_known c.args.self.now (g.L.Read.remaining c.args.reader.now) in
    let rem = g.L.Read.remaining c.loop-line.reader in
    let moves : MovesToFeed c.loop-line.self c.move_line.new.self c.loop-line.line.items c.move_line.new.line.items = rw c.if-not-branch.false at c.in_ok-move_line.ensures in
    gives_fed known rem c.loop-line.line.items c.loop-line.self c.move_line.new.self c.move_line.new.line.items c.loop-line.invariant.plain c.loop-line.invariant.came moves

pub returns-clause-counts : goal.returns-clause-counts
returns-clause-counts g c = λ start counts.
    let now = c.loop-line.invariant.counts start counts in
    unless_not start _ c.loop-line.retries _ (λ e. absurd cc) now
