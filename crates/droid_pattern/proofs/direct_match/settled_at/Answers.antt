-- One more cell, a cell that fails, and all of them.
use Rattle.std.proofs.Common.{◌≡◌, ◌+◌, [], ◌∷◌, drop, get_or, arith}
use Rattle.std.specs.List.{flat_map}
use Rattle.std.proofs.lemmas.List.{drop_more, drop_all}
use Rattle.droid_pattern.specs.declared.cell.Cell.TheVariants as cell
use Rattle.droid_pattern.specs.Cells.{element_at, elements_at}
use Rattle.droid_pattern.proofs.HeadLemmas.{reported_not, reported_more, reported_all}
use Rattle.droid_pattern.proofs.StarLemmas.{reported_cell}
use Rattle.droid_pattern.proofs.direct_match.settled_at.Goals as goal

pub returns-then-not-passes : goal.returns-then-not-passes
returns-then-not-passes c =
    let cells = c.args.cells.now in
    let pool = c.args.pool.now in
    let i = c.loop-cell.cell-index in
    let here = get_or cells i (cell.Byte 0) in
    let more : drop i cells ≡ here ∷ drop (i + 1) cells = drop_more cells i (cell.Byte 0) (omega arith) in
    reported_not (element_at pool here) (flat_map (elements_at pool) (drop (i + 1) cells)) c.args.bytes.now c.loop-cell.place c.in_ok-passes.passes c.if-not-passes.true c.in_ok-passes.ensures (reported_cell pool (drop i cells) here (drop (i + 1) cells) c.args.bytes.now c.loop-cell.place more c.loop-cell.invariant.1)

pub loop-cell-preserved : goal.loop-cell-preserved
loop-cell-preserved c =
    let cells = c.args.cells.now in
    let pool = c.args.pool.now in
    let i = c.loop-cell.cell-index in
    let here = get_or cells i (cell.Byte 0) in
    let more : drop i cells ≡ here ∷ drop (i + 1) cells = drop_more cells i (cell.Byte 0) (omega arith) in
    reported_more (element_at pool here) (flat_map (elements_at pool) (drop (i + 1) cells)) c.args.bytes.now c.loop-cell.place c.in_ok-passes.passes c.if-not-passes.false c.in_ok-passes.ensures (reported_cell pool (drop i cells) here (drop (i + 1) cells) c.args.bytes.now c.loop-cell.place more c.loop-cell.invariant.1)

pub returns : goal.returns
returns c =
    let none : drop c.loop-cell.cell-index c.args.cells.now ≡ [] = drop_all c.loop-cell.cell-index c.args.cells.now (omega arith) in
    reported_all c.args.bytes.now c.loop-cell.place (rw none at c.loop-cell.invariant.1)
