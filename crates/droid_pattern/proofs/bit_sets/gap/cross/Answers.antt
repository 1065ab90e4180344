-- Over a gap: the words are lengthened, moved, widened and bounded.
use Rattle.std.proofs.Common.{◌++◌, take, drop, length, ◌∙◌, ap, arith}
use Rattle.droid_pattern.proofs.ResizeLemmas.{written_back, gap_moves}
use Rattle.droid_pattern.proofs.bit_sets.gap.cross.Goals as goal

pub returns : goal.returns
returns c =
    let moved = c.advance.new.words in
    let widened = c.widen.new.words in
    let grown = c.grow.new.words.items in
    let n = c.grow.new.words.len in
    let after = take n (moved ++ drop (length moved) grown) in
    let back = written_back moved grown n (c.advance.ensures.len ∙ c.deref_mut.ensures.len) in
    let lent = c.deref_mut-2.ensures.value ∙ back in
    let back_again = written_back widened after n (c.widen.ensures.len ∙ c.deref_mut-2.ensures.len) in
    gap_moves c.args.words.now.items c.drop_above.new.words.items grown moved widened c.drop_above-2.new.words.items c.args.least c.args.more c.args.len
    c.drop_above.ensures.len c.drop_above.ensures.places
    (omega (arith, c.in_ok-grow.ensures.len, c.min.ensures, c.len.ensures)) c.in_ok-grow.ensures.places
    (c.advance.ensures.len ∙ ap length c.deref_mut.ensures.value)
    (rw c.deref_mut.ensures.value at c.advance.ensures.moves)
    (rw lent at c.widen.ensures.moves)
    (rw back_again at c.drop_above-2.ensures.places)
