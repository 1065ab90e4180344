-- All places, without those before the first and past the last.
use Rattle.std.proofs.Common.{◌++◌, take, drop, length, ◌∙◌, ◌+◌, ◌/◌}
use Rattle.droid_pattern.proofs.ResizeLemmas.{written_back}
use Rattle.droid_pattern.proofs.RangeLemmas.{refilled, full_places, between}
use Rattle.droid_pattern.proofs.bit_sets.run.push_runs.Goals as goal

pub returns : goal.returns
returns c =
    let all = c.resize.new.self.items in
    let n = c.resize.new.self.len in
    let front = c.clear_before.new.words in
    let last = c.clear_past.new.words in
    let after = take n (front ++ drop (length front) all) in
    let back = written_back front all n (c.clear_before.ensures.len ∙ c.deref_mut.ensures.len) in
    let lent = c.deref_mut-2.ensures.value ∙ back in
    let back_again = written_back last after n (c.clear_past.ensures.len ∙ c.deref_mut-2.ensures.len) in
    rw back_again (between all front last c.args.low c.args.high
    (λ p. full_places all (c.args.high / 64 + 1) c.run_of.result p (refilled all (c.args.high / 64 + 1) c.run_of.result (rw (c.clear.ensures.items, c.clear.ensures.len) at c.in_ok-resize.ensures.items)) c.run_of.ensures)
    (rw c.deref_mut.ensures.value at c.clear_before.ensures.places)
    (rw lent at c.clear_past.ensures.places))
