use Rattle.std.proofs.Common.{◌≡◌, ◌++◌, ℕ, List, length, arith}
use Rattle.droid_frame.specs.RunningHashes.{HoldsAll}
use Rattle.droid_identity.specs.Matches.{AreEnds}
use Rattle.droid_cmd_identify.specs.EndsRead.{last_of}
use Rattle.droid_cmd_identify.proofs.StreamLemmas.{of_whole}
use Rattle.droid_cmd_identify.proofs.stream_ends.read_stream.Goals as goal

pub returns-clause-ends : goal.returns-clause-ends
returns-clause-ends g c =
    let t = c.in_ok-size.ensures.taken in
    of_whole (λ (bytes : List ℕ). (length bytes ≡ c.in_ok-size.size) × AreEnds bytes c.args.limit c.settle.new.ends.first.items (last_of c.settle.new.ends)) _ t.seen t.whole
    (t.counted, c.settle.ensures t.seen t.counted t.keeps)

pub returns-clause-hash : goal.returns-clause-hash
returns-clause-hash g c =
    let t = c.in_ok-size.ensures.taken in
    of_whole (λ (bytes : List ℕ). (before : List ℕ) → HoldsAll c.args.running.now before → HoldsAll c.take_stream.new.running (before ++ bytes)) _ t.seen t.whole t.holds

pub returns-clause-same : goal.returns-clause-same
returns-clause-same g c = let t = c.in_ok-size.ensures.taken in (c.settle.ensures t.seen t.counted t.keeps).same

pub returns-clause-within : goal.returns-clause-within
returns-clause-within g c =
    let t = c.in_ok-size.ensures.taken in
    let a = c.settle.ensures t.seen t.counted t.keeps in
    let r = a.reached in
    omega (arith, r)

pub returns-clause-inside : goal.returns-clause-inside
returns-clause-inside g c =
    let t = c.in_ok-size.ensures.taken in
    let a = c.settle.ensures t.seen t.counted t.keeps in
    let r = a.reached in
    let n = t.counted in
    omega (arith, r, n)
