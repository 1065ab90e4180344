-- Where each byte stands in the part.
use Rattle.std.proofs.Common.{◌≡◌, ◌+◌, ◌-◌, length, get_or, ap, ◌∙◌, arith}
use Rattle.droid_pattern.proofs.HeadLemmas.{cut_byte}
use Rattle.droid_pattern.proofs.direction.Direction.next_bytes.Goals as goal

pub returns-in-End : goal.returns-in-End
returns-in-End c =
    let bytes = c.args.bytes.now in
    let len = length bytes in
    let rest = c.saturating_sub-rest.result in
    let count = c.min-count.result in
    let left = c.saturating_sub-rest.ensures in
    let few = c.min-count.ensures in
    rw c.in-End.is (λ i small inside.
    let read = cut_byte bytes (len - rest) (len - rest + count - (len - rest)) i (omega arith) (omega arith) in
    let there : len - rest + i ≡ c.args.start + i = omega arith in
    (i, read.0, read.1 ∙ ap (λ k. get_or bytes k 0) there))

pub returns-in-Start : goal.returns-in-Start
returns-in-Start c =
    let bytes = c.args.bytes.now in
    let len = length bytes in
    let rest = c.saturating_sub-rest.result in
    let count = c.min-count.result in
    let left = c.saturating_sub-rest.ensures in
    let few = c.min-count.ensures in
    rw c.in-Start.is (λ i small inside.
    let k = count - 1 - i in
    let read = cut_byte bytes (rest - count) (rest - (rest - count)) k (omega arith) (omega arith) in
    let there : rest - count + k ≡ len - 1 - (c.args.start + i) = omega arith in
    (k, read.0, read.1 ∙ ap (λ k. get_or bytes k 0) there))
