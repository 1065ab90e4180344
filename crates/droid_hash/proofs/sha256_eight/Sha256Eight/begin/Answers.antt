use Rattle.std.proofs.Common.{◌≢◌, ◌-◌, ◌≤◌, ℕ, [], arith}
use Rattle.droid_hash.specs.Sha256.{Holds}
use Rattle.droid_hash.specs.Halves.{HoldsOf}
use Rattle.droid_hash.proofs.Halving.{by_half, in_first, in_second, of_first, of_second}
use Rattle.droid_hash.proofs.sha256_eight.Sha256Eight.begin.Goals as goal

pub returns-then-index-lt4-clause-empty : goal.returns-then-index-lt4-clause-empty
unfolding HoldsOf
returns-then-index-lt4-clause-empty c =
    in_first (λ k. Holds c.begin.new.self k []) (λ k. Holds c.args.self.now.high k []) c.args.index c.if-index-lt4.true c.begin.ensures.empty

pub returns-then-index-lt4-clause-others : goal.returns-then-index-lt4-clause-others
unfolding HoldsOf
returns-then-index-lt4-clause-others c = λ j low other m held.
    let one : ℕ → Type 0 = λ k. Holds c.args.self.now.low k m in
    let two : ℕ → Type 0 = λ k. Holds c.args.self.now.high k m in
    by_half (λ k. Holds c.begin.new.self k m) two j (λ first. c.begin.ensures.others j first other m (of_first one two j first held)) (λ second. of_second one two j second held)

pub returns-else-index-lt4-clause-empty : goal.returns-else-index-lt4-clause-empty
unfolding HoldsOf
returns-else-index-lt4-clause-empty c =
    in_second (λ k. Holds c.args.self.now.low k []) (λ k. Holds c.begin-else-index-lt4.new.self k []) c.args.index c.if-index-lt4.false c.begin-else-index-lt4.ensures.empty

pub returns-else-index-lt4-clause-others : goal.returns-else-index-lt4-clause-others
unfolding HoldsOf
returns-else-index-lt4-clause-others c = λ j low other m held.
    let one : ℕ → Type 0 = λ k. Holds c.args.self.now.low k m in
    let two : ℕ → Type 0 = λ k. Holds c.args.self.now.high k m in
    let from : 4 ≤ c.args.index = c.if-index-lt4.false in
    by_half one (λ k. Holds c.begin-else-index-lt4.new.self k m) j (λ first. of_first one two j first held)
    (λ second. (let apart : j - 4 ≢ c.args.index - 4 = omega arith in c.begin-else-index-lt4.ensures.others (j - 4) (omega arith) apart m (of_second one two j second held)))
