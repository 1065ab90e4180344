use Rattle.std.proofs.Common.{rules, ◌≡◌, ◌+◌, ℕ, Bool, ap, arith}
use Rattle.std.specs.Prelude.{if◌then◌else◌}
use Rattle.droid_compaction.proofs.whole.size_of.Goals as goal

abbrev size : Bool → ℕ
size ahead = if ahead then 17 else 0

pub returns-then-not-ahead : goal.returns-then-not-ahead
returns-then-not-ahead c =
    let none : size c.args.ahead ≡ 0 = ap size c.if-not-ahead.true in
    omega (arith, none)

pub returns : goal.returns
returns c =
    let sum : c.in-Some.end ≡ c.args.at + 17 = search rules in
    let some : size c.args.ahead ≡ 17 = ap size c.if-not-ahead.false in
    omega (arith, sum, some)
