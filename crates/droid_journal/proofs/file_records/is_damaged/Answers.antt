use Rattle.std.proofs.Common.{rules, ◌≡◌, ◌+◌, false, take, drop, refl, arith}
use Rattle.std.specs.Prelude.{IsTrue}
use Rattle.droid_journal.specs.Chains.{HasLater}
use Rattle.droid_journal.proofs.Handing.{none_more, none_there, some_there}
use Rattle.droid_journal.proofs.file_records.is_damaged.Goals as goal

pub loop-init : goal.loop-init
loop-init g c = record { window = c.requires.window; above = omega arith; none = λ s here k lt later. absurd (omega arith) }

pub returns-then-later-clause-later : goal.returns-then-later-clause-later
returns-then-later-clause-later g c = λ s here. (
  λ reported. some_there c.args.key s (take 16777216 (drop c.loop.at s)) c.args.from c.loop.at c.loop.invariant.above refl ((c.in_ok-later.ensures.later s here).0 c.if-later.true),
  λ later. refl,
)

pub returns-then-ended-clause-later : goal.returns-then-ended-clause-later
returns-then-ended-clause-later g c = λ s here.
    let none : HasLater c.args.key c.loop.at (take 16777216 (drop c.loop.at s)) → ⊥ = λ later. let is : IsTrue c.in_ok-later.later = (c.in_ok-later.ensures.later s here).1 later in let isnt : c.in_ok-later.later ≡ false = c.if-later.false in absurd cc in (
      λ reported. absurd cc,
      λ later. absurd (none_there c.args.key s (take 16777216 (drop c.loop.at s)) c.args.from c.loop.at _ refl refl (c.in_ok-later.ensures.ends s here c.if-ended.true) (c.loop.invariant.none s here) none later),
    )

pub loop-preserved : goal.loop-preserved
loop-preserved g c = record {
  window = c.search_some.ensures.window;
  above = omega arith;
  none = λ s here.
      let none : HasLater c.args.key c.loop.at (take 16777216 (drop c.loop.at s)) → ⊥ = λ later. let is : IsTrue c.in_ok-later.later = (c.in_ok-later.ensures.later s here).1 later in let isnt : c.in_ok-later.later ≡ false = c.if-later.false in absurd cc in
      let next : c.in-Some.next ≡ c.loop.at + 8388592 = search rules in
      none_more c.args.key s (take 16777216 (drop c.loop.at s)) c.args.from c.loop.at c.in-Some.next refl (c.loop.invariant.none s here) none next;
}
