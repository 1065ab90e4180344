-- A moved word, by the one or two words that it comes from.
use Rattle.std.proofs.Common.{inl, inr, arith, rules}
use Rattle.droid_pattern.proofs.MoveLemmas.{moved_high, moved_both}
use Rattle.droid_pattern.proofs.bit_sets.shift.moved.Goals as goal
use Rattle.droid_pattern.proofs.bit_sets.shift.moved.Goals.{then-part-eq0-via-then-part-eq0, then-part-eq0-via-else-part-eq0+then-place-whole-2}

pub returns-then-part-eq0 : goal.returns-then-part-eq0
returns-then-part-eq0 c =
    moved_high c.args.words.now c.args.place c.args.whole c.args.part (omega arith) c.requires.part
    (elim c.then-part-eq0.branch [
      | then-part-eq0-via-then-part-eq0 w ↦ inl (omega arith)
      | then-part-eq0-via-else-part-eq0+then-place-whole-2 w ↦ inr (omega arith)
    ])

pub returns : goal.returns
returns c = moved_both c.args.words.now c.args.place c.args.whole c.args.part (omega arith) c.requires.part (search rules)
