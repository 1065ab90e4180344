-- A range by two sets.
use Rattle.std.proofs.Common.{rules}
use Rattle.std.proofs.lemmas.Result.{on_ok_weaker}
use Rattle.droid_pattern.proofs.ClassLemmas.{one_range}
use Rattle.droid_pattern.proofs.class_set.one.Goals as goal

pub returns-in_ok-keep_class-in-Range-clause-moved : goal.returns-in_ok-keep_class-in-Range-clause-moved
returns-in_ok-keep_class-in-Range-clause-moved c =
    rw c.in-Range.is (on_ok_weaker c.step_class.result
    (one_range c.args.direction c.args.bytes.now c.in-Range.low c.in-Range.high c.args.bits.now c.keep_class.new.bits c.step_class.new.bits (search rules) c.in_ok-keep_class-in-Range.ensures.kept)
    c.step_class.ensures.moved)
