use Rattle.std.proofs.Common.{length}
use Rattle.droid_assembly.proofs.Along.{along-several}
use Rattle.droid_assembly.proofs.places.pass_several.Goals as goal

pub returns-then-total-le-JOINED_LIMIT-clause-along : goal.returns-then-total-le-JOINED_LIMIT-clause-along
returns-then-total-le-JOINED_LIMIT-clause-along c pieces total count begun =
    let out = c.gather-total.ensures in
    let several = c.gather-total.new.several in
    along-several c.args.front.now c.show_joined.new.front c.args.waiting.now c.gather-total.new.waiting c.args.from (length several) pieces total count several
    (out.placed pieces total count begun.placed) (out.passed pieces total count begun.placed) c.show_joined.ensures.knows begun

pub returns-then-total-le-JOINED_LIMIT-clause-passed : goal.returns-then-total-le-JOINED_LIMIT-clause-passed
returns-then-total-le-JOINED_LIMIT-clause-passed c pieces total count begun = c.gather-total.ensures.passed pieces total count begun.placed

pub returns-else-total-le-JOINED_LIMIT-clause-along : goal.returns-else-total-le-JOINED_LIMIT-clause-along
returns-else-total-le-JOINED_LIMIT-clause-along c pieces total count begun =
    let out = c.gather-total.ensures in
    let several = c.gather-total.new.several in
    along-several c.args.front.now c.show_each.new.front c.args.waiting.now c.gather-total.new.waiting c.args.from (length several) pieces total count several
    (out.placed pieces total count begun.placed) (out.passed pieces total count begun.placed) c.show_each.ensures.knows begun

pub returns-else-total-le-JOINED_LIMIT-clause-passed : goal.returns-else-total-le-JOINED_LIMIT-clause-passed
returns-else-total-le-JOINED_LIMIT-clause-passed c pieces total count begun = c.gather-total.ensures.passed pieces total count begun.placed
