use Rattle.std.proofs.Common.{rules, ◌<◌, ◌^◌, length, refl, arith}
use Rattle.droid_lists.proofs.TextSteps.{is_wrong, number_fits, one_more, some_left}
use Rattle.droid_lists.proofs.spelling.profile_text.read_entries.Goals as goal

pub overflow_add-result : goal.overflow_add-result
overflow_add-result c =
    let below : length c.args.text.now < 2 ^ 63 = search rules in
    let fits = number_fits c.args.hash c.args.text.now c.loop.reading c.take.new.self c.loop.rest.now c.loop.counter c.in-Err.wrong c.loop.invariant below (rw c.in-Err.is at c.in_ok-read.ensures) in
    omega (arith, fits)

pub overflow_add-result-in-Err : goal.overflow_add-result-in-Err
overflow_add-result-in-Err c =
    let below : length c.args.text.now < 2 ^ 63 = search rules in
    let fits = number_fits c.args.hash c.args.text.now c.loop.reading c.take.new.self c.loop.rest.now c.loop.counter c.in-Err.wrong c.loop.invariant below (rw c.in-Err.is at c.in_ok-read.ensures) in
    omega (arith, fits)

pub returns-in-Err-clause-wrong : goal.returns-in-Err-clause-wrong
returns-in-Err-clause-wrong c =
    let below : length c.args.text.now < 2 ^ 63 = search rules in
    is_wrong c.args.hash c.args.text.now c.loop.reading c.take.new.self c.loop.rest.now c.loop.counter _ c.in-Err.wrong c.loop.invariant below
    (rw c.in-Err.is at c.in_ok-read.ensures) (some_left c.loop.rest.now c.is_empty.result c.is_empty.ensures c.if-is_empty.false) refl

pub loop-preserved : goal.loop-preserved
loop-preserved c =
    let below : length c.args.text.now < 2 ^ 63 = search rules in
    one_more c.args.hash c.args.text.now c.loop.reading c.take.new.self c.loop.rest.now c.loop.counter c.in-Ok.behind c.loop.invariant below (rw c.in-Ok.is at c.in_ok-read.ensures)
