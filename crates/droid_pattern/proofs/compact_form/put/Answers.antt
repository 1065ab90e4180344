-- What a choice's cell stands for.
use Rattle.std.proofs.Common.{◌≡◌, length, map, arith}
use Rattle.droid_pattern.specs.Cells.{number_of}
use Rattle.droid_pattern.proofs.CellLemmas.{choice_stays}
use Rattle.droid_pattern.proofs.compact_form.put.Goals as goal

pub returns-in_ok-put_choice-in-Choice-clause-stays : goal.returns-in_ok-put_choice-in-Choice-clause-stays
returns-in_ok-put_choice-in-Choice-clause-stays c =
    let place : number_of c.new-start.result ≡ length c.args.pool.now.items = omega (arith, c.args.pool.now.ok.0, c.new-start.ensures, c.in_ok-short_of-in-Choice.ensures, c.len-in-Choice.ensures) in
    rw c.in-Choice.is (choice_stays c.args.pool.now.items c.put_choice.new.pool.items (map (λ v. v.items) c.in-Choice.alternatives.items) (number_of c.new-start.result) place (rw c.deref.ensures.value at c.in_ok-put_choice-in-Choice.ensures))
