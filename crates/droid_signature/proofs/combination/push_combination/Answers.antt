-- The first, and the others.
use Rattle.droid_signature.proofs.Further.{first_of, written_first}
use Rattle.droid_signature.proofs.combination.push_combination.Goals as goal

pub returns-in_ok-push_further-in-Some : goal.returns-in_ok-push_further-in-Some
returns-in_ok-push_further-in-Some c =
    let is = c.in-Some.ensures.cases.0 in
    let size = (first_of c.args.all.now c.in-Some.first.now c.in-Some.rest.now c.ways-block.result c.args.number is c.requires.few c.requires.number c.ways-block.ensures).size in
    written_first c.args.puid.now c.args.all.now c.in-Some.first.now c.in-Some.rest.now c.ways-block.result c.args.number c.args.text.now.items c.push_pick.new.text.items c.push_further.new.text.items is size c.in_ok-push_pick-in-Some.ensures c.in_ok-push_further-in-Some.ensures
