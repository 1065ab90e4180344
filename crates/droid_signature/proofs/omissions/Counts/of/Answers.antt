-- One more is counted.
use Rattle.std.proofs.Common.{◌++◌, ◌∷◌, [], List, take, sym, subst, arith}
use Rattle.std.proofs.lemmas.List.{take_more}
use Rattle.droid_signature.specs.declared.left_out.LeftOut.{LeftOut}
use Rattle.droid_signature.specs.AllLeftOut.{AreCountsOf}
use Rattle.droid_signature.proofs.omissions.Counts.of.Goals as goal

pub loop-it-preserved : goal.loop-it-preserved
loop-it-preserved c =
    let left = c.args.left_out.now in
    let i = c.loop-it.it-index in
    subst (λ (l : List LeftOut). AreCountsOf l c.note.new.self) (sym (take_more left i _ (omega arith)))
    (c.in_ok-note.ensures (take i left) c.loop-it.invariant)
