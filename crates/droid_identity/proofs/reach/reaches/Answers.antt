use Rattle.std.proofs.lemmas.Result.{IfOk-weaker}
use Rattle.droid_identity.proofs.SpanLemmas.{between_reaches}
use Rattle.droid_identity.proofs.reach.reaches.Goals as goal

pub is_between-requires : goal.is_between-requires
is_between-requires c = c.new-classes.ensures c.near-cut.result.now

pub returns : goal.returns
returns c =
    let same = between_reaches c.args.sequence.now.offsets.anchor c.args.sequence.now.pattern c.args.bytes.now c.args.reach c.requires 0 in
    IfOk-weaker c.is_between.result _ _ (λ found is. (λ t. same.0 (is.0 t), λ r. is.1 (same.1 r))) (rw c.near-cut.ensures.bytes at c.is_between.ensures.found)
