use Rattle.std.proofs.Common.{[]}
use Rattle.std.proofs.lemmas.List.{append-nil, drop_all}
use Rattle.droid_identity.proofs.hit_signature.all_matches.Goals as goal

pub returns : goal.returns
returns c = rw append-nil at (c.loop-sequence.invariant.0 [] (rw (drop_all c.loop-sequence.sequence-index c.args.sequences.now c.loop-sequence-test.false) tt))
