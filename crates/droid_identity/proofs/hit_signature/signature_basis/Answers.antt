use Rattle.std.proofs.Common.{arith}
use Rattle.droid_identity.proofs.MatchLemmas.{any_at}
use Rattle.droid_identity.proofs.hit_signature.signature_basis.Goals as goal

pub returns : goal.returns
returns c = λ any.
    let (k, signature, below, is, its) = any_at _ c.args.signatures.now any in
    c.loop-number.invariant k signature (omega (arith, below, c.loop-number-test.false)) is its.0 its.1
