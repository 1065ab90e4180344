use Rattle.std.proofs.lemmas.Result.{IfOk-weaker}
use Rattle.droid_pronom.specs.Found.{Hits}
use Rattle.droid_identity.proofs.BasisLemmas.{found_hit}
use Rattle.droid_identity.proofs.bases.bases_by.Goals as goal

pub returns-in-Signature : goal.returns-in-Signature
returns-in-Signature c =
    IfOk-weaker c.bases_of.result _ _ (λ bases are name file limit match_all ends is.
    let hits = found_hit (Hits file limit) c.args.registry.now c.len.ensures.rules name match_all c.args.found.now is c.in-Signature.is in
    rw c.in-Signature.is ((rw c.as_slice.ensures at are) file limit ends hits)) c.bases_of.ensures
