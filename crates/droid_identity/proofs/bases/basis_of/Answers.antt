use Rattle.std.proofs.Common.{◌∙◌, sym}
use Rattle.std.proofs.lemmas.Result.{IfOk-weaker}
use Rattle.droid_identity.proofs.BasisLemmas.{basis_there, none_there}
use Rattle.droid_identity.proofs.bases.basis_of.Goals as goal

pub returns-in-Some : goal.returns-in-Some
returns-in-Some c =
    IfOk-weaker c.signature_basis.result _ _ (λ basis found file limit ends hits.
    basis_there c.args.registry.now c.args.puid.now file c.args.first.now c.args.last.now limit ends hits c.in-Some.place basis
    (sym c.by_puid.ensures.place ∙ c.in-Some.is) (rw c.signatures.ensures at found)) c.signature_basis.ensures

pub returns-in-None : goal.returns-in-None
returns-in-None c = λ file limit ends hits.
    none_there c.args.registry.now c.args.puid.now file c.args.first.now c.args.last.now limit ends hits (sym c.by_puid.ensures.place ∙ c.in-None.is)
