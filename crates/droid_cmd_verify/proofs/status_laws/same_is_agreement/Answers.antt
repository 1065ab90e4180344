use Rattle.droid_cmd_verify.proofs.SameAgreeing.{verified_agrees}
use Rattle.droid_cmd_verify.proofs.status_laws.same_is_agreement.Goals as goal

pub returns : goal.returns
returns g c = λ registry options lists old new before after verified verifies same how.
    verified_agrees g.T.Tree.observes g.W.Watcher.hears g.O.Write.contents registry options lists old new before after verified same how verifies
