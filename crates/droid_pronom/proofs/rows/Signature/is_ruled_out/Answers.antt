-- None of the bytes of which the signature needs one is at their offset.
use Rattle.std.proofs.Common.{ap, sym, ◌∙◌}
use Rattle.std.proofs.lemmas.Bool.{not-true, false≢true}
use Rattle.droid_pronom.specs.Registry.{Signed}
use Rattle.droid_pronom.proofs.HeadLemmas.{ruled_out}
use Rattle.droid_pronom.proofs.rows.Signature.is_ruled_out.Goals as goal

pub returns-in-Some : goal.returns-in-Some
returns-in-Some c = λ out last all.
    let keeps = rw c.in-Some.is at c.self.invariant in
    let same = ap (λ (signature : Signed). signature.sequences) c.self.view_is in
    ruled_out c.in-Some.head c.self.inside.sequences.items c.args.first.now last keeps
    (λ there. absurd (false≢true (sym (not-true c.is_in.result out) ∙ c.is_in.ensures.1 there)))
    (rw same all)
