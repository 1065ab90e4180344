use Rattle.std.proofs.Common.{List, ℕ, sym, subst}
use Rattle.std.proofs.lemmas.Result.{IfOk-weaker}
use Rattle.droid_cmd_serve.specs.Journals.{IsHeaderOf}
use Rattle.droid_cmd_serve.proofs.smaller_journal.is_worth_it.Goals as goal

pub returns : goal.returns
returns g c = record {
  mostly = λ s here.
      let its : IsHeaderOf c.args.registry.now c.deref.result.now = subst (λ (h : List ℕ). IsHeaderOf c.args.registry.now h) (sym c.deref.ensures.value) (c.in-Ok.ensures.is_of s here) in
      IfOk-weaker c.is_mostly_ended.result _ _ (λ says mostly. record { header = c.deref.result.now; is_of = its; its = mostly.0; whole = mostly.1; mostly = mostly.2 }) (c.is_mostly_ended.ensures.mostly s here);
}
