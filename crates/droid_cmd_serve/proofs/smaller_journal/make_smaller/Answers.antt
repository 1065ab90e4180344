use Rattle.std.proofs.Common.{◌≡◌, List, ℕ, inl, inr, sym, subst, ◌∙◌}
use Rattle.std.proofs.lemmas.Result.{IfOk-weaker, on_ok_weaker}
use Rattle.droid_cmd_serve.specs.Journals.{IsHeaderOf, IsNewHeaderOf}
use Rattle.droid_cmd_serve.proofs.smaller_journal.make_smaller.Goals as goal
use Rattle.droid_journal.specs.Opening.{HasHeader}

pub returns-clause-at_any_moment : goal.returns-clause-at_any_moment
returns-clause-at_any_moment g c = λ s bytes here empty leads.
    let its : IsHeaderOf c.args.registry.now c.deref.result.now = subst (λ (h : List ℕ). IsHeaderOf c.args.registry.now h) (sym c.deref.ensures.value) (c.in-Ok.ensures.is_of s here) in
    let fresh : IsNewHeaderOf c.args.registry.now c.deref-2.result.now = subst (λ (h : List ℕ). IsNewHeaderOf c.args.registry.now h) (sym c.deref-2.ensures.value) c.in_ok-fresh.ensures in
    elim (c.compact.ensures.at_any_moment s bytes here empty leads) [
      | inl old ↦ inl old
      | inr new ↦ inr (record { header = c.deref.result.now; is_of = its; new = c.deref-2.result.now; new_is_of = fresh; shortened = new; same = λ setting base one read history behind whole found. c.a_smaller_file_leads_to_the_same_history.ensures c.deref.result.now c.deref-2.result.now s bytes setting base one read history behind whole new found })
    ]

pub returns-clause-smaller : goal.returns-clause-smaller
returns-clause-smaller g c = λ s bytes here empty.
    let its : IsHeaderOf c.args.registry.now c.deref.result.now = subst (λ (h : List ℕ). IsHeaderOf c.args.registry.now h) (sym c.deref.ensures.value) (c.in-Ok.ensures.is_of s here) in
    let fresh : IsNewHeaderOf c.args.registry.now c.deref-2.result.now = subst (λ (h : List ℕ). IsNewHeaderOf c.args.registry.now h) (sym c.deref-2.ensures.value) c.in_ok-fresh.ensures in
    on_ok_weaker c.compact.result (λ new leads. record { header = c.deref.result.now; is_of = its; new = c.deref-2.result.now; new_is_of = fresh; shortened = (new leads); same = λ setting base one read history behind whole found. c.a_smaller_file_leads_to_the_same_history.ensures c.deref.result.now c.deref-2.result.now s bytes setting base one read history behind whole (new leads) found }) (c.compact.ensures.compacted s bytes here empty)

pub returns-clause-on_disk : goal.returns-clause-on_disk
returns-clause-on_disk g c = λ s here empty.
    let its : IsHeaderOf c.args.registry.now c.deref.result.now = subst (λ (h : List ℕ). IsHeaderOf c.args.registry.now h) (sym c.deref.ensures.value) (c.in-Ok.ensures.is_of s here) in
    let fresh : IsNewHeaderOf c.args.registry.now c.deref-2.result.now = subst (λ (h : List ℕ). IsNewHeaderOf c.args.registry.now h) (sym c.deref-2.ensures.value) c.in_ok-fresh.ensures in
    IfOk-weaker c.compact.result _ _ (λ it new. (record { header = c.deref.result.now; is_of = its; new = c.deref-2.result.now; new_is_of = fresh; shortened = new.0; same = λ setting base one read history behind whole found. c.a_smaller_file_leads_to_the_same_history.ensures c.deref.result.now c.deref-2.result.now s (g.N.LogFile.kept it.file) setting base one read history behind whole new.0 found }, new.1)) (c.compact.ensures.on_disk s here empty)

pub returns-clause-sizes : goal.returns-clause-sizes
returns-clause-sizes g c = λ s here empty.
    let its : IsHeaderOf c.args.registry.now c.deref.result.now = subst (λ (h : List ℕ). IsHeaderOf c.args.registry.now h) (sym c.deref.ensures.value) (c.in-Ok.ensures.is_of s here) in
    let fresh : IsNewHeaderOf c.args.registry.now c.deref-2.result.now = subst (λ (h : List ℕ). IsNewHeaderOf c.args.registry.now h) (sym c.deref-2.ensures.value) c.in_ok-fresh.ensures in
    IfOk-weaker c.compact.result _ _ (λ it sizes. record { header = c.deref.result.now; is_of = its; new = c.deref-2.result.now; new_is_of = fresh; sizes = sizes }) (c.compact.ensures.sizes s here empty)

pub returns-clause-other_header : goal.returns-clause-other_header
returns-clause-other_header g c = λ reported s header here is_of has.
    let same : c.deref.result.now ≡ header = c.deref.ensures.value ∙ c.in-Ok.ensures.same s header here is_of has in
    c.compact.ensures.other_header reported s here (subst (λ (h : List ℕ). HasHeader h s) (sym same) has)

pub returns-clause-behind : goal.returns-clause-behind
returns-clause-behind g c = λ n reported s here.
    let its : IsHeaderOf c.args.registry.now c.deref.result.now = subst (λ (h : List ℕ). IsHeaderOf c.args.registry.now h) (sym c.deref.ensures.value) (c.in-Ok.ensures.is_of s here) in
    record { header = c.deref.result.now; is_of = its; behind = c.compact.ensures.behind n reported s here }
