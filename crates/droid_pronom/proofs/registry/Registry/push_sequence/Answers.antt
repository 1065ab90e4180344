use Rattle.std.proofs.Common.{◌≡◌, ◌∙◌, List, length, refl, sym, ap, arith}
use Rattle.droid_pronom.specs.Registry.{Contents, Signed}
use Rattle.droid_pronom.specs.RegistryGrowth.{with_sequence}
use Rattle.droid_pronom.proofs.RegistryTables.{kept_sequence, extended_is}
use Rattle.droid_pronom.proofs.registry.Registry.push_sequence.Goals as goal

pub invariant_of-self : goal.invariant_of-self
invariant_of-self c =
    let count : c.len-count.result ≡ length c.self.inside.signatures.items = c.len-count.ensures ∙ c.self.inside.signatures.ok.0 in
    kept_sequence c.self.inside _ c.args.sequence c.self.invariant
    refl refl refl refl
    (sym (extended_is c.args.sequence c.self.inside.signatures.items c.len-count.result c.index_mut.result.now c.push.new.self
    (omega (arith, count)) count c.index_mut.ensures.value c.in_ok-push.ensures.ok))
    (λ q. refl)

pub returns-in_ok-push-clause-ok : goal.returns-in_ok-push-clause-ok
returns-in_ok-push-clause-ok c =
    let count : c.len-count.result ≡ length c.self.inside.signatures.items = c.len-count.ensures ∙ c.self.inside.signatures.ok.0 in
    let last = extended_is c.args.sequence c.self.inside.signatures.items c.len-count.result c.index_mut.result.now c.push.new.self
    (omega (arith, count)) count c.index_mut.ensures.value c.in_ok-push.ensures.ok in
    ap (λ (ss : List Signed). let k : Contents = record { formats = c.self.inside.formats.items; extensions = c.self.inside.extensions.items; priorities = c.self.inside.priorities.items; signatures = ss } in k) (sym last)
    ∙ ap (λ (r : Contents). with_sequence r c.args.sequence) c.self.view_is
