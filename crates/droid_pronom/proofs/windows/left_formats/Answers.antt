use Rattle.std.proofs.Common.{◌≡◌, ◌∙◌, Bool, false, length, ap, sym}
use Rattle.std.specs.List.{list_any}
use Rattle.std.proofs.lemmas.Result.{IfOk-weaker}
use Rattle.droid_pronom.specs.FoundWindows.{HitsWindows}
use Rattle.droid_pronom.proofs.FoundSteps.{none_left, report_left, without_length}
use Rattle.droid_pronom.proofs.windows.left_formats.Goals as goal

pub returns-then-none-clause-len : goal.returns-then-none-clause-len
returns-then-none-clause-len c = c.in_ok-hit.ensures.len ∙ c.len-count.ensures.count

pub returns-then-none-clause-each : goal.returns-then-none-clause-each
returns-then-none-clause-each c =
    let none : list_any (λ (flag : Bool). flag) c.in_ok-hit.hit.items ≡ false = rw c.as_slice.ensures.value at (sym c.is_any_set-none.ensures ∙ c.if-none.true) in
    none_left (HitsWindows c.args.first.now c.args.last.now) c.args.registry.now c.in_ok-hit.hit.items none (rw c.signatures.ensures at c.in_ok-hit.ensures.each)

pub returns-clause-len : goal.returns-clause-len
returns-clause-len c =
    let e : length c.in_ok-hit.hit.items ≡ length c.in_ok-beaten.beaten.items = sym (c.in_ok-beaten.ensures.len ∙ ap length c.as_slice-2.ensures.value) in
    let is = rw (c.as_slice-3.ensures.value, c.as_slice-4.ensures.value) at c.unbeaten.ensures in
    IfOk-weaker c.unbeaten.result _ _ (λ left same. ap length same ∙ without_length c.in_ok-hit.hit.items c.in_ok-beaten.beaten.items e ∙ c.in_ok-hit.ensures.len ∙ c.len-count.ensures.count) is

pub returns-clause-each : goal.returns-clause-each
returns-clause-each c =
    let e : length c.in_ok-hit.hit.items ≡ length c.in_ok-beaten.beaten.items = sym (c.in_ok-beaten.ensures.len ∙ ap length c.as_slice-2.ensures.value) in
    let is = rw (c.as_slice-3.ensures.value, c.as_slice-4.ensures.value) at c.unbeaten.ensures in
    let reports = report_left (HitsWindows c.args.first.now c.args.last.now) c.args.registry.now c.in_ok-hit.hit.items c.in_ok-beaten.beaten.items e
    (rw c.signatures.ensures at c.in_ok-hit.ensures.each) (rw (c.as_slice-2.ensures.value, c.priorities.ensures) at c.in_ok-beaten.ensures.each) in
    IfOk-weaker c.unbeaten.result _ _ (λ left same. rw same reports) is
