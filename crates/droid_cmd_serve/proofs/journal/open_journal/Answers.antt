use Rattle.std.proofs.Common.{◌≡◌, ℕ, List, ap, sym, subst, ◌∙◌, inl, inr}
use Rattle.std.specs.Prelude.{IfOk}
use Rattle.std.proofs.lemmas.Result.{IfOk-weaker}
use Rattle.droid_cmd_serve.specs.Journals.{IsHeaderOf}
use Rattle.droid_cmd_serve.proofs.Headers.{left_header, no_damage, no_header, no_record, no_write}
use Rattle.droid_wire.specs.Histories.{GivesReply, IsBetween, no_base}
use Rattle.droid_wire.specs.Standing.{IsLeft, StandsForHistory}
use Rattle.droid_journal.specs.Opening.{HasHeader, IsKept, WasRefuted}
use Rattle.droid_journal.specs.declared.journal_fault.Fault.TheVariants as faults
use Rattle.droid_core_spec.specs.Histories.{History}
use Rattle.droid_cmd_serve.proofs.journal.open_journal.Goals as goal

pub open-requires-clause-kept : goal.open-requires-clause-kept
open-requires-clause-kept g c = λ s here has.
    c.requires.kept s c.deref.result.now here (subst (λ (h : List ℕ). IsHeaderOf c.args.registry.now h) (sym c.deref.ensures.value) (c.in-Ok.ensures.is_of s here)) has

pub open_small-requires-clause-found : goal.open_small-requires-clause-found
open_small-requires-clause-found g c =
    subst (λ (f : g.row.F.Denot). g.F.LogFile.is_found f) (sym (c.in-Err-open.ensures.unchanged (no_write c.in-Err-open.unopened.fault c.in-Record.number c.in-Record.is))) c.requires.found

pub open_small-requires-clause-kept : goal.open_small-requires-clause-kept
open_small-requires-clause-kept g c = λ s there has.
    let file = c.in-Err-open.ensures.unchanged (no_write c.in-Err-open.unopened.fault c.in-Record.number c.in-Record.is) in
    let here : g.F.LogFile.has c.args.file s = subst (λ (f : g.row.F.Denot). g.F.LogFile.has f s) file there in
    let its = subst (λ (h : List ℕ). IsHeaderOf c.args.registry.now h) (sym c.deref-in-Record.ensures.value) (c.in-Ok.ensures.is_of s here) in
    subst (λ (f : g.row.F.Denot). IsKept c.deref-in-Record.result.now (g.F.LogFile.kept f)) (sym file) (c.requires.kept s c.deref-in-Record.result.now here its has)

pub returns-in-Ok-open-clause-opened : goal.returns-in-Ok-open-clause-opened
returns-in-Ok-open-clause-opened g c = λ setting s stands named here.
    let its = subst (λ (h : List ℕ). IsHeaderOf c.args.registry.now h) (sym c.deref.ensures.value) (c.in-Ok.ensures.is_of s here) in
    let opened = c.in-Ok-open.ensures.opened setting s stands here in
    record { header = c.deref.result.now; is_of = its; its = opened.0; found = opened.2; stands = inl (opened.1, opened.3, opened.4) }

pub returns-in-Ok-open-clause-reopened : goal.returns-in-Ok-open-clause-reopened
returns-in-Ok-open-clause-reopened g c = λ setting s header synced all stands named here is_of left.
    let same : c.deref.result.now ≡ header =
    c.deref.ensures.value ∙ c.in-Ok.ensures.same s header here is_of (left_header setting header s synced all left) in
    subst (λ (h : List ℕ). (history : History) × StandsForHistory g.F.LogFile.has g.F.LogFile.kept setting h c.in-Ok-open.journal.journal history history × IsBetween synced history all) same
    (c.in-Ok-open.ensures.reopened setting s synced all stands here (subst (λ (h : List ℕ). IsLeft setting h s synced all) (sym same) left))

pub returns-in-Record-clause-opened : goal.returns-in-Record-clause-opened
returns-in-Record-clause-opened g c = λ setting s stands named here.
    let its = subst (λ (h : List ℕ). IsHeaderOf c.args.registry.now h) (sym c.deref-in-Record.ensures.value) (c.in-Ok.ensures.is_of s here) in
    let file = c.in-Err-open.ensures.unchanged (no_write c.in-Err-open.unopened.fault c.in-Record.number c.in-Record.is) in
    let there : g.F.LogFile.has c.in-Err-open.unopened.file s = subst (λ (f : g.row.F.Denot). g.F.LogFile.has f s) (sym file) here in
    IfOk-weaker c.open_small.result _ _ (λ it opened. record { header = c.deref-in-Record.result.now; is_of = its; its = opened.0; found = opened.1; stands = inr (opened.2, opened.3) }) (c.open_small.ensures.opened setting s named there)

pub returns-in-Record-clause-reopened : goal.returns-in-Record-clause-reopened
returns-in-Record-clause-reopened g c = λ setting s header synced all stands named here is_of left.
    let same : c.deref-in-Record.result.now ≡ header =
    c.deref-in-Record.ensures.value ∙ c.in-Ok.ensures.same s header here is_of (left_header setting header s synced all left) in
    let file = c.in-Err-open.ensures.unchanged (no_write c.in-Err-open.unopened.fault c.in-Record.number c.in-Record.is) in
    let there : g.F.LogFile.has c.in-Err-open.unopened.file s = subst (λ (f : g.row.F.Denot). g.F.LogFile.has f s) (sym file) here in
    subst (λ (h : List ℕ). IfOk c.open_small.result (λ it. (history : History) × StandsForHistory g.F.LogFile.has g.F.LogFile.kept setting h it.journal history history × IsBetween synced history all)) same
    (c.open_small.ensures.reopened setting s synced all named there (subst (λ (h : List ℕ). IsLeft setting h s synced all) (sym same) left))

pub returns-in-Record-clause-lawful : goal.returns-in-Record-clause-lawful
returns-in-Record-clause-lawful g c = λ n setting s header synced all here is_of left reported.
    let same : c.deref-in-Record.result.now ≡ header =
    c.deref-in-Record.ensures.value ∙ c.in-Ok.ensures.same s header here is_of (left_header setting header s synced all left) in
    let file = c.in-Err-open.ensures.unchanged (no_write c.in-Err-open.unopened.fault c.in-Record.number c.in-Record.is) in
    let there : g.F.LogFile.has c.in-Err-open.unopened.file s = subst (λ (f : g.row.F.Denot). g.F.LogFile.has f s) (sym file) here in
    c.open_small.ensures.lawful n setting s synced all there (subst (λ (h : List ℕ). IsLeft setting h s synced all) (sym same) left) reported

pub returns-in-Record-clause-other_header : goal.returns-in-Record-clause-other_header
returns-in-Record-clause-other_header g c = λ reported s header here is_of has.
    let same : c.deref-in-Record.result.now ≡ header =
    c.deref-in-Record.ensures.value ∙ c.in-Ok.ensures.same s header here is_of has in
    let file = c.in-Err-open.ensures.unchanged (no_write c.in-Err-open.unopened.fault c.in-Record.number c.in-Record.is) in
    let there : g.F.LogFile.has c.in-Err-open.unopened.file s = subst (λ (f : g.row.F.Denot). g.F.LogFile.has f s) (sym file) here in
    (c.open_small.ensures.other_header reported s there).0 (subst (λ (h : List ℕ). HasHeader h s) (sym same) has)

pub returns-in-Record-clause-damage : goal.returns-in-Record-clause-damage
returns-in-Record-clause-damage g c = λ n reported s here.
    let its = subst (λ (h : List ℕ). IsHeaderOf c.args.registry.now h) (sym c.deref-in-Record.ensures.value) (c.in-Ok.ensures.is_of s here) in
    let file = c.in-Err-open.ensures.unchanged (no_write c.in-Err-open.unopened.fault c.in-Record.number c.in-Record.is) in
    let there : g.F.LogFile.has c.in-Err-open.unopened.file s = subst (λ (f : g.row.F.Denot). g.F.LogFile.has f s) (sym file) here in
    record { header = c.deref-in-Record.result.now; is_of = its; damaged = c.open_small.ensures.damage n reported s there }

pub returns-in-Record-clause-refuted : goal.returns-in-Record-clause-refuted
returns-in-Record-clause-refuted g c = λ n reported setting s stands named here.
    let its = subst (λ (h : List ℕ). IsHeaderOf c.args.registry.now h) (sym c.deref-in-Record.ensures.value) (c.in-Ok.ensures.is_of s here) in
    let file = c.in-Err-open.ensures.unchanged (no_write c.in-Err-open.unopened.fault c.in-Record.number c.in-Record.is) in
    let there : g.F.LogFile.has c.in-Err-open.unopened.file s = subst (λ (f : g.row.F.Denot). g.F.LogFile.has f s) (sym file) here in
    record {
      header = c.deref-in-Record.result.now;
      is_of = its;
      refuted = elim (c.open_small.ensures.refuted n reported setting s named there) [
        | inl number ↦ inl (subst (λ (h : List ℕ). WasRefuted (GivesReply setting (no_base setting)) h s n) (c.deref.ensures.value ∙ sym c.deref-in-Record.ensures.value) (c.in-Err-open.ensures.refuted n setting s stands here (c.in-Record.is ∙ ap (λ (m : ℕ). faults.Record m) (sym number))))
        | inr small ↦ inr small
      ];
    }

pub returns-clause-lawful : goal.returns-clause-lawful
returns-clause-lawful g c = λ n setting s header synced all here is_of left reported.
    let same : c.deref.result.now ≡ header =
    c.deref.ensures.value ∙ c.in-Ok.ensures.same s header here is_of (left_header setting header s synced all left) in
    let is : c.in-Err-open.unopened.fault ≡ faults.Damage n = cc in
    c.in-Err-open.ensures.lawful n setting s synced all here (subst (λ (h : List ℕ). IsLeft setting h s synced all) (sym same) left) is

pub returns-clause-other_header : goal.returns-clause-other_header
returns-clause-other_header g c = λ reported s header here is_of has.
    let same : c.deref.result.now ≡ header =
    c.deref.ensures.value ∙ c.in-Ok.ensures.same s header here is_of has in
    let is : c.in-Err-open.unopened.fault ≡ faults.Header = cc in
    (c.in-Err-open.ensures.other_header s here is).0 (subst (λ (h : List ℕ). HasHeader h s) (sym same) has)

pub returns-clause-damage : goal.returns-clause-damage
returns-clause-damage g c = λ n reported s here.
    let its = subst (λ (h : List ℕ). IsHeaderOf c.args.registry.now h) (sym c.deref.ensures.value) (c.in-Ok.ensures.is_of s here) in
    let is : c.in-Err-open.unopened.fault ≡ faults.Damage n = cc in
    record { header = c.deref.result.now; is_of = its; damaged = c.in-Err-open.ensures.damage n s here is }

pub returns-clause-refuted : goal.returns-clause-refuted
returns-clause-refuted g c = λ n reported setting s stands named here.
    let its = subst (λ (h : List ℕ). IsHeaderOf c.args.registry.now h) (sym c.deref.ensures.value) (c.in-Ok.ensures.is_of s here) in
    let is : c.in-Err-open.unopened.fault ≡ faults.Record n = cc in
    record { header = c.deref.result.now; is_of = its; refuted = inl (c.in-Err-open.ensures.refuted n setting s stands here is) }

pub returns-in-Err-clause-lawful : goal.returns-in-Err-clause-lawful
returns-in-Err-clause-lawful g c = λ n setting s header synced all here is_of left reported.
    let same : c.in-Err.fault ≡ faults.Damage n = cc in
    no_damage c.in-Err.fault n c.in-Err.ensures.fault same

pub returns-in-Err-clause-other_header : goal.returns-in-Err-clause-other_header
returns-in-Err-clause-other_header g c = λ reported s header here is_of has.
    let same : c.in-Err.fault ≡ faults.Header = cc in
    no_header c.in-Err.fault c.in-Err.ensures.fault same

pub returns-in-Err-clause-damage : goal.returns-in-Err-clause-damage
returns-in-Err-clause-damage g c = λ n reported s here.
    let same : c.in-Err.fault ≡ faults.Damage n = cc in
    absurd (no_damage c.in-Err.fault n c.in-Err.ensures.fault same)

pub returns-in-Err-clause-refuted : goal.returns-in-Err-clause-refuted
returns-in-Err-clause-refuted g c = λ n reported setting s stands named here.
    let same : c.in-Err.fault ≡ faults.Record n = cc in
    absurd (no_record c.in-Err.fault n c.in-Err.ensures.fault same)
