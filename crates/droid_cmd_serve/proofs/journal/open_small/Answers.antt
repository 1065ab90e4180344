use Rattle.std.proofs.Common.{◌≡◌, Err, ap, inl, inr}
use Rattle.droid_journal.specs.declared.journal_fault.Fault.TheVariants as faults
use Rattle.droid_cmd_serve.proofs.journal.open_small.Goals as goal

pub returns-in-Ok-Some-clause-opened : goal.returns-in-Ok-Some-clause-opened
returns-in-Ok-Some-clause-opened g c = λ setting s named here.
    let program = named c.in-Ok.registry (c.in-Ok.ensures (λ e. absurd cc)) in
    rw c.in-Ok-Some.field-0-is at c.in-Ok-Some.ensures.opened setting s program.limits program.is_of here

pub returns-in-Ok-Some-clause-reopened : goal.returns-in-Ok-Some-clause-reopened
returns-in-Ok-Some-clause-reopened g c = λ setting s synced all named here left.
    let program = named c.in-Ok.registry (c.in-Ok.ensures (λ e. absurd cc)) in
    rw c.in-Ok-Some.field-0-is at c.in-Ok-Some.ensures.reopened setting s synced all program.limits program.is_of here left

pub returns-in-Ok-None-clause-refuted : goal.returns-in-Ok-None-clause-refuted
returns-in-Ok-None-clause-refuted g c = λ n reported setting s named here. inl cc

pub returns-in-Err-clause-lawful : goal.returns-in-Err-clause-lawful
returns-in-Err-clause-lawful g c = λ n setting s synced all here left reported.
    let same : c.in-Err.fault ≡ faults.Damage n = cc in
    c.in-Err.ensures.lawful n setting s synced all here left (ap Err same)

pub returns-in-Err-clause-damage : goal.returns-in-Err-clause-damage
returns-in-Err-clause-damage g c = λ n reported s here.
    let same : c.in-Err.fault ≡ faults.Damage n = cc in
    c.in-Err.ensures.damage n (ap Err same) s here

pub returns-in-Err-clause-refuted : goal.returns-in-Err-clause-refuted
returns-in-Err-clause-refuted g c = λ n reported setting s named here.
    let program = named c.in-Ok.registry (c.in-Ok.ensures (λ e. absurd cc)) in
    let same : c.in-Err.fault ≡ faults.Record n = cc in
    inr (λ bare. c.in-Err.ensures.refuted n (ap Err same) setting bare s program.limits program.is_of here)

pub returns-in-Err-clause-other_header : goal.returns-in-Err-clause-other_header
returns-in-Err-clause-other_header g c = λ reported s here.
    let same : c.in-Err.fault ≡ faults.Header = cc in
    c.in-Err.ensures.other_header (ap Err same) s here
