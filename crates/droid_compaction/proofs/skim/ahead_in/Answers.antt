use Rattle.std.proofs.Common.{rules, ◌≡◌, ◌∙◌, ◌++◌, ℕ, get_or, length, sym, ap, arith}
use Rattle.std.proofs.lemmas.List.{length-append, length-take}
use Rattle.droid_journal.specs.Records.{record_bytes}
use Rattle.droid_journal.specs.declared.records.key.Form.TheVariants as forms
use Rattle.droid_journal.proofs.RecordLaws.{record_within}
use Rattle.droid_compaction.proofs.Skimming.{ahead_before, ahead_seen}
use Rattle.droid_compaction.proofs.skim.ahead_in.Goals as goal

pub returns-in-Before-clause-there : goal.returns-in-Before-clause-there
returns-in-Before-clause-there c = λ key place it rest n form some is. sym (ahead_before key place it (form ∙ c.in-Before.is))

pub returns-then-bytes-lt1-clause-there : goal.returns-then-bytes-lt1-clause-there
returns-then-bytes-lt1-clause-there c = λ key place it rest n form some is.
    let whole = record_bytes key place it in
    let within = record_within key place it in
    absurd (omega (arith, c.if-bytes-lt1.true, some, ap length is, length-take n (whole ++ rest), length-append whole rest, within.0))

pub returns-then-bytes-eq1-clause-there : goal.returns-then-bytes-eq1-clause-there
returns-then-bytes-eq1-clause-there c = λ key place it rest n form some is.
    let present : c.args.form ≡ forms.Present = search rules in
    let byte : get_or c.args.bytes.now 0 0 ≡ 1 = search rules in
    sym ((ahead_seen key place it rest c.args.bytes.now n (form ∙ present) some is).0 byte)

pub returns-clause-there : goal.returns-clause-there
returns-clause-there c = λ key place it rest n form some is.
    let present : c.args.form ≡ forms.Present = search rules in
    sym ((ahead_seen key place it rest c.args.bytes.now n (form ∙ present) some is).1 (λ byte. omega (arith, byte, c.if-bytes-eq1.false)))
