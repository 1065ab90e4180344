use Rattle.std.proofs.Common.{◌∙◌, sym}
use Rattle.csv.specs.Records.{fields_of}
use Rattle.droid_pronom.specs.RegistryRecords.{miscounted}
use Rattle.droid_pronom.proofs.RegistrySteps.{reports_step, unreported}
use Rattle.droid_pronom.specs.RegistryCalls.{draft_of}
use Rattle.droid_pronom.proofs.registry.draft.Draft.take.Goals as goal

pub returns-then-len-ne-FIELDS : goal.returns-then-len-ne-FIELDS
returns-then-len-ne-FIELDS c = miscounted (λ e. c.if-len-ne-FIELDS.true (c.len.ensures ∙ e))

pub returns-in_default : goal.returns-in_default
returns-in_default c =
    unreported (draft_of c.args.self.now) (fields_of c.args.row) c.from_byte_record.result c.in_default.field-0
    (sym c.len.ensures ∙ c.if-len-ne-FIELDS.false) c.from_byte_record.ensures.refused c.in_default.is

pub returns : goal.returns
returns c =
    reports_step c.judge.result (draft_of c.judge.new.self) (draft_of c.args.self.now) (fields_of c.args.row) _ _ _ _ _ _
    (sym c.in-Ok.ensures.same ∙ c.of.ensures) (rw c.in-Ok.ensures.same at c.in-Ok.ensures.text) c.judge.ensures
