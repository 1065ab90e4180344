use Rattle.std.proofs.Common.{refl, sym, subst, ◌∙◌}
use Rattle.droid_xml.specs.Documents.{next_at}
use Rattle.droid_xml.specs.Outcomes.{Fails}
use Rattle.droid_xml.specs.Views.{place}
use Rattle.droid_xml.specs.declared.problem.Fault.{Fault}
use Rattle.droid_xml.proofs.Steps.{ends, ends_early}
use Rattle.droid_xml.proofs.reader.Reader.end.Goals as goal

pub returns-then-is_complete : goal.returns-then-is_complete
returns-then-is_complete c = (ends (place c.args.self.now) c.requires (sym c.is_complete.ensures ∙ c.if-is_complete.true), refl)

pub returns : goal.returns
returns c =
    (subst (λ (f : Fault). Fails f (next_at (place c.args.self.now))) (sym c.fault.ensures) (ends_early (place c.args.self.now) c.requires (sym c.is_complete.ensures ∙ c.if-is_complete.false)), refl)
