use Rattle.std.proofs.Common.{refl, sym, ap, subst, ◌∙◌}
use Rattle.droid_xml.specs.Documents.{next_at}
use Rattle.droid_xml.specs.Nestings.{Nesting}
use Rattle.droid_xml.specs.Outcomes.{Fails}
use Rattle.droid_xml.specs.Views.{nesting, part, place}
use Rattle.droid_xml.specs.declared.problem.Fault.{Fault}
use Rattle.droid_xml.proofs.Steps.{nesting_fails, piece_comes, piece_fails}
use Rattle.droid_xml.proofs.reader.Reader.next.Goals as goal

pub returns-in-Err : goal.returns-in-Err
returns-in-Err c =
    (subst (λ (f : Fault). Fails f (next_at (place c.args.self.now))) (sym c.fault.ensures) (piece_fails (place c.args.self.now) c.in-Err.stop (sym c.is_empty.ensures ∙ c.if-is_empty.false) c.in-Err.ensures), refl)

pub returns-in-Err-take : goal.returns-in-Err-take
returns-in-Err-take c = (
  subst (λ (f : Fault). Fails f (next_at (place c.args.self.now))) (sym c.fault-in-Err-take.ensures) (nesting_fails (place c.args.self.now) (part c.in-Ok.found.0, c.in-Ok.found.1.now) c.in-Err-take.stop (sym c.is_empty.ensures ∙ c.if-is_empty.false) c.in-Ok.ensures c.in-Err-take.ensures.0),
  ap (λ (n : Nesting). record { text = c.args.self.now.text.now; rest = c.args.self.now.rest.now; nesting = n }) c.in-Err-take.ensures.1,
)

pub returns : goal.returns
returns c =
    piece_comes (place c.args.self.now) (part c.in-Ok.found.0, c.in-Ok.found.1.now) (nesting c.take.new.self) (sym c.is_empty.ensures ∙ c.if-is_empty.false) c.in-Ok.ensures c.in-Ok-take.ensures
