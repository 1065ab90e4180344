use Rattle.droid_turns.specs.Pipes.{PipeDoes, rules_of_one}
use Rattle.droid_wire.proofs.ServiceSteps.{all_as, always_settled, events_so, same_limits, same_registry, serves_so}
use Rattle.droid_wire.proofs.service_stream.answer_service.Goals as goal

pub returns-clause-answers : goal.returns-clause-answers
returns-clause-answers g c = λ setting history stands.
    let so = serves_so (PipeDoes g.R.Read.remaining g.W.Write.contents g.R.SteadyRead.seen g.W.SteadyWrite.seen g.W.SteadyWrite.room) _ setting history c.args.pipe.now c.answer_pipe.new.pipe c.args.handler.now c.answer_pipe.new.handler stands c.answer_pipe.ensures in
    record { steps = c.answer_pipe.ensures.steps; done = so.0; one = c.answer_pipe.ensures.holds; runs = so.1 }

pub returns-clause-stream : goal.returns-clause-stream
returns-clause-stream g c =
    let done = events_so (PipeDoes g.R.Read.remaining g.W.Write.contents g.R.SteadyRead.seen g.W.SteadyWrite.seen g.W.SteadyWrite.room) _ c.args.pipe.now c.answer_pipe.new.pipe c.args.handler.now c.answer_pipe.new.handler c.answer_pipe.ensures in
    record { steps = c.answer_pipe.ensures.steps; done = done; one = c.answer_pipe.ensures.holds }

pub returns-clause-settled : goal.returns-clause-settled
returns-clause-settled g c =
    let does = PipeDoes g.R.Read.remaining g.W.Write.contents g.R.SteadyRead.seen g.W.SteadyWrite.seen g.W.SteadyWrite.room in
    always_settled does rules_of_one c.args.pipe.now c.answer_pipe.new.pipe c.args.handler.now c.answer_pipe.new.handler c.answer_pipe.result
    (all_as does _ rules_of_one c.args.pipe.now c.answer_pipe.new.pipe c.args.handler.now c.answer_pipe.new.handler c.answer_pipe.result c.answer_pipe.ensures (λ steps one. one.serves))

pub returns-clause-limits : goal.returns-clause-limits
returns-clause-limits g c =
    let does = PipeDoes g.R.Read.remaining g.W.Write.contents g.R.SteadyRead.seen g.W.SteadyWrite.seen g.W.SteadyWrite.room in
    same_limits does rules_of_one c.args.pipe.now c.answer_pipe.new.pipe c.args.handler.now c.answer_pipe.new.handler c.answer_pipe.result
    (all_as does _ rules_of_one c.args.pipe.now c.answer_pipe.new.pipe c.args.handler.now c.answer_pipe.new.handler c.answer_pipe.result c.answer_pipe.ensures (λ steps one. one.serves))

pub returns-clause-registry : goal.returns-clause-registry
returns-clause-registry g c =
    let does = PipeDoes g.R.Read.remaining g.W.Write.contents g.R.SteadyRead.seen g.W.SteadyWrite.seen g.W.SteadyWrite.room in
    same_registry does rules_of_one c.args.pipe.now c.answer_pipe.new.pipe c.args.handler.now c.answer_pipe.new.handler c.answer_pipe.result
    (all_as does _ rules_of_one c.args.pipe.now c.answer_pipe.new.pipe c.args.handler.now c.answer_pipe.new.handler c.answer_pipe.result c.answer_pipe.ensures (λ steps one. one.serves))
