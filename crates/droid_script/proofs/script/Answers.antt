use Rattle.std.proofs.Common.{◌≡◌, ◌≤◌, List, ℕ, IfSome, length, refl, arith}
use Rattle.droid_script.specs.declared.script_fault.ScriptFault.{ScriptFault}
use Rattle.droid_lines.specs.Lines.{lines_of}
use Rattle.droid_script.specs.Scripts.{RunsFront, IsOfHandling, WritesAnswer}
use Rattle.droid_frame.specs.InTurn.{AtMost}
use Rattle.droid_frame.proofs.InTurn.{over_none, reported_idle, reported_within}
use Rattle.droid_script.proofs.Runs.{goes_nowhere, goes_on, runs_nothing}
use Rattle.droid_script.proofs.Writes.{if_err, if_some, lines_known, no_write}
use Rattle.droid_script.proofs.script.Goals as goal

pub returns-in_err-input-clause-front : goal.returns-in_err-input-clause-front
returns-in_err-input-clause-front g c = λ setting history stands.
    let service = c.args.service.now in
    let bytes = g.W.Write.contents c.args.writer.now in
    let input = g.R.Read.remaining c.args.reader.now in
    let nothing : (text : List ℕ) → RunsFront setting history (lines_of text) service bytes bytes =
    λ text. runs_nothing setting history (lines_of text) service bytes stands in
    let fails : (fault : ScriptFault) → IsOfHandling fault → IfSome input (λ text. RunsFront setting history (lines_of text) service bytes bytes) =
    λ fault handling. if_some input (λ text. RunsFront setting history (lines_of text) service bytes bytes) nothing in
    if_err c.from_residual.result (λ fault. IsOfHandling fault → IfSome input (λ text. RunsFront setting history (lines_of text) service bytes bytes)) fails

pub returns-in_err-input-clause-goes_on : goal.returns-in_err-input-clause-goes_on
returns-in_err-input-clause-goes_on g c = λ setting history stands. goes_nowhere setting history c.args.service.now (g.W.Write.contents c.args.writer.now) stands

pub returns-clause-goes_on : goal.returns-clause-goes_on
returns-clause-goes_on g c = λ setting history stands.
    goes_on c.run_lines.result setting history (lines_of c.as_slice.result.now) c.run_lines.new.service
    (g.W.Write.contents c.args.writer.now) (g.W.Write.contents c.run_lines.new.writer) (c.run_lines.ensures.all setting history stands) (c.run_lines.ensures.front setting history stands)

pub returns-in_err-input-clause-write_fault : goal.returns-in_err-input-clause-write_fault
returns-in_err-input-clause-write_fault g c = λ sound endless.
    let known = g.R.Read.remaining c.args.reader.now in
    reported_idle g.W.SteadyWrite.seen (WritesAnswer g.W.Write.contents) (AtMost known (λ input. length (lines_of input))) c.args.writer.now c.args.writer.now 0 _
    (over_none g.W.SteadyWrite.seen (WritesAnswer g.W.Write.contents) c.args.writer.now 0 refl sound) (if_some known (λ text. 0 ≤ length (lines_of text)) (λ text. omega arith))
    (no_write c.from_residual.result c.in_err-input.field-0.0 c.from_residual.ensures.1)

pub returns-clause-write_fault : goal.returns-clause-write_fault
returns-clause-write_fault g c = λ sound endless.
    let known = g.R.Read.remaining c.args.reader.now in
    let same : IfSome known (λ bytes. c.as_slice.result.now ≡ bytes) = rw c.as_slice.ensures.value c.in_ok-input.ensures.whole in
    reported_within g.W.SteadyWrite.seen (WritesAnswer g.W.Write.contents) (λ (count : ℕ). count ≤ length (lines_of c.as_slice.result.now)) (AtMost known (λ input. length (lines_of input))) c.args.writer.now c.run_lines.new.writer _
    (c.run_lines.ensures.reported sound endless) (λ count few. lines_known known c.as_slice.result.now count same few)
