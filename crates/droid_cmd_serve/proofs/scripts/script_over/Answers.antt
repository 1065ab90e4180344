use Rattle.std.proofs.Common.{[], length, IfErr, IfSome, ap}
use Rattle.std.specs.Io.KnownBytes.{Keeps}
use Rattle.droid_cmd_serve.specs.Endings.{ending_of, EndsAs}
use Rattle.droid_script.specs.Scripts.{IsOfReading, WritesAnswer}
use Rattle.droid_cmd_serve.proofs.ScriptEndings.{ends, if_err_then, keeps_same, of_end, to_end}
use Rattle.droid_frame.specs.InTurn.{AtMost}
use Rattle.droid_frame.proofs.InTurn.{reported_as}
use Rattle.droid_lines.specs.Lines.{lines_of}
use Rattle.droid_cmd_serve.proofs.scripts.script_over.Goals as goal

pub returns-clause-ends : goal.returns-clause-ends
returns-clause-ends g c = λ setting empty.
    let old = g.W.Write.contents c.args.writer.now in
    let new = g.W.Write.contents c.script-outcome.new.writer in
    let result = c.script-outcome.result in
    let before : IfErr result (λ fault. IsOfReading fault → Keeps old new) =
    if_err_then result _ (λ fault. IsOfReading fault → Keeps old new) c.script-outcome.ensures.before (λ fault same reading. keeps_same old new (ap g.W.Write.contents (same reading).1)) in
    let known = g.R.Read.remaining c.args.reader.now in
    let ended : IfSome known (λ input. EndsAs setting (ending_of result) input old new) =
    ends known result setting c.script-outcome.new.service old new (c.script-outcome.ensures.all setting [] empty) c.script-outcome.ensures.tally
    (c.script-outcome.ensures.front setting [] empty) before c.script-outcome.ensures.too_long in
    rw c.end_of.ensures ended

pub returns-clause-write_fault : goal.returns-clause-write_fault
returns-clause-write_fault g c = λ sound endless.
    rw c.end_of.ensures (reported_as g.W.SteadyWrite.seen (WritesAnswer g.W.Write.contents) (AtMost (g.R.Read.remaining c.args.reader.now) (λ script. length (lines_of script))) c.args.writer.now c.script-outcome.new.writer _ _
    (c.script-outcome.ensures.write_fault sound endless) (of_end c.script-outcome.result _) (to_end c.script-outcome.result _))
