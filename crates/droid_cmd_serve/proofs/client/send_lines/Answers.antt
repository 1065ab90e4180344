use Rattle.droid_cmd_serve.proofs.SendEndings.{of_end, send_ends, reported_end, to_end}
use Rattle.droid_frame.specs.InTurn.{AtMost}
use Rattle.droid_frame.proofs.InTurn.{reported_as}
use Rattle.droid_lines.specs.Lines.{lines_of}
use Rattle.droid_lines.specs.Along.{ReadsReply, WritesPrinted, WritesRequest}
use Rattle.std.proofs.Common.{length}
use Rattle.droid_cmd_serve.proofs.client.send_lines.Goals as goal

pub returns-clause-ends : goal.returns-clause-ends
returns-clause-ends g c =
    rw c.end_of.ensures (rw c.new-core.ensures at (send_ends _ c.send-outcome.new.client c.send-outcome.result _ _ _ _ _ _ _ c.send-outcome.ensures.all c.send-outcome.ensures.front))

pub returns-clause-lines_fault : goal.returns-clause-lines_fault
returns-clause-lines_fault g c = λ sound. rw c.end_of.ensures (reported_end _ _ c.send-outcome.result _ (c.send-outcome.ensures.lines_fault sound))

pub returns-clause-replies_fault : goal.returns-clause-replies_fault
returns-clause-replies_fault g c = λ sound.
    rw c.end_of.ensures (reported_as g.R.SteadyRead.seen (ReadsReply g.R.Read.remaining) (AtMost (g.L.Read.remaining c.args.lines.now) (λ script. length (lines_of script))) c.args.replies.now c.send-outcome.new.replies _ _
    (c.send-outcome.ensures.replies_fault sound) (of_end c.send-outcome.result _) (to_end c.send-outcome.result _))

pub returns-clause-frames_fault : goal.returns-clause-frames_fault
returns-clause-frames_fault g c = λ sound endless.
    rw c.end_of.ensures (reported_as g.F.SteadyWrite.seen (WritesRequest g.F.Write.contents) (AtMost (g.L.Read.remaining c.args.lines.now) (λ script. length (lines_of script))) c.args.frames.now c.send-outcome.new.frames _ _
    (c.send-outcome.ensures.frames_fault sound endless) (of_end c.send-outcome.result _) (to_end c.send-outcome.result _))

pub returns-clause-text_fault : goal.returns-clause-text_fault
returns-clause-text_fault g c = λ sound endless.
    rw c.end_of.ensures (reported_as g.T.SteadyWrite.seen (WritesPrinted g.T.Write.contents) (AtMost (g.L.Read.remaining c.args.lines.now) (λ script. length (lines_of script))) c.args.text.now c.send-outcome.new.text _ _
    (c.send-outcome.ensures.text_fault sound endless) (of_end c.send-outcome.result _) (to_end c.send-outcome.result _))
