use Rattle.std.proofs.Common.{◌≡◌, ◌+◌, ap, refl, ◌∙◌, List, ℕ, length, arith}
use Rattle.std.specs.Io.KnownBytes.{prepend_known}
use Rattle.std.proofs.KnownBytes.{prepend_known-nil}
use Rattle.droid_lines.specs.Sending.{SendsFront}
use Rattle.droid_lines.specs.declared.send_fault.SendFault.TheVariants.{Memory}
use Rattle.droid_lines.proofs.PassingOn.{came_from, of_reading, passed_on, stops_not_reading, reported_unless}
use Rattle.droid_frame.proofs.Scopes.{counts_begin, reported_none}
use Rattle.droid_frame.specs.InTurn.{AtMost}
use Rattle.droid_frame.proofs.InTurn.{over_next, over_none, reported_idle, reported_next}
use Rattle.droid_lines.specs.Lines.{lines_of}
use Rattle.droid_lines.specs.declared.tally.Tally.{Tally}
use Rattle.droid_lines.proofs.Tallies.{bad_within}
use Rattle.droid_lines.specs.Along.{ReadsReply, WritesPrinted, WritesRequest}
use Rattle.droid_lines.proofs.LineFaults.{came_of, frames_in_one, printed_whole, read_whole, replies_in_one, reply_of, sent_of, sent_whole, text_in_one}
use Rattle.droid_lines.proofs.Passing.{if_err_same}
use Rattle.droid_lines.proofs.Sent.{gives_found, line_found, lines_within, start, step, stopped, unread_more}
use Rattle.droid_lines.proofs.sender.send.Goals as goal

pub loop-init : goal.loop-init
loop-init g c =
    let script = g.L.Read.remaining c.args.lines.now in
    record {
      so_far = start c.args.client.now script (prepend_known c.new-reader.result script) (g.R.Read.remaining c.args.replies.now) (g.F.Write.contents c.args.frames.now) (g.T.Write.contents c.args.text.now) _
          (ap (λ (held : List ℕ). prepend_known held script) c.new-reader.ensures ∙ prepend_known-nil script) refl refl;
      counted = refl;
      bad = omega arith;
      reads = λ sound. counts_begin (g.L.SteadyRead.seen c.args.lines.now) _ c.new-retries.ensures sound;
      hears = λ sound. over_none g.R.SteadyRead.seen (ReadsReply g.R.Read.remaining) c.args.replies.now _ refl sound;
      sends = λ sound endless. (over_none g.F.SteadyWrite.seen (WritesRequest g.F.Write.contents) c.args.frames.now _ refl sound, endless);
      prints = λ sound endless. (over_none g.T.SteadyWrite.seen (WritesPrinted g.T.Write.contents) c.args.text.now _ refl sound, endless);
    }

pub returns-in_err-line-clause-front : goal.returns-in_err-line-clause-front
returns-in_err-line-clause-front g c =
    let fault = c.in_err-line.field-0.0 in
    if_err_same c.from_residual.result fault
    (λ f. SendsFront f c.args.client.now (g.L.Read.remaining c.args.lines.now) (g.R.Read.remaining c.args.replies.now) (g.R.Read.remaining c.loop.replies) (g.F.Write.contents c.args.frames.now)
    (g.F.Write.contents c.loop.frames) (g.T.Write.contents c.args.text.now) (g.T.Write.contents c.loop.text) c.loop.client)
    c.from_residual.ensures.1 (unread_more fault c.args.client.now c.loop.client _ _ _ _ _ _ _ _ c.loop.tally c.in_err-line.ensures.faults c.loop.invariant.so_far)

pub returns-in_err-line-clause-lines_fault : goal.returns-in_err-line-clause-lines_fault
returns-in_err-line-clause-lines_fault g c = λ sound.
    let passed = c.from_residual.ensures.1 in
    let fault = c.in_err-line.field-0.0 in
    reported_unless _ _ c.next_line.new.retries _ _ (c.in_err-line.ensures.counts _ (c.loop.invariant.reads sound)) (λ e. passed_on _ fault _ passed e) (λ e. came_from _ fault _ passed e)

pub returns-in_default-clause-lines_fault : goal.returns-in_default-clause-lines_fault
returns-in_default-clause-lines_fault g c = λ sound.
    reported_unless _ _ c.next_line.new.retries _ _ (c.in_ok-line.ensures.counts _ (c.loop.invariant.reads sound)) (λ e. absurd cc) (λ e. absurd cc)

pub returns-clause-lines_fault : goal.returns-clause-lines_fault
returns-clause-lines_fault g c = λ sound. reported_none _ _ c.loop.retries _ (λ e. absurd cc) (c.loop.invariant.reads sound)

pub returns-in_err-is_bad-clause-front : goal.returns-in_err-is_bad-clause-front
returns-in_err-is_bad-clause-front g c =
    let fault = c.in_err-is_bad.field-0.0 in
    let line = c.as_slice.result.now in
    let rest = prepend_known c.loop.reader (g.L.Read.remaining c.loop.lines) in
    let more = prepend_known c.next_line.new.self (g.L.Read.remaining c.next_line.new.reader) in
    let gives = gives_found (λ line. line.items) rest more c.in_ok-line.field-0 c.in-Some.line line c.in-Some.is c.as_slice.ensures.value c.in_ok-line.ensures.line in
    if_err_same c.from_residual-in_err-is_bad.result fault
    (λ f. SendsFront f c.args.client.now (g.L.Read.remaining c.args.lines.now) (g.R.Read.remaining c.args.replies.now) (g.R.Read.remaining c.send_line.new.replies) (g.F.Write.contents c.args.frames.now)
    (g.F.Write.contents c.send_line.new.frames) (g.T.Write.contents c.args.text.now) (g.T.Write.contents c.send_line.new.text) c.send_line.new.client)
    c.from_residual-in_err-is_bad.ensures.1
    (stopped fault c.args.client.now c.loop.client c.send_line.new.client _ rest more _ _ _ _ _ _ _ _ _ line c.loop.tally c.loop.invariant.so_far gives c.in_err-is_bad.ensures.stops)

pub returns-in_err-is_bad-clause-lines_fault : goal.returns-in_err-is_bad-clause-lines_fault
returns-in_err-is_bad-clause-lines_fault g c = λ sound.
    let fault = c.in_err-is_bad.field-0.0 in
    reported_none _ _ c.next_line.new.retries _ (λ e. stops_not_reading _ fault _ _ _ _ _ _ _ _ _ c.from_residual-in_err-is_bad.ensures.1 c.in_err-is_bad.ensures.stops e)
    ((c.in_ok-line.ensures.counts _ (c.loop.invariant.reads sound)).otherwise (λ e. absurd cc))

pub returns-in_err-is_bad-clause-replies_fault : goal.returns-in_err-is_bad-clause-replies_fault
returns-in_err-is_bad-clause-replies_fault g c = λ sound.
    let now = c.loop.invariant.hears sound in
    let passed = c.from_residual-in_err-is_bad.ensures.1 in
    let fault = c.in_err-is_bad.field-0.0 in
    let line = c.as_slice.result.now in
    let rest = prepend_known c.loop.reader (g.L.Read.remaining c.loop.lines) in
    let more = prepend_known c.next_line.new.self (g.L.Read.remaining c.next_line.new.reader) in
    let gives = gives_found (λ line. line.items) rest more c.in_ok-line.field-0 c.in-Some.line line c.in-Some.is c.as_slice.ensures.value c.in_ok-line.ensures.line in
    reported_next g.R.SteadyRead.seen (ReadsReply g.R.Read.remaining) (AtMost (g.L.Read.remaining c.args.lines.now) (λ script. length (lines_of script))) c.args.replies.now c.loop.replies c.send_line.new.replies c.loop.tally.lines _ _ now
    (lines_within c.args.client.now c.loop.client _ _ _ _ _ _ _ _ c.loop.tally c.loop.invariant.so_far)
    (line_found c.args.client.now c.loop.client _ rest more _ _ _ _ _ _ line c.loop.tally c.loop.invariant.so_far gives)
    (replies_in_one g.R.SteadyRead.seen g.R.Read.remaining c.loop.replies c.send_line.new.replies fault c.loop.client line _ _ _ _ c.send_line.new.client c.in_err-is_bad.ensures.stops
    (c.in_err-is_bad.ensures.replies_fault now.sound)) (λ e. passed_on _ fault _ passed e) (λ e. came_from _ fault _ passed e)

pub returns-in_err-line-clause-replies_fault : goal.returns-in_err-line-clause-replies_fault
returns-in_err-line-clause-replies_fault g c = λ sound.
    let now = c.loop.invariant.hears sound in
    reported_idle g.R.SteadyRead.seen (ReadsReply g.R.Read.remaining) (AtMost (g.L.Read.remaining c.args.lines.now) (λ script. length (lines_of script))) c.args.replies.now c.loop.replies c.loop.tally.lines _ now
    (lines_within c.args.client.now c.loop.client _ _ _ _ _ _ _ _ c.loop.tally c.loop.invariant.so_far)
    (λ e. of_reading _ c.in_err-line.field-0.0 _ c.from_residual.ensures.1 c.in_err-line.ensures.faults e)

pub returns-in_default-clause-replies_fault : goal.returns-in_default-clause-replies_fault
returns-in_default-clause-replies_fault g c = λ sound.
    let now = c.loop.invariant.hears sound in
    reported_idle g.R.SteadyRead.seen (ReadsReply g.R.Read.remaining) (AtMost (g.L.Read.remaining c.args.lines.now) (λ script. length (lines_of script))) c.args.replies.now c.loop.replies c.loop.tally.lines _ now
    (lines_within c.args.client.now c.loop.client _ _ _ _ _ _ _ _ c.loop.tally c.loop.invariant.so_far) (λ e. absurd cc)

pub returns-clause-replies_fault : goal.returns-clause-replies_fault
returns-clause-replies_fault g c = λ sound.
    let now = c.loop.invariant.hears sound in
    reported_idle g.R.SteadyRead.seen (ReadsReply g.R.Read.remaining) (AtMost (g.L.Read.remaining c.args.lines.now) (λ script. length (lines_of script))) c.args.replies.now c.loop.replies c.loop.tally.lines _ now
    (lines_within c.args.client.now c.loop.client _ _ _ _ _ _ _ _ c.loop.tally c.loop.invariant.so_far) (λ e. absurd cc)

pub returns-in_err-is_bad-clause-frames_fault : goal.returns-in_err-is_bad-clause-frames_fault
returns-in_err-is_bad-clause-frames_fault g c = λ sound endless.
    let now = c.loop.invariant.sends sound endless in
    let passed = c.from_residual-in_err-is_bad.ensures.1 in
    let fault = c.in_err-is_bad.field-0.0 in
    let line = c.as_slice.result.now in
    let rest = prepend_known c.loop.reader (g.L.Read.remaining c.loop.lines) in
    let more = prepend_known c.next_line.new.self (g.L.Read.remaining c.next_line.new.reader) in
    let gives = gives_found (λ line. line.items) rest more c.in_ok-line.field-0 c.in-Some.line line c.in-Some.is c.as_slice.ensures.value c.in_ok-line.ensures.line in
    reported_next g.F.SteadyWrite.seen (WritesRequest g.F.Write.contents) (AtMost (g.L.Read.remaining c.args.lines.now) (λ script. length (lines_of script))) c.args.frames.now c.loop.frames c.send_line.new.frames c.loop.tally.lines _ _ now.0
    (lines_within c.args.client.now c.loop.client _ _ _ _ _ _ _ _ c.loop.tally c.loop.invariant.so_far)
    (line_found c.args.client.now c.loop.client _ rest more _ _ _ _ _ _ line c.loop.tally c.loop.invariant.so_far gives)
    (frames_in_one g.F.SteadyWrite.seen g.F.Write.contents c.loop.frames c.send_line.new.frames fault c.loop.client line _ _ _ _ c.send_line.new.client c.in_err-is_bad.ensures.stops
    ((c.in_err-is_bad.ensures.frames_fault now.0.sound now.1).0)) (λ e. passed_on _ fault _ passed e) (λ e. came_from _ fault _ passed e)

pub returns-in_err-line-clause-frames_fault : goal.returns-in_err-line-clause-frames_fault
returns-in_err-line-clause-frames_fault g c = λ sound endless.
    let now = c.loop.invariant.sends sound endless in
    reported_idle g.F.SteadyWrite.seen (WritesRequest g.F.Write.contents) (AtMost (g.L.Read.remaining c.args.lines.now) (λ script. length (lines_of script))) c.args.frames.now c.loop.frames c.loop.tally.lines _ now.0
    (lines_within c.args.client.now c.loop.client _ _ _ _ _ _ _ _ c.loop.tally c.loop.invariant.so_far)
    (λ e. of_reading _ c.in_err-line.field-0.0 _ c.from_residual.ensures.1 c.in_err-line.ensures.faults e)

pub returns-in_default-clause-frames_fault : goal.returns-in_default-clause-frames_fault
returns-in_default-clause-frames_fault g c = λ sound endless.
    let now = c.loop.invariant.sends sound endless in
    reported_idle g.F.SteadyWrite.seen (WritesRequest g.F.Write.contents) (AtMost (g.L.Read.remaining c.args.lines.now) (λ script. length (lines_of script))) c.args.frames.now c.loop.frames c.loop.tally.lines _ now.0
    (lines_within c.args.client.now c.loop.client _ _ _ _ _ _ _ _ c.loop.tally c.loop.invariant.so_far) (λ e. absurd cc)

pub returns-clause-frames_fault : goal.returns-clause-frames_fault
returns-clause-frames_fault g c = λ sound endless.
    let now = c.loop.invariant.sends sound endless in
    reported_idle g.F.SteadyWrite.seen (WritesRequest g.F.Write.contents) (AtMost (g.L.Read.remaining c.args.lines.now) (λ script. length (lines_of script))) c.args.frames.now c.loop.frames c.loop.tally.lines _ now.0
    (lines_within c.args.client.now c.loop.client _ _ _ _ _ _ _ _ c.loop.tally c.loop.invariant.so_far) (λ e. absurd cc)

pub returns-in_err-is_bad-clause-text_fault : goal.returns-in_err-is_bad-clause-text_fault
returns-in_err-is_bad-clause-text_fault g c = λ sound endless.
    let now = c.loop.invariant.prints sound endless in
    let passed = c.from_residual-in_err-is_bad.ensures.1 in
    let fault = c.in_err-is_bad.field-0.0 in
    let line = c.as_slice.result.now in
    let rest = prepend_known c.loop.reader (g.L.Read.remaining c.loop.lines) in
    let more = prepend_known c.next_line.new.self (g.L.Read.remaining c.next_line.new.reader) in
    let gives = gives_found (λ line. line.items) rest more c.in_ok-line.field-0 c.in-Some.line line c.in-Some.is c.as_slice.ensures.value c.in_ok-line.ensures.line in
    reported_next g.T.SteadyWrite.seen (WritesPrinted g.T.Write.contents) (AtMost (g.L.Read.remaining c.args.lines.now) (λ script. length (lines_of script))) c.args.text.now c.loop.text c.send_line.new.text c.loop.tally.lines _ _ now.0
    (lines_within c.args.client.now c.loop.client _ _ _ _ _ _ _ _ c.loop.tally c.loop.invariant.so_far)
    (line_found c.args.client.now c.loop.client _ rest more _ _ _ _ _ _ line c.loop.tally c.loop.invariant.so_far gives)
    (text_in_one g.T.SteadyWrite.seen g.T.Write.contents c.loop.text c.send_line.new.text fault c.loop.client line _ _ _ _ c.send_line.new.client c.in_err-is_bad.ensures.stops
    ((c.in_err-is_bad.ensures.text_fault now.0.sound now.1).0)) (λ e. passed_on _ fault _ passed e) (λ e. came_from _ fault _ passed e)

pub returns-in_err-line-clause-text_fault : goal.returns-in_err-line-clause-text_fault
returns-in_err-line-clause-text_fault g c = λ sound endless.
    let now = c.loop.invariant.prints sound endless in
    reported_idle g.T.SteadyWrite.seen (WritesPrinted g.T.Write.contents) (AtMost (g.L.Read.remaining c.args.lines.now) (λ script. length (lines_of script))) c.args.text.now c.loop.text c.loop.tally.lines _ now.0
    (lines_within c.args.client.now c.loop.client _ _ _ _ _ _ _ _ c.loop.tally c.loop.invariant.so_far)
    (λ e. of_reading _ c.in_err-line.field-0.0 _ c.from_residual.ensures.1 c.in_err-line.ensures.faults e)

pub returns-in_default-clause-text_fault : goal.returns-in_default-clause-text_fault
returns-in_default-clause-text_fault g c = λ sound endless.
    let now = c.loop.invariant.prints sound endless in
    reported_idle g.T.SteadyWrite.seen (WritesPrinted g.T.Write.contents) (AtMost (g.L.Read.remaining c.args.lines.now) (λ script. length (lines_of script))) c.args.text.now c.loop.text c.loop.tally.lines _ now.0
    (lines_within c.args.client.now c.loop.client _ _ _ _ _ _ _ _ c.loop.tally c.loop.invariant.so_far) (λ e. absurd cc)

pub returns-clause-text_fault : goal.returns-clause-text_fault
returns-clause-text_fault g c = λ sound endless.
    let now = c.loop.invariant.prints sound endless in
    reported_idle g.T.SteadyWrite.seen (WritesPrinted g.T.Write.contents) (AtMost (g.L.Read.remaining c.args.lines.now) (λ script. length (lines_of script))) c.args.text.now c.loop.text c.loop.tally.lines _ now.0
    (lines_within c.args.client.now c.loop.client _ _ _ _ _ _ _ _ c.loop.tally c.loop.invariant.so_far) (λ e. absurd cc)

pub loop-preserved : goal.loop-preserved
loop-preserved g c =
    let line = c.as_slice.result.now in
    let rest = prepend_known c.loop.reader (g.L.Read.remaining c.loop.lines) in
    let more = prepend_known c.next_line.new.self (g.L.Read.remaining c.next_line.new.reader) in
    let gives = gives_found (λ line. line.items) rest more c.in_ok-line.field-0 c.in-Some.line line c.in-Some.is c.as_slice.ensures.value c.in_ok-line.ensures.line in
    let bad = c.in_ok-is_bad.is_bad in
    let done = c.in_ok-is_bad.ensures.done in
    let counted = c.count.ensures in
    let next : c.count.new.self.lines ≡ c.loop.tally.lines + 1 = ap (λ (t : Tally). t.lines) counted in
    record {
      so_far = rw counted (step c.args.client.now c.loop.client c.send_line.new.client _ rest more _ _ _ _ _ _ _ _ _ line bad c.loop.tally c.loop.invariant.so_far gives done);
      counted = next ∙ ap (λ (n : ℕ). n + 1) c.loop.invariant.counted;
      bad = rw counted (bad_within bad c.loop.tally c.loop.invariant.bad);
      reads = λ sound. (c.in_ok-line.ensures.counts _ (c.loop.invariant.reads sound)).otherwise (λ e. absurd cc);
      hears = λ sound.
          let now = c.loop.invariant.hears sound in
          over_next g.R.SteadyRead.seen (ReadsReply g.R.Read.remaining) c.args.replies.now c.loop.replies c.send_line.new.replies c.loop.tally.lines c.count.new.self.lines (came_of done.exchange) next now (read_whole done.exchange _ _ done.read)
          ((c.in_ok-is_bad.ensures.replies_fault now.sound).otherwise (λ e. absurd cc));
      sends = λ sound endless.
          let now = c.loop.invariant.sends sound endless in
          let reported = c.in_ok-is_bad.ensures.frames_fault now.0.sound now.1 in (
            over_next g.F.SteadyWrite.seen (WritesRequest g.F.Write.contents) c.args.frames.now c.loop.frames c.send_line.new.frames c.loop.tally.lines c.count.new.self.lines (sent_of done.exchange) next now.0 (sent_whole done.exchange _ _ done.frames)
                (reported.0.otherwise (λ e. absurd cc)),
            reported.1,
          );
      prints = λ sound endless.
          let now = c.loop.invariant.prints sound endless in
          let reported = c.in_ok-is_bad.ensures.text_fault now.0.sound now.1 in (
            over_next g.T.SteadyWrite.seen (WritesPrinted g.T.Write.contents) c.args.text.now c.loop.text c.send_line.new.text c.loop.tally.lines c.count.new.self.lines (reply_of done.exchange) next now.0 (printed_whole done.exchange _ _ done.text)
                (reported.0.otherwise (λ e. absurd cc)),
            reported.1,
          );
    }

pub returns-clause-front : goal.returns-clause-front
returns-clause-front g c = unread_more Memory c.args.client.now c.loop.client _ _ _ _ _ _ _ _ c.loop.tally tt c.loop.invariant.so_far
