use Rattle.std.proofs.Common.{◌≡◌, ◌+◌, [], ◌++◌, length, ap, refl, subst, arith}
use Rattle.std.proofs.lemmas.List.{append-nil, length-append}
use Rattle.std.specs.Io.KnownBytes.{Appends}
use Rattle.std.proofs.KnownBytes.{Appends-trans}
use Rattle.droid_frame.specs.declared.io.stream_fault.WriteFault.{WriteFault}
use Rattle.droid_frame.specs.Writes.{StopsWithin, Takes}
use Rattle.droid_frame.proofs.Scopes.{counts_begin}
use Rattle.droid_frame.proofs.Stopping.{reported_stop}
use Rattle.droid_frame.specs.Frames.{frame_bytes}
use Rattle.droid_frame.specs.StreamWrites.{Stops}
use Rattle.droid_frame.proofs.StreamEnds.{first_room, reported_last, within_part}
use Rattle.droid_frame.proofs.StreamWrites.{Sent, sent_nothing, sent_more, stops_after, passed_on, on_ok, if_err}
use Rattle.droid_frame.proofs.streams.frame_writer.write_frame.Goals as goal

pub returns-in_err-write_all-clause-err : goal.returns-in_err-write_all-clause-err
returns-in_err-write_all-clause-err g c =
    let frame = c.args.frame.now in
    let old = g.W.Write.contents c.args.writer.now in
    let new = g.W.Write.contents c.write_all.new.writer in
    let fault = c.in_err-write_all.field-0.0 in
    let parts : frame_bytes frame ≡ [] ++ (c.to_bytes.result ++ frame.body) = rw (c.to_bytes.ensures, c.len.ensures) refl in
    passed_on c.from_residual.result fault (λ (f : WriteFault). Stops old new (frame_bytes frame) f.written) c.from_residual.ensures.1
    (stops_after old old new [] c.to_bytes.result frame.body (frame_bytes frame) c.new-progress.result.written fault.written (sent_nothing old _ c.new-progress.ensures.written) c.in_err-write_all.ensures.err parts)

pub returns-in_err-write_all-clause-failed : goal.returns-in_err-write_all-clause-failed
returns-in_err-write_all-clause-failed g c = λ sound.
    let frame = c.args.frame.now in
    let old = g.W.Write.contents c.args.writer.now in
    let new = g.W.Write.contents c.write_all.new.writer in
    let fault = c.in_err-write_all.field-0.0 in
    let start = (g.W.SteadyWrite.seen c.args.writer.now).interruptions in
    let none = c.new-progress.ensures.written in
    let parts : frame_bytes frame ≡ [] ++ (c.to_bytes.result ++ frame.body) = rw (c.to_bytes.ensures, c.len.ensures) refl in
    let stops : Stops old new (frame_bytes frame) fault.written =
    stops_after old old new [] c.to_bytes.result frame.body (frame_bytes frame) c.new-progress.result.written fault.written (sent_nothing old _ none) c.in_err-write_all.ensures.err parts in
    reported_stop start _ _ _ fault.written _ _ c.from_residual.ensures.0 (first_room _ _ c.new-progress.result.written fault.written none c.in_err-write_all.ensures.room_err) stops.some_left
    (c.in_err-write_all.ensures.counts start (counts_begin _ _ c.new-progress.ensures.retries sound))

pub returns-clause-ok : goal.returns-clause-ok
returns-clause-ok g c =
    let frame = c.args.frame.now in
    let old = g.W.Write.contents c.args.writer.now in
    let mid = g.W.Write.contents c.write_all.new.writer in
    let new = g.W.Write.contents c.write_all-2.new.writer in
    let parts : c.to_bytes.result ++ c.as_slice.result.now ≡ frame_bytes frame = rw (c.to_bytes.ensures, c.len.ensures, c.as_slice.ensures.value) refl in
    on_ok c.write_all-2.result (Appends mid new c.as_slice.result.now) (Appends old new (frame_bytes frame))
    (λ more. subst (Appends old new) parts (Appends-trans old mid new c.to_bytes.result c.as_slice.result.now c.in_ok-write_all.ensures.ok more)) c.write_all-2.ensures.ok

pub returns-clause-err : goal.returns-clause-err
returns-clause-err g c =
    let frame = c.args.frame.now in
    let body = c.as_slice.result.now in
    let header = c.to_bytes.result in
    let old = g.W.Write.contents c.args.writer.now in
    let mid = g.W.Write.contents c.write_all.new.writer in
    let new = g.W.Write.contents c.write_all-2.new.writer in
    let before = c.write_all.new.progress.written in
    let parts : frame_bytes frame ≡ header ++ (body ++ []) = rw (append-nil body, c.to_bytes.ensures, c.len.ensures, c.as_slice.ensures.value) refl in
    let sent : Sent old mid header before = sent_more old old mid [] header c.new-progress.result.written before (sent_nothing old _ c.new-progress.ensures.written) c.in_ok-write_all.ensures.ok c.in_ok-write_all.ensures.counted in
    if_err c.write_all-2.result (λ (f : WriteFault). StopsWithin mid new body before f.written) (λ (f : WriteFault). Stops old new (frame_bytes frame) f.written)
    (λ f stops. stops_after old mid new header body [] (frame_bytes frame) before f.written sent stops parts) c.write_all-2.ensures.err

pub returns-clause-failed : goal.returns-clause-failed
returns-clause-failed g c = λ sound.
    let frame = c.args.frame.now in
    let body = c.as_slice.result.now in
    let header = c.to_bytes.result in
    let mid = g.W.Write.contents c.write_all.new.writer in
    let new = g.W.Write.contents c.write_all-2.new.writer in
    let before = c.write_all.new.progress.written in
    let start = (g.W.SteadyWrite.seen c.args.writer.now).interruptions in
    let sent : before ≡ length header = omega (arith, c.in_ok-write_all.ensures.counted, c.new-progress.ensures.written) in
    let room : Takes (g.W.SteadyWrite.room c.args.writer.now) (g.W.SteadyWrite.room c.write_all.new.writer) before = rw sent c.in_ok-write_all.ensures.room_ok in
    let parts : header ++ body ≡ frame_bytes frame = rw (c.to_bytes.ensures, c.len.ensures, c.as_slice.ensures.value) refl in
    let size : length (frame_bytes frame) ≡ before + length body = omega (arith, ap length parts, sent, length-append header body) in
    reported_last start _ _ _ _ before (length body) _ _ c.write_all-2.result room size c.write_all-2.ensures.room_ok c.write_all-2.ensures.room_err
    (within_part mid new body before (length (frame_bytes frame)) c.write_all-2.result size c.write_all-2.ensures.err)
    (c.write_all-2.ensures.counts start (c.in_ok-write_all.ensures.counts start (counts_begin _ _ c.new-progress.ensures.retries sound)))
