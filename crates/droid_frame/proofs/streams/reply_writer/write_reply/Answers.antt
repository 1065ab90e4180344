use Rattle.std.proofs.Common.{◌≡◌, ◌≤◌, ◌+◌, ◌++◌, [], length, refl, ◌∙◌, arith}
use Rattle.std.specs.Io.KnownBytes.{Appends}
use Rattle.droid_frame.specs.declared.io.stream_fault.WriteFault.{WriteFault}
use Rattle.droid_frame.specs.Replies.{reply_bytes}
use Rattle.droid_frame.specs.ReplyFrames.{reply_frame}
use Rattle.droid_frame.specs.ReplyFronts.{reply_front, reply_rest}
use Rattle.droid_frame.specs.StreamWrites.{Stops}
use Rattle.droid_frame.specs.Writes.{StopsWithin, Takes}
use Rattle.droid_frame.proofs.Scopes.{counts_begin}
use Rattle.droid_frame.proofs.Stopping.{takes_more, reported_stop}
use Rattle.droid_frame.proofs.StreamEnds.{first_room, takes_before, reported_last, within_part}
use Rattle.droid_frame.proofs.ReplyFronts.{rest_spelled}
use Rattle.droid_frame.proofs.ReplyWrites.{frame_size, all_sent, frame_is, rest_room, stops_in_front, stops_in_header, stops_in_rest}
use Rattle.droid_frame.proofs.StreamWrites.{Sent, if_err, on_ok, passed_on, sent_more, sent_nothing}
use Rattle.droid_frame.proofs.streams.reply_writer.write_reply.Goals as goal

pub returns-in_err-write_all-clause-err : goal.returns-in_err-write_all-clause-err
returns-in_err-write_all-clause-err g c =
    let reply = c.args.reply.now in
    let old = g.W.Write.contents c.args.writer.now in
    let new = g.W.Write.contents c.write_all.new.writer in
    let frame = reply_frame c.args.version c.args.client c.args.number reply in
    let fault = c.in_err-write_all.field-0.0 in
    let is = frame_is c.args.version c.args.client c.args.number c.kind.result c.reply_body_len.result reply c.to_bytes.result (reply_front c.args.version reply) c.kind.ensures c.reply_body_len.ensures.length c.to_bytes.ensures refl in
    passed_on c.from_residual.result fault (λ (f : WriteFault). Stops old new frame f.written) c.from_residual.ensures.1
    (stops_in_header old new frame c.to_bytes.result (reply_front c.args.version reply) (reply_rest reply) _ fault.written is c.new-progress.ensures.written c.in_err-write_all.ensures.err)

pub returns-in_err-write_all-clause-failed : goal.returns-in_err-write_all-clause-failed
returns-in_err-write_all-clause-failed g c = λ sound.
    let reply = c.args.reply.now in
    let old = g.W.Write.contents c.args.writer.now in
    let new = g.W.Write.contents c.write_all.new.writer in
    let frame = reply_frame c.args.version c.args.client c.args.number reply in
    let fault = c.in_err-write_all.field-0.0 in
    let start = (g.W.SteadyWrite.seen c.args.writer.now).interruptions in
    let none = c.new-progress.ensures.written in
    let is = frame_is c.args.version c.args.client c.args.number c.kind.result c.reply_body_len.result reply c.to_bytes.result (reply_front c.args.version reply) c.kind.ensures c.reply_body_len.ensures.length c.to_bytes.ensures refl in
    let stops : Stops old new frame fault.written = stops_in_header old new frame c.to_bytes.result (reply_front c.args.version reply) (reply_rest reply) _ fault.written is none c.in_err-write_all.ensures.err in
    reported_stop start _ _ _ fault.written _ _ c.from_residual.ensures.0 (first_room _ _ c.new-progress.result.written fault.written none c.in_err-write_all.ensures.room_err) stops.some_left
    (c.in_err-write_all.ensures.counts start (counts_begin _ _ c.new-progress.ensures.retries sound))

pub returns-in_err-write_all-2-clause-err : goal.returns-in_err-write_all-2-clause-err
returns-in_err-write_all-2-clause-err g c =
    let reply = c.args.reply.now in
    let old = g.W.Write.contents c.args.writer.now in
    let mid = g.W.Write.contents c.write_all.new.writer in
    let new = g.W.Write.contents c.write_all-2.new.writer in
    let frame = reply_frame c.args.version c.args.client c.args.number reply in
    let header = c.to_bytes.result in
    let front = c.as_slice.result.now in
    let before = c.write_all.new.progress.written in
    let fault = c.in_err-write_all-2.field-0.0 in
    let is = frame_is c.args.version c.args.client c.args.number c.kind.result c.reply_body_len.result reply header front c.kind.ensures c.reply_body_len.ensures.length c.to_bytes.ensures (c.as_slice.ensures ∙ c.front_of.ensures) in
    let sent : Sent old mid header before = sent_more old old mid [] header c.new-progress.result.written before (sent_nothing old _ c.new-progress.ensures.written) c.in_ok-write_all.ensures.ok c.in_ok-write_all.ensures.counted in
    passed_on c.from_residual-in_err-write_all-2.result fault (λ (f : WriteFault). Stops old new frame f.written) c.from_residual-in_err-write_all-2.ensures.1
    (stops_in_front old mid new frame header front (reply_rest reply) before fault.written is sent c.in_err-write_all-2.ensures.err)

pub returns-in_err-write_all-2-clause-failed : goal.returns-in_err-write_all-2-clause-failed
returns-in_err-write_all-2-clause-failed g c = λ sound.
    let reply = c.args.reply.now in
    let old = g.W.Write.contents c.args.writer.now in
    let mid = g.W.Write.contents c.write_all.new.writer in
    let new = g.W.Write.contents c.write_all-2.new.writer in
    let frame = reply_frame c.args.version c.args.client c.args.number reply in
    let header = c.to_bytes.result in
    let front = c.as_slice.result.now in
    let before = c.write_all.new.progress.written in
    let fault = c.in_err-write_all-2.field-0.0 in
    let start = (g.W.SteadyWrite.seen c.args.writer.now).interruptions in
    let is = frame_is c.args.version c.args.client c.args.number c.kind.result c.reply_body_len.result reply header front c.kind.ensures c.reply_body_len.ensures.length c.to_bytes.ensures (c.as_slice.ensures ∙ c.front_of.ensures) in
    let sent : Sent old mid header before = sent_more old old mid [] header c.new-progress.result.written before (sent_nothing old _ c.new-progress.ensures.written) c.in_ok-write_all.ensures.ok c.in_ok-write_all.ensures.counted in
    let stops : Stops old new frame fault.written = stops_in_front old mid new frame header front (reply_rest reply) before fault.written is sent c.in_err-write_all-2.ensures.err in
    let room : Takes (g.W.SteadyWrite.room c.args.writer.now) (g.W.SteadyWrite.room c.write_all.new.writer) before = rw sent.counted c.in_ok-write_all.ensures.room_ok in
    reported_stop start _ _ _ fault.written _ _ c.from_residual-in_err-write_all-2.ensures.0 (takes_before _ _ _ before fault.written room c.in_err-write_all-2.ensures.room_err c.in_err-write_all-2.ensures.err.counts_on) stops.some_left
    (c.in_err-write_all-2.ensures.counts start (c.in_ok-write_all.ensures.counts start (counts_begin _ _ c.new-progress.ensures.retries sound)))

pub write_rest-requires-clause-spelling : goal.write_rest-requires-clause-spelling
write_rest-requires-clause-spelling g c = rest_spelled c.args.version c.args.reply.now c.requires.spelling

pub write_rest-requires-clause-room : goal.write_rest-requires-clause-room
write_rest-requires-clause-room g c =
    let reply = c.args.reply.now in
    let old = g.W.Write.contents c.args.writer.now in
    let mid = g.W.Write.contents c.write_all.new.writer in
    let next = g.W.Write.contents c.write_all-2.new.writer in
    let header = c.to_bytes.result in
    let front = c.as_slice.result.now in
    let before = c.write_all.new.progress.written in
    let after = c.write_all-2.new.progress.written in
    let front_is = c.as_slice.ensures ∙ c.front_of.ensures in
    let is = frame_is c.args.version c.args.client c.args.number c.kind.result c.reply_body_len.result reply header front c.kind.ensures c.reply_body_len.ensures.length c.to_bytes.ensures front_is in
    let sent : Sent old mid header before = sent_more old old mid [] header c.new-progress.result.written before (sent_nothing old _ c.new-progress.ensures.written) c.in_ok-write_all.ensures.ok c.in_ok-write_all.ensures.counted in
    let both : Sent old next (header ++ front) after = sent_more old mid next header front before after sent c.in_ok-write_all-2.ensures.ok c.in_ok-write_all-2.ensures.counted in
    let short : length (reply_bytes c.args.version reply) ≤ 1048640 = omega (arith, c.reply_body_len.ensures.length, c.reply_body_len.ensures.bound) in
    rest_room c.args.version c.args.client c.args.number reply header front after is short front_is both.counted

pub returns-clause-ok : goal.returns-clause-ok
returns-clause-ok g c =
    let reply = c.args.reply.now in
    let old = g.W.Write.contents c.args.writer.now in
    let mid = g.W.Write.contents c.write_all.new.writer in
    let next = g.W.Write.contents c.write_all-2.new.writer in
    let new = g.W.Write.contents c.write_rest.new.writer in
    let frame = reply_frame c.args.version c.args.client c.args.number reply in
    let header = c.to_bytes.result in
    let front = c.as_slice.result.now in
    let before = c.write_all.new.progress.written in
    let after = c.write_all-2.new.progress.written in
    let front_is = c.as_slice.ensures ∙ c.front_of.ensures in
    let is = frame_is c.args.version c.args.client c.args.number c.kind.result c.reply_body_len.result reply header front c.kind.ensures c.reply_body_len.ensures.length c.to_bytes.ensures front_is in
    let sent : Sent old mid header before = sent_more old old mid [] header c.new-progress.result.written before (sent_nothing old _ c.new-progress.ensures.written) c.in_ok-write_all.ensures.ok c.in_ok-write_all.ensures.counted in
    let both : Sent old next (header ++ front) after = sent_more old mid next header front before after sent c.in_ok-write_all-2.ensures.ok c.in_ok-write_all-2.ensures.counted in
    on_ok c.write_rest.result (Appends next new (reply_rest reply)) (Appends old new frame) (all_sent old next new frame header front (reply_rest reply) after is both) c.write_rest.ensures.ok

pub returns-clause-err : goal.returns-clause-err
returns-clause-err g c =
    let reply = c.args.reply.now in
    let old = g.W.Write.contents c.args.writer.now in
    let mid = g.W.Write.contents c.write_all.new.writer in
    let next = g.W.Write.contents c.write_all-2.new.writer in
    let new = g.W.Write.contents c.write_rest.new.writer in
    let frame = reply_frame c.args.version c.args.client c.args.number reply in
    let header = c.to_bytes.result in
    let front = c.as_slice.result.now in
    let before = c.write_all.new.progress.written in
    let after = c.write_all-2.new.progress.written in
    let front_is = c.as_slice.ensures ∙ c.front_of.ensures in
    let is = frame_is c.args.version c.args.client c.args.number c.kind.result c.reply_body_len.result reply header front c.kind.ensures c.reply_body_len.ensures.length c.to_bytes.ensures front_is in
    let sent : Sent old mid header before = sent_more old old mid [] header c.new-progress.result.written before (sent_nothing old _ c.new-progress.ensures.written) c.in_ok-write_all.ensures.ok c.in_ok-write_all.ensures.counted in
    let both : Sent old next (header ++ front) after = sent_more old mid next header front before after sent c.in_ok-write_all-2.ensures.ok c.in_ok-write_all-2.ensures.counted in
    if_err c.write_rest.result (λ (f : WriteFault). StopsWithin next new (reply_rest reply) after f.written) (λ (f : WriteFault). Stops old new frame f.written)
    (λ f stops. stops_in_rest old next new frame header front (reply_rest reply) after f.written is both stops) c.write_rest.ensures.err

pub returns-clause-failed : goal.returns-clause-failed
returns-clause-failed g c = λ sound.
    let reply = c.args.reply.now in
    let old = g.W.Write.contents c.args.writer.now in
    let mid = g.W.Write.contents c.write_all.new.writer in
    let next = g.W.Write.contents c.write_all-2.new.writer in
    let new = g.W.Write.contents c.write_rest.new.writer in
    let frame = reply_frame c.args.version c.args.client c.args.number reply in
    let header = c.to_bytes.result in
    let front = c.as_slice.result.now in
    let rest = reply_rest reply in
    let before = c.write_all.new.progress.written in
    let after = c.write_all-2.new.progress.written in
    let start = (g.W.SteadyWrite.seen c.args.writer.now).interruptions in
    let is = frame_is c.args.version c.args.client c.args.number c.kind.result c.reply_body_len.result reply header front c.kind.ensures c.reply_body_len.ensures.length c.to_bytes.ensures (c.as_slice.ensures ∙ c.front_of.ensures) in
    let sent : before ≡ length header = omega (arith, c.in_ok-write_all.ensures.counted, c.new-progress.ensures.written) in
    let both : after ≡ before + length front = c.in_ok-write_all-2.ensures.counted in
    let one : Takes (g.W.SteadyWrite.room c.args.writer.now) (g.W.SteadyWrite.room c.write_all.new.writer) before = rw sent c.in_ok-write_all.ensures.room_ok in
    let room : Takes (g.W.SteadyWrite.room c.args.writer.now) (g.W.SteadyWrite.room c.write_all-2.new.writer) after = rw both (takes_more _ _ _ _ _ one c.in_ok-write_all-2.ensures.room_ok) in
    let size : length frame ≡ after + length rest = frame_size frame header front rest before after is sent both in
    reported_last start _ _ _ _ after (length rest) _ _ c.write_rest.result room size c.write_rest.ensures.room_ok c.write_rest.ensures.room_err
    (within_part next new rest after (length frame) c.write_rest.result size c.write_rest.ensures.err)
    (c.write_rest.ensures.counts start (c.in_ok-write_all-2.ensures.counts start (c.in_ok-write_all.ensures.counts start (counts_begin _ _ c.new-progress.ensures.retries sound))))
