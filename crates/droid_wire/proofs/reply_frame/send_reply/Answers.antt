use Rattle.std.proofs.Common.{◌≡◌, ℕ, List, length, OnOk, ◌∙◌, subst}
use Rattle.std.specs.Io.KnownBytes.{Appends}
use Rattle.droid_frame.specs.ReplyFrames.{reply_frame}
use Rattle.droid_frame.specs.Writes.{Takes}
use Rattle.droid_frame.proofs.Scopes.{counts_begin}
use Rattle.droid_wire.proofs.SentWhole.{whole_room, whole_stops, whole_reported}
use Rattle.droid_wire.proofs.reply_frame.send_reply.Goals as goal

pub returns-in-Some-clause-ok : goal.returns-in-Some-clause-ok
returns-in-Some-clause-ok g c =
    let frame = reply_frame c.args.version c.args.client c.args.number c.args.reply.now in
    let is : c.as_slice.result.now ≡ frame = c.as_slice.ensures.value ∙ c.in-Some.ensures in
    subst (λ (l : List ℕ). OnOk c.write_all.result (Appends (g.W.Write.contents c.args.writer.now) (g.W.Write.contents c.write_all.new.writer) l)) is c.write_all.ensures.ok

pub returns-in-Some-clause-err : goal.returns-in-Some-clause-err
returns-in-Some-clause-err g c =
    let frame = reply_frame c.args.version c.args.client c.args.number c.args.reply.now in
    let is : c.as_slice.result.now ≡ frame = c.as_slice.ensures.value ∙ c.in-Some.ensures in
    whole_stops (g.W.Write.contents c.args.writer.now) (g.W.Write.contents c.write_all.new.writer) c.as_slice.result.now frame c.new.result.written c.write_all.result is c.new.ensures.written c.write_all.ensures.err

pub returns-in-Some-clause-failed : goal.returns-in-Some-clause-failed
returns-in-Some-clause-failed g c = λ sound.
    let frame = reply_frame c.args.version c.args.client c.args.number c.args.reply.now in
    let is : c.as_slice.result.now ≡ frame = c.as_slice.ensures.value ∙ c.in-Some.ensures in
    let start = (g.W.SteadyWrite.seen c.args.writer.now).interruptions in
    whole_reported start _ _ _ _ _ c.as_slice.result.now frame c.new.result.written _ c.write_all.result is c.new.ensures.written c.write_all.ensures.room_ok c.write_all.ensures.room_err c.write_all.ensures.err
    (c.write_all.ensures.counts start (counts_begin _ _ c.new.ensures.retries sound))

pub returns-in-Some-clause-room_ok : goal.returns-in-Some-clause-room_ok
returns-in-Some-clause-room_ok g c =
    let frame = reply_frame c.args.version c.args.client c.args.number c.args.reply.now in
    let is : c.as_slice.result.now ≡ frame = c.as_slice.ensures.value ∙ c.in-Some.ensures in
    subst (λ (l : List ℕ). OnOk c.write_all.result (Takes (g.W.SteadyWrite.room c.args.writer.now) (g.W.SteadyWrite.room c.write_all.new.writer) (length l))) is c.write_all.ensures.room_ok

pub returns-in-Some-clause-room_err : goal.returns-in-Some-clause-room_err
returns-in-Some-clause-room_err g c = whole_room _ _ c.new.result.written c.write_all.result c.new.ensures.written c.write_all.ensures.room_err
