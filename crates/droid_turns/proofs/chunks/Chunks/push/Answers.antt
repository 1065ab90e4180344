use Rattle.std.proofs.lemmas.Result.{on_ok_weaker}
use Rattle.droid_frame.specs.ReplyFrames.{reply_frame}
use Rattle.droid_turns.specs.Chunks.{waiting}
use Rattle.droid_turns.proofs.Waiting.{pushed_chunk}
use Rattle.droid_turns.proofs.chunks.Chunks.push.Goals as goal

pub returns-clause-ok : goal.returns-clause-ok
returns-clause-ok c =
    on_ok_weaker c.append_reply.result
    (λ e. pushed_chunk c.close_full.new.self c.append_reply.new.chunk (waiting c.args.self.now) (reply_frame c.args.version c.args.client c.args.number c.args.reply.now) c.close_full.ensures.same e)
    c.append_reply.ensures.ok
