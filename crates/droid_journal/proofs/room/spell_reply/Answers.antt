use Rattle.std.proofs.Common.{◌∙◌, ◌++◌, ℕ, List, length, refl, ap, arith}
use Rattle.droid_frame.specs.ReplyFrames.{reply_frame}
use Rattle.droid_journal.proofs.Rooms.{reply_long, takes_all}
use Rattle.droid_journal.proofs.room.spell_reply.Goals as goal

pub unwrap-requires : goal.unwrap-requires
unwrap-requires c =
    let size : ℕ = length (reply_frame c.args.version c.args.client c.args.number c.args.reply.now) in
    takes_all c.write_reply.result c.args.room.now.left size (c.write_reply.ensures.failed refl) (omega (arith, c.requires.left, reply_long c.args.version c.args.client c.args.number c.args.reply.now c.requires.spelling))

pub returns : goal.returns
returns c =
    let frame : List ℕ = reply_frame c.args.version c.args.client c.args.number c.args.reply.now in
    rw c.unwrap.ensures at c.write_reply.ensures.ok ∙ ap (λ (t : List ℕ). t ++ frame) c.requires.items
