use Rattle.std.proofs.Common.{◌≡◌, ◌∙◌, ◌++◌, Bool, ℕ, List, length, not, ap, arith}
use Rattle.droid_frame.specs.ReplyFrames.{reply_frame}
use Rattle.droid_journal.specs.Records.{made, next_check, record_bytes}
use Rattle.droid_journal.proofs.Rooms.{reply_long}
use Rattle.droid_journal.proofs.journal.Journal.spell.Goals as goal

pub put_record-requires-clause-size : goal.put_record-requires-clause-size
put_record-requires-clause-size g c =
    let reply : c.as_slice.result.now ≡ reply_frame c.args.version c.args.client c.args.number c.args.reply.now = c.as_slice.ensures ∙ c.spell_reply.ensures in
    omega (arith, c.requires.size, ap length reply, reply_long c.args.version c.args.client c.args.number c.args.reply.now c.requires.spelling)

pub put_record-requires-clause-room : goal.put_record-requires-clause-room
put_record-requires-clause-room g c =
    let reply : c.as_slice.result.now ≡ reply_frame c.args.version c.args.client c.args.number c.args.reply.now = c.as_slice.ensures ∙ c.spell_reply.ensures in
    omega (arith, c.requires.len, c.requires.capacity, ap length reply, reply_long c.args.version c.args.client c.args.number c.args.reply.now c.requires.spelling)

pub returns-clause-bytes : goal.returns-clause-bytes
returns-clause-bytes g c =
    let old = c.args.self.now in
    let reply : c.as_slice.result.now ≡ reply_frame c.args.version c.args.client c.args.number c.args.reply.now = c.as_slice.ensures ∙ c.spell_reply.ensures in
    c.put_record.ensures.bytes ∙ ap (λ (t : List ℕ). t ++ record_bytes old.key old.place (made (not old.unsynced) c.args.request.now c.as_slice.result.now)) c.requires.empty
    ∙ ap (λ (t : List ℕ). record_bytes old.key old.place (made (not old.unsynced) c.args.request.now t)) reply

pub returns-clause-check : goal.returns-clause-check
returns-clause-check g c =
    let old = c.args.self.now in
    let reply : c.as_slice.result.now ≡ reply_frame c.args.version c.args.client c.args.number c.args.reply.now = c.as_slice.ensures ∙ c.spell_reply.ensures in
    c.put_record.ensures.check ∙ ap (λ (t : List ℕ). next_check old.key old.place (made (not old.unsynced) c.args.request.now t)) reply

pub returns-clause-fits : goal.returns-clause-fits
returns-clause-fits g c = record {
  header = c.requires.header;
  size = omega (arith, c.requires.size, reply_long c.args.version c.args.client c.args.number c.args.reply.now c.requires.spelling);
}
