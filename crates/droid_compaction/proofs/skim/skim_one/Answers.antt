use Rattle.std.proofs.Common.{rules, ◌≡◌, ◌+◌, ◌∙◌, Some, true, false, length, sym, arith}
use Rattle.droid_journal.specs.Records.{front_bytes}
use Rattle.droid_journal.proofs.Bytes.{some_is}
use Rattle.droid_compaction.specs.Skimming.{IsFrontOf}
use Rattle.droid_compaction.proofs.Skimming.{next_is, none_left, not_both, reply_small, reply_there, some_left}
use Rattle.droid_compaction.proofs.skim.skim_one.Goals as goal

pub returns-in_default-clause-there : goal.returns-in_default-clause-there
returns-in_default-clause-there g c = λ s key place before it rest form here fit is noted. none_left _ c.in-Ok.front c.in_default.is (c.in-Ok.ensures.there s key place it rest form here fit is)

pub returns-in_default-reply-clause-there : goal.returns-in_default-reply-clause-there
returns-in_default-reply-clause-there g c = λ s key place before it rest form here fit is noted.
    let front : IsFrontOf (length (front_bytes key place it.first)) it.request c.in-Some.front = some_left (IsFrontOf (length (front_bytes key place it.first)) it.request) c.in-Ok.front c.in-Some.front c.in-Some.is (c.in-Ok.ensures.there s key place it rest form here fit is) in
    let sum : c.in-Some-checked_add.place ≡ c.args.at + (c.in-Some.front.request + c.in-Some.front.ahead + 4) = search rules in
    let spot : c.in-Some-checked_add.place ≡ c.args.at + (length it.request + length (front_bytes key place it.first) + 4) = omega (arith, sum, front.request_is, front.ahead_is) in
    let seen : c.in-Ok-length_at.reply ≡ Some (length it.reply) =
    c.in-Ok-length_at.ensures.there s _ (length it.reply) here (reply_small key place it rest fit) (reply_there key place it rest fit s c.args.at is c.in-Some-checked_add.place spot) in
    not_both c.in-Ok-length_at.reply (length it.reply) c.in_default-reply.is seen

pub returns-then-not-can_be-clause-there : goal.returns-then-not-can_be-clause-there
returns-then-not-can_be-clause-there g c = λ s key place before it rest form here fit is noted.
    let front : IsFrontOf (length (front_bytes key place it.first)) it.request c.in-Some.front = some_left (IsFrontOf (length (front_bytes key place it.first)) it.request) c.in-Ok.front c.in-Some.front c.in-Some.is (c.in-Ok.ensures.there s key place it rest form here fit is) in
    let sum : c.in-Some-checked_add.place ≡ c.args.at + (c.in-Some.front.request + c.in-Some.front.ahead + 4) = search rules in
    let spot : c.in-Some-checked_add.place ≡ c.args.at + (length it.request + length (front_bytes key place it.first) + 4) = omega (arith, sum, front.request_is, front.ahead_is) in
    let seen : c.in-Ok-length_at.reply ≡ Some (length it.reply) =
    c.in-Ok-length_at.ensures.there s _ (length it.reply) here (reply_small key place it rest fit) (reply_there key place it rest fit s c.args.at is c.in-Some-checked_add.place spot) in
    let reply : c.in-Some-reply.reply ≡ length it.reply = some_is _ _ (sym c.in-Some-reply.is ∙ seen) in
    let can : c.can_be.result ≡ true = c.can_be.ensures (omega (arith, front.request_is, fit.header)) (omega (arith, front.request_is, reply, fit.size)) in
    let not : c.can_be.result ≡ false = search rules in
    absurd cc

pub returns-in-Ok-note-clause-there : goal.returns-in-Ok-note-clause-there
returns-in-Ok-note-clause-there g c = λ s key place before it rest form here fit is noted.
    let front : IsFrontOf (length (front_bytes key place it.first)) it.request c.in-Some.front = some_left (IsFrontOf (length (front_bytes key place it.first)) it.request) c.in-Ok.front c.in-Some.front c.in-Some.is (c.in-Ok.ensures.there s key place it rest form here fit is) in
    let sum : c.in-Some-checked_add.place ≡ c.args.at + (c.in-Some.front.request + c.in-Some.front.ahead + 4) = search rules in
    let spot : c.in-Some-checked_add.place ≡ c.args.at + (length it.request + length (front_bytes key place it.first) + 4) = omega (arith, sum, front.request_is, front.ahead_is) in
    let seen : c.in-Ok-length_at.reply ≡ Some (length it.reply) =
    c.in-Ok-length_at.ensures.there s _ (length it.reply) here (reply_small key place it rest fit) (reply_there key place it rest fit s c.args.at is c.in-Some-checked_add.place spot) in
    let reply : c.in-Some-reply.reply ≡ length it.reply = some_is _ _ (sym c.in-Some-reply.is ∙ seen) in
    let more : c.in-Some-checked_add-2.next ≡ c.in-Some-checked_add.place + (c.in-Some-reply.reply + 20) = search rules in (
      next_is key place it rest fit c.args.at c.in-Some-checked_add.place c.in-Some-checked_add-2.next spot (omega (arith, more, reply)),
      c.in-Ok-note.ensures.noted before it.first (length (front_bytes key place it.first)) it.request it.reply noted front reply,
    )
