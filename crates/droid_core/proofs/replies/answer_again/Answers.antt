use Rattle.std.proofs.Common.{ℕ, sym, subst}
use Rattle.droid_frame.specs.Replies.{HasReplySpelling}
use Rattle.droid_core.proofs.SameRequests.{same_version}
use Rattle.droid_core.proofs.replies.answer_again.Goals as goal

pub returns-in-Ok-clause-spelled : goal.returns-in-Ok-clause-spelled
returns-in-Ok-clause-spelled c =
    subst (λ (version : ℕ). HasReplySpelling version c.in-Ok.reply) (same_version c.args.entry c.args.stamp (sym c.if-not-is_row_of.ensures)) c.in-Ok.ensures.found.has_spelling
