-- Room for the frame of a reply.
use Rattle.std.proofs.Common.{◌≡◌, ℕ, ◌≤◌, List, length, Result, Ok, Err, Some, refl, arith, inl, inr}
use Rattle.std.specs.Prelude.{IsErr, IsOk}
use Rattle.droid_frame.specs.Replies.{HasReplySpelling}
use Rattle.droid_frame.specs.ReplyFrames.{reply_frame}
use Rattle.droid_frame.specs.Seen.{GivesUp, fresh}
use Rattle.droid_frame.specs.Writes.{ReportsWrite}
use Rattle.droid_frame.specs.declared.reply.Reply.{Reply}
use Rattle.droid_frame.proofs.ReplyFrames.{reply_is_short}

pub reply_long : (version client number : ℕ) (reply : Reply) → HasReplySpelling version reply → length (reply_frame version client number reply) ≤ 1048658
reply_long version client number reply fits = let short = reply_is_short version reply fits in omega (arith, short.1)

-- a writer that is never interrupted and never fails is not given up
never : GivesUp 0 fresh → ⊥
never (inl fails) = absurd (cc fails.failed)
never (inr often) = absurd (omega (arith, often.once_too_often))

-- within its room it takes all
pub takes_all : {T E : Type 0} (result : Result T E) (room size : ℕ) → ReportsWrite 0 fresh (Some room) size (IsErr result) → size ≤ room → IsOk result
takes_all (Ok x) room size reports enough = refl
takes_all (Err e) room size reports enough =
    elim (reports.fault refl) [
      | inl given ↦ absurd (never given)
      | inr full ↦ absurd (omega (arith, full.1, enough))
    ]
