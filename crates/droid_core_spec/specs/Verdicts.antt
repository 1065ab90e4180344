-- Which verdicts there may be: a command is accepted or refused, and a query is answered or refused.
use Rattle.std.specs.Prelude.{◌≡◌, ◌+◌, nat_lt, Bool, true, false}
use Rattle.droid_frame.specs.Bodies.{request_kind}
use Rattle.droid_frame.specs.Replies.{is_refused}
use Rattle.droid_frame.specs.declared.refusal.Refusal.{Refusal}
use Rattle.droid_frame.specs.declared.refusal.Refusal.TheVariants.{Malformed, NumberReused, Memory, Store}
use Rattle.droid_frame.specs.declared.reply.Reply.{Reply}
use Rattle.droid_frame.specs.declared.request.Request.{Request}
use Rattle.droid_core_spec.specs.Judging.{Verdict, Accepted, Answered, Refuses}
use Rattle.droid_core_spec.specs.World.{World}

-- the kinds from 1 to 6 are commands; the others are queries
abbrev pub is_command : Request → Bool
is_command request = nat_lt (request_kind request) 7

-- a refusal that judging may give: malformed frames and numbers that were used before are seen earlier, and memory and
-- the database are no matter of judging
abbrev pub is_of_judging : Refusal → Bool
is_of_judging Malformed = false
is_of_judging NumberReused = false
is_of_judging Memory = false
is_of_judging Store = false
is_of_judging _ = true

-- an accepted request is a command, its reply is no refusal, and one command more was accepted
pub record MayBeAccepted (world : World) (request : Request) (reply : Reply) (after : World) : Type 0 where
  pub command : is_command request ≡ true
  pub no_refusal : is_refused reply ≡ false
  pub one_more : after.accepted ≡ world.accepted + 1

-- an answered request is a query, and its reply is no refusal
pub record MayAnswer (request : Request) (reply : Reply) : Type 0 where
  pub query : is_command request ≡ false
  pub no_refusal : is_refused reply ≡ false

-- the request may get this verdict in the world
abbrev pub MayCome : World → Request → Verdict → Type 0
MayCome world request (Accepted reply after) = MayBeAccepted world request reply after
MayCome world request (Answered reply) = MayAnswer request reply
MayCome world request (Refuses refusal) = is_of_judging refusal ≡ true
