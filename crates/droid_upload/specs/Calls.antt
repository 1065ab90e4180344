-- Calls of a client, and how they ended (this project's own).
use Rattle.std.specs.Prelude.{◌≡◌, ℕ}
use Rattle.droid_frame.specs.declared.reply.Reply.{Reply}
use Rattle.droid_frame.specs.declared.request.Request.{Request}
use Rattle.droid_upload.specs.declared.client_fault.ClientFault.{ClientFault}

-- `attempt` says how often the file of an AddFile was added before and found abandoned; it is 0 for other requests
pub data Call : Type 0 where
  -- this reply to the request came
  Answered : (attempt : ℕ) (request : Request) (reply : Reply) → Call
  -- the piece was sent; its reply is read later
  Sent : (request : Request) → Call
  -- no reply to the request came, for this reason
  Failed : (attempt : ℕ) (request : Request) (fault : ClientFault) → Call

-- the request of a call, however it ended
abbrev pub request_of : Call → Request
request_of (Answered attempt request reply) = request
request_of (Sent request) = request
request_of (Failed attempt request fault) = request

-- how often its file was added before and found abandoned
abbrev pub attempt_of : Call → ℕ
attempt_of (Answered attempt request reply) = attempt
attempt_of (Sent request) = 0
attempt_of (Failed attempt request fault) = attempt

-- two calls with the same request; they may have ended otherwise
pub record SameRequest (expected call : Call) : Type 0 where
  pub request : request_of call ≡ request_of expected
  pub attempt : attempt_of call ≡ attempt_of expected
