-- The frames of a submission's requests (this project's own).
use Rattle.std.specs.Prelude.{ℕ, List}
use Rattle.droid_frame.specs.Bodies.{request_body, request_kind}
use Rattle.droid_frame.specs.declared.frame.Frame.{Frame}
use Rattle.droid_frame.specs.declared.request.Request.{Request}
use Rattle.droid_remote.specs.Numbers.{number_of}

-- the frame of a client's request under this number, in version 2
abbrev pub request_at : ℕ → ℕ → Request → Frame
request_at client number request =
    record { version = 2; kind = request_kind request; client = client; number = number; body = request_body 2 request }

-- the frame of a request in the submission of this name; `attempt` counts for an AddFolder or AddFile alone, and is 0
-- at first
abbrev pub frame_of : (client : ℕ) → (name : List ℕ) → (attempt : ℕ) → Request → Frame
frame_of client name attempt request = request_at client (number_of name attempt request) request
