-- What it means that two frames of one submission have the same number (this project's own).
use Rattle.std.specs.Prelude.{◌≡◌, ℕ, List}
use Rattle.droid_remote.specs.Sharing.{IsAsked, SharesNumber}
use Rattle.droid_upload.specs.Calls.{Call, attempt_of, request_of}
use Rattle.droid_remote.specs.Conversations.{frame_of_call}

-- the call is one of a submission
abbrev pub IsAskedCall : Call → Type 0
IsAskedCall call = IsAsked (attempt_of call) (request_of call)

-- two calls of one submission whose frames have the same number ask the same, or their digests meet
abbrev pub FramesOfOneNumberAskTheSame : Type 0
FramesOfOneNumberAskTheSame = (client : ℕ) (name : List ℕ) (one other : Call) → IsAskedCall one → IsAskedCall other
    → (frame_of_call client name one).number ≡ (frame_of_call client name other).number
    → SharesNumber name (attempt_of one) (attempt_of other) (request_of one) (request_of other)
