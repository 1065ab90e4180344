-- What each line of a script does to the streams (this project's own rule).
use Rattle.std.specs.Prelude.{◌≡◌, ℕ, List, [], Option, Some, None}
use Rattle.std.specs.Io.KnownBytes.{Appends, Consumes}
use Rattle.droid_frame.specs.Frames.{frame_bytes}
use Rattle.droid_frame.specs.InTurn.{Effect}
use Rattle.droid_frame.specs.StreamReads.{ReadsNoFrame}
use Rattle.droid_frame.specs.declared.frame.Frame.{Frame}
use Rattle.droid_frame.specs.declared.reply.Reply.{Reply}
use Rattle.droid_lines.specs.Lines.{request_value}
use Rattle.droid_lines.specs.Printed.{answer_line}
use Rattle.droid_lines.specs.declared.parser.VersionedRequest.{VersionedRequest}
use Rattle.droid_client.specs.Cores.{Core, next_frame}
use Rattle.droid_lines.specs.Stopping.{WritesFront}

-- the bytes of a line's frame; a bad line has none
abbrev pub line_frame : Option Frame → List ℕ
line_frame None = []
line_frame (Some frame) = frame_bytes frame

-- reading the frame of a line's reply: all of it, or bytes that begin with no whole frame; a bad line reads nothing
abbrev pub ReadsReply : {S : Type 0} → (S → Option (List ℕ)) → Effect S (Option Frame)
ReadsReply remaining = record {
  whole = λ came old new. Consumes (remaining old) (remaining new) (line_frame came);
  part = λ old new. ReadsNoFrame (remaining old) (remaining new);
}

-- writing the frame of a line's request: all of it, or its first bytes but not all; a bad line writes nothing
abbrev pub WritesRequest : {S : Type 0} → (S → Option (List ℕ)) → Effect S (Option Frame)
WritesRequest contents = record {
  whole = λ sent old new. Appends (contents old) (contents new) (line_frame sent);
  part = λ old new. (core : Core) × (line : List ℕ) × (asked : VersionedRequest) × (request_value line ≡ Some asked)
      × WritesFront (contents old) (contents new) (frame_bytes (next_frame core asked.version asked.request));
}

-- writing what a line prints: all of it, or its first bytes but not all
abbrev pub WritesPrinted : {S : Type 0} → (S → Option (List ℕ)) → Effect S (Option Reply)
WritesPrinted contents = record {
  whole = λ answer old new. Appends (contents old) (contents new) (answer_line answer);
  part = λ old new. (answer : Option Reply) × WritesFront (contents old) (contents new) (answer_line answer);
}
