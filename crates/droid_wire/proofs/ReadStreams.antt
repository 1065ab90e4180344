-- The frames of the bytes that were read are those that were handled.
use Rattle.std.proofs.Common.{◌≡◌, ℕ, List, [], ◌∷◌, ◌++◌, Option, Some, Ok, Err, refl, arith}
use Rattle.std.specs.List.{flat_map}
use Rattle.std.specs.Io.KnownBytes.{Consumes}
use Rattle.std.proofs.KnownBytes.{Consumes-nil, Consumes-trans}
use Rattle.droid_frame.specs.Frames.{frame_bytes}
use Rattle.droid_frame.specs.Streams.{BeginsNoFrame, Frames}
use Rattle.droid_frame.specs.declared.frame.Frame.{Frame}
use Rattle.droid_frame.specs.declared.reply.Reply.{Reply}
use Rattle.droid_frame.proofs.StreamFrames.{no_frame_in_short}
use Rattle.droid_core.specs.declared.service.Service.{Service}
use Rattle.droid_core_spec.specs.Histories.{History}
use Rattle.droid_core_spec.specs.Setting.{Setting}
use Rattle.droid_wire.specs.declared.stream_end.Ended.TheVariants.{Closed, Turns}
use Rattle.droid_wire.specs.declared.serve_fault.ServeFault.TheVariants as faults
use Rattle.droid_wire.specs.Serving.{Handled}
use Rattle.droid_wire.specs.WhatWasRead.{ReadFramesAreAnswered}

-- what was read of an input of which frames were handled: they, and some bytes that begin with none
record Reads (input : List ℕ) (left : Option (List ℕ)) (frames : List Frame) (rest : List ℕ) : Type 0 where
  read : List ℕ
  consumed : Consumes (Some input) left read
  stream : Frames read frames rest

reads_on : (setting : Setting) (history : History) (input rest : List ℕ) (left : Option (List ℕ)) (frames : List Frame) (replies : List Reply) (after : Service) (bytes : List ℕ)
    → Handled setting history input rest frames replies after → Consumes (Some rest) left bytes → BeginsNoFrame bytes → Reads input left frames bytes
reads_on setting history input rest left frames replies after bytes handled consumed none = record {
  read = flat_map frame_bytes frames ++ bytes;
  consumed = Consumes-trans (Some input) (Some rest) left (flat_map frame_bytes frames) bytes handled.joined consumed;
  stream = record { readable = handled.readable; joined = refl; none_more = none };
}

-- nothing was read behind the frames
reads_frames : (setting : Setting) (history : History) (input rest : List ℕ) (left : Option (List ℕ)) (frames : List Frame) (replies : List Reply) (after : Service)
    → Handled setting history input rest frames replies after → left ≡ Some rest → Reads input left frames []
reads_frames setting history input rest left frames replies after handled is =
    reads_on setting history input rest left frames replies after [] handled (rw is (Consumes-nil (Some rest))) (no_frame_in_short [] (omega arith))

pub read_frames : ReadFramesAreAnswered
read_frames setting history turns input left old new after (Ok Turns) served =
    let reads = reads_frames setting history input served.rest left served.frames served.replies after served.handled served.ends.1 in
    record { read = reads.read; consumed = reads.consumed; frames = served.frames; rest = []; stream = reads.stream; replies = served.replies; runs = served.handled.runs; written = served.written }
read_frames setting history turns input left old new after (Ok Closed) served =
    let is : left ≡ Some served.rest = rw served.ends.1 served.ends.2 in
    let reads = reads_frames setting history input served.rest left served.frames served.replies after served.handled is in
    record { read = reads.read; consumed = reads.consumed; frames = served.frames; rest = []; stream = reads.stream; replies = served.replies; runs = served.handled.runs; written = served.written }
read_frames setting history turns input left old new after (Err (faults.Frame fault)) served =
    let some = served.ends.2 in
    let reads = reads_on setting history input served.rest left served.frames served.replies after some.bytes served.handled some.consumed some.no_frame in
    record { read = reads.read; consumed = reads.consumed; frames = served.frames; rest = some.bytes; stream = reads.stream; replies = served.replies; runs = served.handled.runs; written = served.written }
read_frames setting history turns input left old new after (Err (faults.Write written)) served =
    let frames = served.frames ++ served.last_frame ∷ [] in
    let replies = served.replies ++ served.last_reply ∷ [] in
    let reads = reads_frames setting history input served.rest left frames replies after served.handled served.is_left in
    record { read = reads.read; consumed = reads.consumed; frames = frames; rest = []; stream = reads.stream; replies = replies; runs = served.handled.runs; written = served.written }
