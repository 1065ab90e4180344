-- The checksum of a record is the mark of its request.
use Rattle.std.proofs.Common.{◌≡◌, refl}
use Rattle.droid_frame.specs.Frames.{frame_bytes, mark_of}
use Rattle.droid_frame.specs.declared.frame.Frame.{Frame}
use Rattle.droid_journal.specs.Records.{checksum}

pub sum_is : (frame : Frame) → checksum (frame_bytes frame) ≡ mark_of frame.kind frame.body
sum_is frame = refl
