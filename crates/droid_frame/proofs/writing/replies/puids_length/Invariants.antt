-- The bytes of the first identifiers are counted.
use Rattle.std.proofs.Common.{◌≡◌, length, take}
use Rattle.droid_frame.specs.TextLists.{texts_bytes}
use Rattle.droid_frame.proofs.writing.replies.puids_length.Given as goal

abbrev pub invariant-loop-puid : goal.invariant-loop-puid
invariant-loop-puid l = l.total ≡ length (texts_bytes (take l.puid-index l.puid-items))
