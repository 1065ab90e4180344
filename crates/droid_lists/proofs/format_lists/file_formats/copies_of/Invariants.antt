use Rattle.std.proofs.Common.{◌≡◌, take}
use Rattle.droid_lists.proofs.format_lists.file_formats.copies_of.Given as goal

abbrev pub invariant-loop-puid : goal.invariant-loop-puid
invariant-loop-puid l = l.copies.items ≡ take l.puid-index l.puids
