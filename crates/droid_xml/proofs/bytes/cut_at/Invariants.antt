use Rattle.std.proofs.Common.{◌≡◌, take, drop}
use Rattle.droid_xml.specs.Bytes.{cut_at}
use Rattle.droid_xml.proofs.Cuts.{put_before}
use Rattle.droid_xml.proofs.bytes.cut_at.Given as goal

-- the mark begins at no place so far
abbrev pub invariant-loop-place : goal.invariant-loop-place
invariant-loop-place l = put_before (take l.place l.text) (cut_at l.mark (drop l.place l.text)) ≡ cut_at l.mark l.text
