use Rattle.std.proofs.Common.{take}
use Rattle.droid_hash.specs.Findings.{CoversPuids}
use Rattle.droid_hash.proofs.finding.digest_of.Given as goal

abbrev pub invariant-loop-puid : goal.invariant-loop-puid
invariant-loop-puid l = CoversPuids l.running (take l.puid-index l.puids)
