use Rattle.std.proofs.Common.{ℕ, List, ◌++◌, drop}
use Rattle.std.specs.List.{AllByRecursion}
use Rattle.droid_pronom.specs.Found.{Hits}
use Rattle.droid_identity.specs.Matches.{AreEnds}
use Rattle.droid_identity.specs.declared.hit_signature.SignatureBasis.{SignatureBasis}
use Rattle.droid_identity.specs.Identities.{AreBases, HitsPuid, IsBasisIn}
use Rattle.droid_identity.proofs.bases.bases_of.Given as goal

-- the bases so far and those of what is left are those of all
abbrev pub invariant-loop-puid : goal.invariant-loop-puid
invariant-loop-puid l =
    (file : List ℕ) (scan_limit : ℕ) → AreEnds file scan_limit l.first l.last → AllByRecursion (HitsPuid (Hits file scan_limit) l.registry) l.puids
    → AllByRecursion (HitsPuid (Hits file scan_limit) l.registry) (drop l.puid-index l.puids)
    × ((left : List SignatureBasis) → AreBases (IsBasisIn l.registry file scan_limit) l.registry.formats (drop l.puid-index l.puids) left
    → AreBases (IsBasisIn l.registry file scan_limit) l.registry.formats l.puids (l.bases.items ++ left))
