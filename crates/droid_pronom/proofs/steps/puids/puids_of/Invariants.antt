use Rattle.std.proofs.Common.{◌++◌, ℕ, List, drop}
use Rattle.droid_pronom.specs.Found.{Chosen}
use Rattle.droid_pronom.specs.FoundWindows.{Stands}
use Rattle.droid_pronom.proofs.steps.puids.puids_of.Given as goal

-- the PUIDs so far and those of what is left are those of all
abbrev pub invariant-loop-place : goal.invariant-loop-place
invariant-loop-place l = (rest : List (List ℕ)) → Chosen (Stands l.flags) l.place (drop l.place l.formats) rest → Chosen (Stands l.flags) 0 l.formats (l.puids ++ rest)
