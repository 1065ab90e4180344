use Rattle.std.proofs.Common.{◌≡◌, ℕ, List, drop}
use Rattle.droid_export.specs.FolderMaps.{HasIds, Holds}
use Rattle.droid_export.specs.FolderNumbers.{Saying, contradiction, contradiction_from}
use Rattle.droid_export.proofs.reading.folder_numbers.contradiction.Given as goal

-- none of the rows so far contradicts another, and both have what they say: what comes of the other rows comes of all
abbrev pub invariant-loop-place : goal.invariant-loop-place
invariant-loop-place l = (seen : List ℕ) × (said : List Saying) × HasIds l.ids seen × Holds l.folders said
    × (contradiction l.items l.tags ≡ contradiction_from seen said (drop l.place l.items) (drop l.place l.tags))
