-- What was written since the last sync (this project's own).
use Rattle.std.specs.Prelude.{◌≡◌, false, List, ◌++◌, drop}
use Rattle.std.specs.List.{AllByRecursion}
use Rattle.droid_journal.specs.Records.{Record}

-- The second list is the first and one turn more: of what a turn wrote only the first record says that all before it
-- was on the disk.
pub record IsTurn (synced written : List Record) : Type 0 where
  pub turn : List Record
  pub parts : written ≡ synced ++ turn
  pub others : AllByRecursion (λ it. it.first ≡ false) (drop 1 turn)
