use Rattle.std.proofs.Common.{◌≡◌, ℕ, ◌<◌, List, [], ◌++◌, length, drop}
use Rattle.droid_journal.specs.Chains.{chain_bytes}
use Rattle.droid_journal.specs.Records.{AllFit, Record}
use Rattle.droid_journal.specs.declared.records.key.Key.{Key}
use Rattle.droid_journal.specs.declared.records.place.Place.{Place}
use Rattle.droid_compaction.specs.Noting.{AreNoted}
use Rattle.droid_compaction.proofs.Skimming.{Skims}
use Rattle.droid_compaction.proofs.skim.skim.Given as goal

abbrev pub invariant-loop : goal.invariant-loop
invariant-loop g l = (s : List ℕ) (key : Key) (place : Place) (its : List Record) (tail : List ℕ) → key.form ≡ l.form → g.F.LogFile.has l.file s → AllFit its → length tail < 25 → drop l.fn.from s ≡ chain_bytes key place its ++ tail
    → AreNoted l.fn.ended.files l.fn.ended.stamps [] → Skims s key tail its l.at l.ended.files l.ended.stamps
