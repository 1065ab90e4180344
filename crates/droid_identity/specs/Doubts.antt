-- Why a file does not have a format (this project's own).
use Rattle.std.specs.Prelude.{ℕ, List}
use Rattle.droid_pronom.specs.Found.{Hits, IsHit}
use Rattle.droid_pronom.specs.Registry.{Contents}
use Rattle.droid_identity.specs.Beaters.{Beaters}
use Rattle.droid_identity.specs.Matches.{IsNearest}
use Rattle.droid_identity.specs.Trials.{Trials}
use Rattle.droid_identity.specs.declared.doubts.Doubt.{Doubt}

-- of the format at a place, in a file under a scan limit: its signatures with their matches, and the formats that beat
-- it
pub record IsDoubt (registry : Contents) (file : List ℕ) (scan_limit place : ℕ) (doubt : Doubt) : Type 0 where
  pub trials : Trials (IsNearest file scan_limit) (Hits file scan_limit) place 0 registry.signatures doubt.trials.items
  pub beaters : Beaters (IsHit (Hits file scan_limit) registry) place registry.priorities doubt.beaters.items
