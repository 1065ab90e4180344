-- For inner clauses and proofs: records of a file that were taken one after another.
use Rattle.std.specs.Prelude.{◌≡◌, ℕ, List, ◌++◌, drop}
use Rattle.droid_journal.specs.Chains.{BeginsNoRecord, chain_bytes, place_behind}
use Rattle.droid_journal.specs.Records.{AllFit, Record}
use Rattle.droid_journal.specs.declared.records.key.Key.{Key}
use Rattle.droid_journal.specs.declared.records.place.Place.{Place}

-- The bytes, which stand at a place, begin with records, and behind them none follows; all were taken.
pub record Takes {S T : Type 0} (took : S → T → List Record → Type 0) (key : Key) (from : Place) (bytes : List ℕ)
    (old : T) (to : Place) (new : T) : Type 0 where
  pub its : List Record
  pub rest : List ℕ
  pub fit : AllFit its
  pub joined : bytes ≡ chain_bytes key from its ++ rest
  pub ends : BeginsNoRecord key to rest
  pub to_is : to ≡ place_behind key from its
  pub taken : (setting : S) (before : List Record) → took setting old before → took setting new (before ++ its)

-- Records were taken, from one place of a file to another.
pub record Passes {S T : Type 0} (took : S → T → List Record → Type 0) (key : Key) (old : T) (from : Place) (new : T)
    (to : Place) (its : List Record) : Type 0 where
  pub fit : AllFit its
  pub to_is : to ≡ place_behind key from its
  pub taken : (setting : S) (before : List Record) → took setting old before → took setting new (before ++ its)

-- these records stand in the file, from the one place to the other
abbrev pub StandIn : Key → List ℕ → Place → Place → List Record → Type 0
StandIn key file from to its = drop from.at file ≡ chain_bytes key from its ++ drop to.at file

-- these records stand in the file, from the one place to the other, and behind that none follows
pub record StandThere (key : Key) (file : List ℕ) (from to : Place) (its : List Record) : Type 0 where
  pub joined : StandIn key file from to its
  pub ends : BeginsNoRecord key to (drop to.at file)
