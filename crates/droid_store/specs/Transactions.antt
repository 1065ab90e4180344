-- What holds for a database between transactions, and within one.
use Rattle.std.specs.Prelude.{◌≡◌, true, false}
use Rattle.sqlite.specs.Effect.{Database}
use Rattle.sqlite.specs.State.{State}

-- between calls: no transaction is open, and every change is committed
pub record Settled (s : State) (P : Database → Type 0) : Type 0 where
  pub holds : P s.now
  pub autocommit : s.in_transaction ≡ false
  pub settled : s.now ≡ s.committed

-- in a transaction: what it sees, and what a rollback restores
pub record Within (s : State) (P Q : Database → Type 0) : Type 0 where
  pub seen : P s.now
  pub saved : Q s.committed
  pub within : s.in_transaction ≡ true
