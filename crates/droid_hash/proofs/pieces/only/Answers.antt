use Rattle.std.proofs.Common.{◌≢◌, ◌<◌, inl, inr, arith}
use Rattle.std.proofs.lemmas.Bool.{cases_lt}
use Rattle.droid_hash.proofs.pieces.only.Goals as goal

pub returns-clause-alone : goal.returns-clause-alone
returns-clause-alone c = λ j low other. elim (cases_lt j c.busy-first.result) [
  | inl before ↦ c.busy-first.ensures.before j (omega arith) before
  | inr after ↦ c.busy-second.ensures.before j (omega arith) (omega arith)
]
