-- The ends of a stream while it is read (this project's own).
use Rattle.std.specs.Prelude.{◌≡◌, ◌⊎◌, ℕ, ◌≤◌, List, ◌++◌, length, take, drop, Option, IfSome}
use Rattle.droid_frame.specs.RunningHashes.{HoldsAll}
use Rattle.droid_frame.specs.declared.running_hash.RunningHash.{RunningHash}

-- Of the bytes that came the first ones are kept, and some of the last: all of them, or at least as many as the limit.
pub record KeepsEnds (limit : ℕ) (seen first rest : List ℕ) : Type 0 where
  pub begins : first ≡ take limit seen
  pub before : ℕ
  pub inside : before ≤ length seen
  pub ends : rest ≡ drop before seen
  pub enough : (before ≡ 0) ⊎ (limit ≤ length rest)

-- these bytes came, which are all that remained, and their ends are kept
pub record TakesStream (remaining : Option (List ℕ)) (limit size : ℕ) (first rest : List ℕ) (old new : RunningHash)
    : Type 0 where
  pub seen : List ℕ
  pub whole : IfSome remaining (λ bytes. bytes ≡ seen)
  pub counted : length seen ≡ size
  pub keeps : KeepsEnds limit seen first rest
  pub holds : (before : List ℕ) → HoldsAll old before → HoldsAll new (before ++ seen)
