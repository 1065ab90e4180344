-- A statement is a chain of parts; one that gave a value went through each of them.
use Rattle.std.proofs.Common.{◌≡◌, ◌⊎◌, inl, inr, None, Ok, Err, Result, ap}
use Rattle.sqlite.specs.Does.{Tally, Concludes}
use Rattle.sqlite.specs.Effect.{Database}
use Rattle.sqlite.specs.declared.run.Mode.{Mode}
use Rattle.sqlite.specs.Rows.{Part, Task, Then, Written}

pub same_value : {B E : Type 0} {a b : B} → ◌≡◌ {A = Result B E} (Ok a) (Ok b) → a ≡ b
same_value e = cc

pub same_error : {X E : Type 0} {a b : E} → ◌≡◌ {A = Result X E} (Err a) (Err b) → a ≡ b
same_error e = cc

-- a part that gave a value did not stop on the way
pub went : {B E R : Type 0} {b : B} {Stops : E → Type 0} → ((stop : E) × Stops stop × (Ok b ≡ Err stop)) ⊎ R → R
went (inl stopped) = absurd (let e = stopped.2 in cc)
went (inr on) = on

-- the end of a statement on rows leaves the trees that its rows were written to
pub concluded : (task : Task) (mode : Mode) (Makes : Part Written) (tally : Tally) (after : Database) → Then Makes (Concludes task mode None) (Ok (tally, after))
    → (out : Written) × Makes (Ok out) × (after ≡ record { schema = task.schema; trees = out.trees })
concluded task mode Makes tally after h =
    let done = went h in
    let tested = went done.2 in
    let shown = went tested.2 in
    (done.0, done.1, ap (λ (p : Tally × Database). p.1) (same_value shown.2))
