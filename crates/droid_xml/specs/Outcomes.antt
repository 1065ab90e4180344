-- What a call of the reader returned, against what the grammar says.
use Rattle.std.specs.Prelude.{◌≡◌, ℕ, Option, Some, None, Result, Ok, Err}
use Rattle.droid_xml.specs.declared.problem.Fault.{Fault}
use Rattle.droid_xml.specs.declared.problem.Fault.TheVariants as faults
use Rattle.droid_xml.specs.declared.problem.Problem.{Problem}
use Rattle.droid_xml.specs.declared.problem.Problem.TheVariants as problems
use Rattle.droid_xml.specs.declared.problem.Stop.{Stop}
use Rattle.droid_xml.specs.declared.problem.Stop.TheVariants as stops

-- the next step, unless the one before it found a problem
infixl 10 ◌>>=◌
abbrev pub ◌>>=◌ : {A B : Type 0} → Result A Problem → (A → Result B Problem) → Result B Problem
(Ok x) >>= next = next x
(Err problem) >>= next = Err problem

-- where nothing is found, the document is not well-formed
abbrev pub required : {A : Type 0} → Option A → Result A Problem
required None = Err problems.NotWellFormed
required (Some x) = Ok x

-- running out of memory says nothing of the document
abbrev pub Stops : {A : Type 0} → Stop → Result A Problem → Type 0
Stops stops.Memory read = Unit {0}
Stops (stops.Problem problem) read = read ≡ Err problem

-- what was returned, seen by view, is what the grammar reads, unless memory ran out
abbrev pub Gives : {X A : Type 0} → (X → A) → Result X Stop → Result A Problem → Type 0
Gives view (Ok x) read = read ≡ Ok (view x)
Gives view (Err stop) read = Stops stop read

-- a call that changes a value: to what the grammar says, and not at all where it stops
abbrev pub Changes : {X A : Type 0} → Result X Stop → Result A Problem → A → A → Type 0
Changes (Ok x) read old new = read ≡ Ok new
Changes (Err stop) read old new = Stops stop read × (new ≡ old)

-- as Stops, with the line
abbrev pub Fails : {A : Type 0} → Fault → Result A (Problem × ℕ) → Type 0
Fails faults.Memory read = Unit {0}
Fails (faults.Problem problem line) read = read ≡ Err (problem, line)

-- the fault of a stop in this line
abbrev pub fault_at : ℕ → Stop → Fault
fault_at line stops.Memory = faults.Memory
fault_at line (stops.Problem problem) = faults.Problem problem line

-- what was returned, seen by view, is what the grammar reads
abbrev pub Reads : {X A : Type 0} → (X → A) → Result X Problem → Result A Problem → Type 0
Reads view (Ok x) read = read ≡ Ok (view x)
Reads view (Err problem) read = read ≡ Err problem
