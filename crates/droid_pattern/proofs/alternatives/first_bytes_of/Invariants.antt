-- If the alternatives that are left begin with bytes among which those so far are, all alternatives do.
use Rattle.std.proofs.Common.{ℕ, ◌-◌}
use Rattle.droid_pattern.specs.Cells.{front_number, runs_in, alternatives_in}
use Rattle.droid_pattern.specs.FirstBytes.{BeginsIn, Has}
use Rattle.droid_pattern.specs.Patterns.{Choice}
use Rattle.droid_pattern.specs.declared.first_bytes.FirstBytes.{FirstBytes}
use Rattle.droid_pattern.proofs.alternatives.first_bytes_of.Given as goal

abbrev pub invariant-loop : goal.invariant-loop
invariant-loop l =
    (all : FirstBytes) → ((b : ℕ) → Has l.few b → Has all b) → BeginsIn all (Choice (runs_in (front_number l.packed - l.counter) l.rest)) → BeginsIn all (Choice (alternatives_in l.packed))
