-- What leads over one of the alternatives leads over one of those that are left.
use Rattle.std.proofs.Common.{ℕ, ◌-◌}
use Rattle.droid_pattern.specs.Patterns.{Choice}
use Rattle.droid_pattern.specs.Cells.{front_number, runs_in, alternatives_in}
use Rattle.droid_pattern.specs.Positions.{Leads}
use Rattle.droid_pattern.proofs.alternatives.none_stands.Given as goal

abbrev pub invariant-loop : goal.invariant-loop
invariant-loop l =
    (q : ℕ) → Leads (Choice (alternatives_in l.packed)) l.bytes l.place q → Leads (Choice (runs_in (front_number l.packed - l.counter) l.rest)) l.bytes l.place q
