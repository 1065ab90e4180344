use Rattle.std.proofs.Common.{◌≡◌, ◌<◌, ℕ, length, drop}
use Rattle.std.specs.List.{AllByRecursion}
use Rattle.droid_pronom.specs.Registry.{AnyOf}
use Rattle.droid_pronom.specs.FoundWindows.{Stands}
use Rattle.droid_pronom.specs.declared.rows.Priority.{Priority}
use Rattle.droid_pronom.proofs.Marks.{Marks}
use Rattle.droid_pronom.proofs.steps.priority.beaten_formats.Given as goal

-- the flags stand for the priorities so far
abbrev pub invariant-loop-row : goal.invariant-loop-row
invariant-loop-row l =
    let Q : ℕ → Priority → Type 0 = λ k row. Stands l.hit row.place × (row.over ≡ k) in
    (length l.beaten.items ≡ length l.hit)
    × AllByRecursion (λ row. (row.place < length l.hit) × (row.over < length l.hit)) (drop l.row-index l.priorities)
    × Marks Q l.beaten.items (drop l.row-index l.priorities) (λ k. AnyOf (Q k) l.priorities)
