use Rattle.std.proofs.Common.{◌≡◌, ◌≢◌, ◌⊎◌, ◌<◌, ℕ, true, [], length, drop}
use Rattle.std.specs.List.{AllByRecursion}
use Rattle.droid_pronom.specs.Registry.{AnyOf}
use Rattle.droid_pronom.specs.FoundWindows.{Stands}
use Rattle.droid_pronom.specs.declared.rows.ListedExtension.{ListedExtension}
use Rattle.droid_pronom.proofs.Marks.{Marks}
use Rattle.droid_pronom.proofs.steps.listings.named_formats.Given as goal

-- the flags stand for the rows so far
abbrev pub invariant-loop-row : goal.invariant-loop-row
invariant-loop-row l =
    let Q : ℕ → ListedExtension → Type 0 = λ k row. (row.place ≡ k) × (l.wanted ≢ []) × (row.extension ≡ l.wanted) × ((l.match_all ≡ true) ⊎ (Stands l.signed row.place → ⊥)) in
    (length l.named.items ≡ length l.signed)
    × AllByRecursion (λ row. row.place < length l.signed) (drop l.row-index l.extensions)
    × Marks Q l.named.items (drop l.row-index l.extensions) (λ k. AnyOf (Q k) l.extensions)
