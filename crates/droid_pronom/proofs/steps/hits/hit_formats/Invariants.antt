use Rattle.std.proofs.Common.{◌≡◌, ◌<◌, ℕ, length, drop}
use Rattle.std.specs.List.{AllByRecursion}
use Rattle.droid_pronom.specs.Registry.{AnyOf, Signed}
use Rattle.droid_pattern.specs.ClassCaches.{AreOf}
use Rattle.droid_pronom.specs.FoundWindows.{HitsWindows}
use Rattle.droid_pronom.proofs.Marks.{Marks}
use Rattle.droid_pronom.proofs.steps.hits.hit_formats.Given as goal

-- the flags stand for the signatures so far
abbrev pub invariant-loop-signature : goal.invariant-loop-signature
invariant-loop-signature l =
    let Q : ℕ → Signed → Type 0 = λ k signature. (signature.place ≡ k) × AllByRecursion (HitsWindows l.first l.last) signature.sequences in
    AreOf l.first l.begin
    × AreOf l.last l.end
    × (length l.hit.items ≡ l.count)
    × AllByRecursion (λ signature. signature.place < l.count) (drop l.signature-index l.signatures)
    × Marks Q l.hit.items (drop l.signature-index l.signatures) (λ k. AnyOf (Q k) l.signatures)
