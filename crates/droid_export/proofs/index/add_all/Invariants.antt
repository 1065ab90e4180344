use Rattle.std.proofs.Common.{◌≡◌, ◌==◌, ◌||◌, ◌&&◌, ℕ, List, take}
use Rattle.droid_export.specs.Index.{has_key, names}
use Rattle.droid_export.proofs.index.add_all.Given as goal

-- the place was added to the first texts
abbrev pub invariant-loop-text : goal.invariant-loop-text
invariant-loop-text l = (text : List ℕ) (at : ℕ) → names l.named text at ≡ (names l.fn.named text at || (has_key l.caseless (take l.text-index l.items) text && (l.place == at)))
