use Rattle.std.proofs.Common.{◌≡◌, ◌<◌, ◌||◌, ℕ, List, false, length, get_or, take}
use Rattle.std.specs.List.{list_any}
use Rattle.droid_export.specs.Index.{names}
use Rattle.droid_export.proofs.flags.mark_all.Given as goal

-- the flags at the places of the first texts are set
abbrev pub invariant-loop-text : goal.invariant-loop-text
invariant-loop-text l = record {
  long : length l.flags ≡ length l.fn.flags;
  marked : (at : ℕ) → at < length l.fn.flags → get_or l.flags at false ≡ (get_or l.fn.flags at false || list_any (λ (text : List ℕ). names l.named text at) (take l.text-index l.items));
}
