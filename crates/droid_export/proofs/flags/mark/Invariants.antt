use Rattle.std.proofs.Common.{◌≡◌, ◌<◌, ◌==◌, ◌||◌, ℕ, false, length, get_or, take}
use Rattle.std.specs.List.{list_any}
use Rattle.droid_export.proofs.flags.mark.Given as goal

-- the flags at the first places are set
abbrev pub invariant-loop-place : goal.invariant-loop-place
invariant-loop-place l = record {
  long : length l.flags ≡ length l.fn.flags;
  marked : (at : ℕ) → at < length l.fn.flags → get_or l.flags at false ≡ (get_or l.fn.flags at false || list_any (λ place. place == at) (take l.place-index l.places));
}
