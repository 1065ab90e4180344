use Rattle.std.proofs.Common.{◌≡◌, drop}
use Rattle.std.specs.List.{list_any}
use Rattle.droid_export.specs.Filters.{is_among}
use Rattle.droid_export.proofs.filter.shares_one.Given as goal

-- what is left says the same as the whole
abbrev pub invariant-loop-place : goal.invariant-loop-place
invariant-loop-place l = list_any (λ puid. is_among l.texts puid) (drop l.place l.puids) ≡ list_any (λ puid. is_among l.texts puid) l.puids
