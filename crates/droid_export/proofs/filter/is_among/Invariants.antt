use Rattle.std.proofs.Common.{◌≡◌, drop}
use Rattle.std.specs.List.{list_any}
use Rattle.std.specs.Str.{bytes_eq}
use Rattle.droid_export.proofs.filter.is_among.Given as goal

-- what is left says the same as the whole
abbrev pub invariant-loop-place : goal.invariant-loop-place
invariant-loop-place l = list_any (λ other. bytes_eq l.text other) (drop l.place l.texts) ≡ list_any (λ other. bytes_eq l.text other) l.texts
