use Rattle.std.proofs.Common.{◌≡◌, drop}
use Rattle.std.specs.List.{list_any}
use Rattle.std.specs.Str.{str_eq_ignore_ascii_case}
use Rattle.droid_export.proofs.filter.is_among_in_any_case.Given as goal

-- what is left says the same as the whole
abbrev pub invariant-loop-place : goal.invariant-loop-place
invariant-loop-place l = list_any (λ other. str_eq_ignore_ascii_case l.text other) (drop l.place l.texts) ≡ list_any (λ other. str_eq_ignore_ascii_case l.text other) l.texts
