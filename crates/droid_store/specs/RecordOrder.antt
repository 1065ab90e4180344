-- The order of the records of a profile.
use Rattle.std.specs.Prelude.{◌<◌, List, [], ◌∷◌}
use Rattle.std.specs.List.{AllByRecursion}
use Rattle.droid_frame.specs.declared.record.Record.{Record}

-- each record has a greater number than those before it
abbrev pub AreByNumber : List Record → Type 0
AreByNumber [] = Unit {0}
AreByNumber (r ∷ rs) = AllByRecursion (λ s. r.id < s.id) rs × AreByNumber rs
