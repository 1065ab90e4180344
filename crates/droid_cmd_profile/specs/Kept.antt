-- A writer that may keep what it writes (this project's own).
use Rattle.std.specs.Prelude.{◌≡◌, ℕ, Bool, true, false, List, [], Option, Some, None, Vec, ⊤}
use Rattle.std.specs.declared.alloc.Global.{Global}
use Rattle.droid_cmd_profile.specs.declared.kept_output.Keeping.{Keeping}

-- nothing is kept yet
abbrev pub IsBegun : Bool → Option (Vec ℕ Global) → Type 0
IsBegun true (Some text) = text.items ≡ []
IsBegun true None = ⊥
IsBegun false (Some text) = ⊥
IsBegun false None = ⊤

-- what is known to be kept and written, if anything is kept
abbrev pub kept_by : Option (Vec ℕ Global) → Option (List ℕ) → Option (List ℕ)
kept_by (Some text) contents = Some text.items
kept_by None contents = contents

-- what was written, as far as it is known: what is kept, or else what the writer holds
abbrev pub kept_contents : {O : Type 0} → (O → Option (List ℕ)) → Keeping O → Option (List ℕ)
kept_contents contents keeping = kept_by keeping.text (contents keeping.output)
