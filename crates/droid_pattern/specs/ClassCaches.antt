-- A cache is valid for the bytes that it was computed from.
use Rattle.std.specs.Prelude.{ℕ, List}
use Rattle.droid_pattern.specs.declared.class_cache.ClassCache.{ClassCache}
use Rattle.droid_pattern.specs.declared.direction.Direction.TheVariants as direction
use Rattle.droid_pattern.specs.Positions.{AreSetsOf}

-- the cached sets are those of these bytes
abbrev pub AreOf : List ℕ → ClassCache → Type 0
AreOf bytes classes =
    AreSetsOf direction.End bytes classes.toward_end.items × AreSetsOf direction.Start bytes classes.toward_start.items
