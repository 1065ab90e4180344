-- Which refusal says that the database refused for another cause than memory (this project's own).
use Rattle.std.specs.Prelude.{Bool, true, false}
use Rattle.droid_frame.specs.declared.refusal.Refusal.{Refusal}
use Rattle.droid_frame.specs.declared.refusal.Refusal.TheVariants.{Store}

-- the refusal Store, which says so
abbrev pub says_store : Refusal → Bool
says_store Store = true
says_store _ = false
