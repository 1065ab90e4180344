-- The files that are bare in a journal that was made smaller (this project's own).
use Rattle.std.specs.Prelude.{ℕ, ◌+◌, ◌*◌, ◌&&◌, ◌||◌, [], Bool, List, nat_lt}
use Rattle.droid_recovery.specs.BareWorlds.{Bare}
use Rattle.droid_journal.specs.Records.{Record}
use Rattle.droid_compaction.specs.Shortening.{has_ended, once}

-- the number of a file as the rewriting has it: four bytes of its profile, and four of its own
abbrev pub file_number : ℕ → ℕ → ℕ
file_number profile file = profile * 4294967296 + file

-- bare before, or ended: only numbers of four bytes stand in requests
abbrev pub or_ended : Bare → (ℕ → Bool) → Bare
or_ended bare ended profile file =
    bare profile file || (nat_lt profile 4294967296 && (nat_lt file 4294967296 && ended (file_number profile file)))

-- the bare files after these records were made smaller, of which these were bare before
abbrev pub bare_after : Bare → List Record → Bare
bare_after bare its = or_ended bare (has_ended (once [] its))
