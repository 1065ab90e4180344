-- The files of a tree that are open (this project's own). No read but the first of a file opens it.
use Rattle.std.specs.Prelude.{ℕ, ◌-◌, Bool, not, ◌||◌, nat_lt, cond, List, [], ◌∷◌, length, drop, filter, Option, Some}
use Rattle.std.specs.Prelude.{None}
use Rattle.std.specs.Str.{bytes_eq}

-- the file that is open by this path
abbrev pub held : {F : Type 0} → (F → List ℕ) → List ℕ → List F → Option F
held path_of path [] = None
held path_of path (file ∷ files) = cond (bytes_eq (path_of file) path) (Some file) (held path_of path files)

-- all but those that are open by this path
abbrev pub without : {F : Type 0} → (F → List ℕ) → List ℕ → List F → List F
without path_of path files = filter (λ file. not (bytes_eq (path_of file) path)) files

-- at most seven: of eight the one that was opened longest ago is closed
abbrev pub with_room : {F : Type 0} → List F → List F
with_room files = cond (nat_lt (length files) 8) files (drop 1 files)

-- a read from this offset showed the end of a file, which its folder lists with this length: fewer bytes came than were
-- asked for, or more than were left of that length
abbrev pub shows_end : ℕ → ℕ → ℕ → ℕ → Bool
shows_end len from wanted count = nat_lt count wanted || nat_lt (len - from) count

-- what was said before the first state is said before the second one too
abbrev pub Unseen : {D X : Type 0} → (D → X → D → Type 0) → D → D → Type 0
Unseen {D} {X} says disk disk_after = (before : D) (said : X) → says before said disk → says before said disk_after
