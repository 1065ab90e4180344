-- The names in a folder, split from the bytes that it reads as (this project's own).
use Rattle.std.specs.Prelude.{ℕ, Bool, not, ◌&&◌, ◌==◌, List, [], ◌∷◌, length, filter}
use Rattle.std.specs.List.{slice_split}
use Rattle.std.specs.Str.{bytes_eq}

-- the name of an entry: not empty, and neither `.` nor `..`
abbrev pub is_entry : List ℕ → Bool
is_entry name = not (length name == 0) && not (bytes_eq name (46 ∷ [])) && not (bytes_eq name (46 ∷ 46 ∷ []))

-- the names of the entries, in the order of the bytes; each name ends with a zero byte
abbrev pub names_of : List ℕ → List (List ℕ)
names_of bytes = filter is_entry (slice_split (λ byte. byte == 0) bytes)
