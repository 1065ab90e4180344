-- Paths of folders and files: `/` and names, `/` between them (this project's own).
use Rattle.std.specs.Prelude.{ℕ, ◌==◌, Bool, false, not, ◌&&◌, List, [], ◌∷◌, length, codes}
use Rattle.std.specs.List.{list_all, slice_split}
use Rattle.std.specs.Str.{bytes_eq}

-- the name of a folder or a file: neither empty nor `.` nor `..`, and without a zero byte
abbrev pub is_name : List ℕ → Bool
is_name name =
    not (length name == 0) && not (bytes_eq name (codes ".")) && not (bytes_eq name (codes ".."))
    && list_all (λ b. not (b == 0)) name

-- names with `/` between them
abbrev pub is_plain : List ℕ → Bool
is_plain text = list_all is_name (slice_split (λ b. b == 47) text)

-- the path of a file: `/` and names, `/` between them
abbrev pub is_file_path : List ℕ → Bool
is_file_path [] = false
is_file_path (b ∷ path) = (b == 47) && is_plain path
