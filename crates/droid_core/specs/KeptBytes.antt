-- The number of bytes of content that a service keeps of a file, and its bound.
use Rattle.std.specs.Prelude.{ℕ, ◌+◌, ◌*◌, ◌≤◌, ⊤, min, if◌then◌else◌, Option, None, Some}
use Rattle.droid_assembly.specs.Pieces.{kept_bytes}
use Rattle.droid_core_spec.specs.Files.{count_of}
use Rattle.droid_core_spec.specs.World.{Content, Node, Folder, File, Abandoned, Profile, World, numbered, node_at}

-- the number of bytes that are kept of the pieces of an unfinished file
abbrev pub bytes_kept : Profile → Content → ℕ
bytes_kept profile content = kept_bytes profile.scan_limit (count_of content) content.pieces

-- its bound: two windows and sixteen pieces, whichever pieces were taken
abbrev pub most_bytes : Profile → Content → ℕ
most_bytes profile content = 2 * min profile.scan_limit content.size + 16 * content.piece_size

-- a count of an unfinished file; none of any other node
abbrev pub of_node : (Profile → Content → ℕ) → Profile → Option Node → Option ℕ
of_node counted profile None = None
of_node counted profile (Some (Folder parent modified name)) = None
of_node counted profile (Some (File parent modified name content)) =
    if content.finished then None else Some (counted profile content)
of_node counted profile (Some Abandoned) = None

-- a count of the file with this number, if the profile is there and the file is unfinished
abbrev pub in_profile : (Profile → Content → ℕ) → Option Profile → ℕ → Option ℕ
in_profile counted None id = None
in_profile counted (Some profile) id = of_node counted profile (node_at profile.nodes id)

-- the count for the file with this number in this profile; none unless it is unfinished
abbrev pub kept_bytes_of : World → ℕ → ℕ → Option ℕ
kept_bytes_of world profile id = in_profile bytes_kept (numbered world.profiles profile) id

-- the bound of that count, likewise
abbrev pub most_bytes_of : World → ℕ → ℕ → Option ℕ
most_bytes_of world profile id = in_profile most_bytes (numbered world.profiles profile) id

-- the size of its pieces, of which the last may have fewer bytes
abbrev pub piece_size_of : World → ℕ → ℕ → Option ℕ
piece_size_of world profile id = in_profile (λ its content. content.piece_size) (numbered world.profiles profile) id

-- both are there and the first is at most the second, or neither is there
abbrev pub IsAtMost : Option ℕ → Option ℕ → Type 0
IsAtMost None None = ⊤
IsAtMost None (Some most) = ⊥
IsAtMost (Some kept) None = ⊥
IsAtMost (Some kept) (Some most) = kept ≤ most
