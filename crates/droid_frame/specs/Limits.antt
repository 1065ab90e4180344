-- The limits of frames, requests and replies (this project's own).
use Rattle.std.specs.Prelude.{ℕ, ◌==◌, if◌then◌else◌}

-- the limit on the bytes of a frame's body in this version
abbrev pub body_limit : ℕ → ℕ
body_limit version = if version == 1 then 1048640 else 4194368

-- the limit on the criteria of a filter, on the texts of a list, and on the bytes of each of these texts
abbrev pub count_limit : ℕ
count_limit = 255

-- the limit on the format identifiers in a Finished
abbrev pub puids_limit : ℕ
puids_limit = 4096

-- the limit on the bytes of one format identifier
abbrev pub puid_limit : ℕ
puid_limit = 32

-- the limit on the bytes of the export's text in a Part
abbrev pub part_limit : ℕ
part_limit = 1048576
