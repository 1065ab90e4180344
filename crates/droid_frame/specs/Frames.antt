-- The bytes of a frame, and the mark of a request (this project's own).
use Rattle.std.specs.Prelude.{ℕ, List, ◌∷◌, ◌++◌, length}
use Rattle.md5.specs.Md5.{md5}
use Rattle.droid_frame.specs.declared.frame.Frame.{Frame}
use Rattle.droid_frame.specs.Fields.{u32_bytes, u64_bytes}

-- version, kind, client, number, the length of the body, the body
abbrev pub spelling : ℕ → ℕ → ℕ → ℕ → List ℕ → List ℕ
spelling version kind client number body =
    version ∷ kind ∷ (u32_bytes client ++ (u64_bytes number ++ (u32_bytes (length body) ++ body)))

-- the bytes of a frame
abbrev pub frame_bytes : Frame → List ℕ
frame_bytes frame = spelling frame.version frame.kind frame.client frame.number frame.body

-- the MD5 (RFC 1321) of the kind's byte followed by the body
abbrev pub mark_of : ℕ → List ℕ → List ℕ
mark_of kind body = md5 (kind ∷ body)
