-- The bytes of a frame's header (this project's own).
use Rattle.std.specs.Prelude.{ℕ, List, ◌∷◌, ◌++◌}
use Rattle.droid_frame.specs.declared.streams.header.Header.{Header}
use Rattle.droid_frame.specs.Fields.{u32_bytes, u64_bytes}

-- version, kind, client, number, the length of the body
abbrev pub header_bytes : Header → List ℕ
header_bytes header =
    header.version ∷ header.kind ∷ (u32_bytes header.client ++ (u64_bytes header.number ++ u32_bytes header.length))
