-- For inner clauses and proofs: the number of a request, by its kind and body, as `Numbers` has it by what it asks.
use Rattle.std.specs.Prelude.{ℕ, ◌==◌, if◌then◌else◌, List, ◌∷◌, ◌++◌, take, unwrap_or}
use Rattle.droid_frame.specs.Fields.{u32_bytes}
use Rattle.droid_remote.specs.BodyFields.{u32_in, u64_in}
use Rattle.droid_remote.specs.Numbers.{digest_number, packed, packed_part}

-- of a Piece, whose bytes do not count
abbrev pub piece_number : List ℕ → ℕ
piece_number body =
    unwrap_or (packed 4 (u32_in 0 body) (u32_in 4 body) (u32_in 8 body)) (digest_number (4 ∷ take 12 body))

-- of a Finish, an Abandon or a Status
abbrev pub file_number : ℕ → List ℕ → ℕ
file_number kind body = unwrap_or (packed kind (u32_in 0 body) (u32_in 4 body) 0) (digest_number (kind ∷ body))

-- of a part of the export
abbrev pub part_number : List ℕ → ℕ
part_number body = unwrap_or (packed_part (u32_in 0 body) (u64_in 4 body)) (digest_number (8 ∷ take 12 body))

-- of any request, by its kind
abbrev pub number_by : List ℕ → ℕ → ℕ → List ℕ → ℕ
number_by name attempt kind body =
    if kind == 1 then digest_number (1 ∷ name)
    else if kind == 2 then digest_number (2 ∷ (u32_bytes attempt ++ body))
    else if kind == 3 then digest_number (3 ∷ (u32_bytes attempt ++ body))
    else if kind == 4 then piece_number body
    else if kind == 5 then file_number 5 body
    else if kind == 6 then file_number 6 body
    else if kind == 7 then file_number 7 body
    else part_number body
