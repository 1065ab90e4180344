-- For inner clauses and proofs: tests of whether a body spells a request of a submission (`Submitted`).
use Rattle.std.specs.Prelude.{ℕ, ◌==◌, nat_le, nat_lt, ◌&&◌, if◌then◌else◌, Bool, false, List, length, drop}
use Rattle.std.specs.Prelude.{slice_index}
use Rattle.std.specs.Str.{is_utf8}
use Rattle.droid_remote.specs.BodyFields.{u32_in}

-- a number, a truth value and the kind of a hash
abbrev pub is_profile : List ℕ → Bool
is_profile body = (length body == 6) && nat_lt (slice_index body 4) 2 && nat_lt (slice_index body 5) 3

-- a name from this index on
abbrev pub is_node : ℕ → List ℕ → Bool
is_node name_at body = nat_le name_at (length body) && is_utf8 (drop name_at body)

-- a part of the largest size, of all records
abbrev pub is_part : List ℕ → Bool
is_part body =
    (length body == 18) && (u32_in 12 body == 1048576) && (slice_index body 16 == 1) && (slice_index body 17 == 0)

-- the kind and the body spell a request of a submission
abbrev pub is_submitted : ℕ → List ℕ → Bool
is_submitted kind body =
    if kind == 1 then is_profile body
    else if kind == 2 then is_node 16 body
    else if kind == 3 then is_node 28 body
    else if kind == 4 then nat_le 12 (length body)
    else if kind == 5 then length body == 8
    else if kind == 6 then length body == 8
    else if kind == 7 then length body == 8
    else if kind == 8 then is_part body
    else false
