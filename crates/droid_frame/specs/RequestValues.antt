-- For inner clauses and proofs, and for the clause `exact` of `request_of`: functions that read requests from the front
-- of bytes.
use Rattle.std.specs.Prelude.{ℕ, ◌^◌, nat_lt, ◌==◌, if◌then◌else◌, List, Option, Some, None}
use Rattle.std.specs.Int.{w32, w64}
use Rattle.droid_frame.specs.declared.frame.Frame.{Frame}
use Rattle.droid_frame.specs.declared.request.Request.{Request}
use Rattle.droid_frame.specs.declared.request.Request.TheVariants.{CreateProfile, AddFolder, AddFile, Piece, Finish}
use Rattle.droid_frame.specs.declared.request.Request.TheVariants.{Abandon, Status, Export}
use Rattle.droid_frame.specs.Versions.{is_version}
use Rattle.droid_frame.specs.HashFields.{carried_kind_at}
use Rattle.droid_frame.specs.FilterValues.{filter_value}
use Rattle.droid_frame.specs.NodeHeads.{node_head_at}
use Rattle.droid_frame.specs.Reading.{◌>>=◌, number_at, truth_at, text_at, whole}

-- ---- the request of each kind that the whole body spells

-- kind 1
unfoldable pub create_profile_value : ℕ → List ℕ → Option Request
create_profile_value version body = do
  scan_limit ← number_at w32 body
  match_all ← truth_at scan_limit.1
  hash ← carried_kind_at version match_all.1
  whole hash.1 (CreateProfile scan_limit.0 match_all.0 hash.0)

-- kind 2
unfoldable pub add_folder_value : List ℕ → Option Request
add_folder_value body = do
  head ← node_head_at body
  name ← text_at head.1
  Some (AddFolder head.0.profile head.0.parent head.0.modified name)

-- kind 3
unfoldable pub add_file_value : List ℕ → Option Request
add_file_value body = do
  head ← node_head_at body
  size ← number_at w64 head.1
  piece_size ← number_at w32 size.1
  name ← text_at piece_size.1
  Some (AddFile head.0.profile head.0.parent head.0.modified size.0 piece_size.0 name)

-- kind 4
unfoldable pub piece_value : List ℕ → Option Request
piece_value body = do
  profile ← number_at w32 body
  file ← number_at w32 profile.1
  index ← number_at w32 file.1
  Some (Piece profile.0 file.0 index.0 index.1)

-- the numbers of a profile and a file, and nothing after them
unfoldable pub file_value : List ℕ → Option (ℕ × ℕ)
file_value body = do
  profile ← number_at w32 body
  file ← number_at w32 profile.1
  whole file.1 (profile.0, file.0)

-- kind 5
unfoldable pub finish_value : List ℕ → Option Request
finish_value body = do
  file ← file_value body
  Some (Finish file.0 file.1)

-- kind 6
unfoldable pub abandon_value : List ℕ → Option Request
abandon_value body = do
  file ← file_value body
  Some (Abandon file.0 file.1)

-- kind 7
unfoldable pub status_value : List ℕ → Option Request
status_value body = do
  file ← file_value body
  Some (Status file.0 file.1)

-- kind 8
unfoldable pub export_value : List ℕ → Option Request
export_value body = do
  profile ← number_at w32 body
  from ← number_at w64 profile.1
  max ← number_at w32 from.1
  filter ← filter_value max.1
  Some (Export profile.0 from.0 max.0 filter)

-- the request, if its kind has no list
unfoldable pub plain_value : ℕ → ℕ → List ℕ → Option Request
plain_value version kind body =
    if kind == 1 then create_profile_value version body
    else if kind == 2 then add_folder_value body
    else if kind == 3 then add_file_value body
    else if kind == 4 then piece_value body
    else if kind == 5 then finish_value body
    else if kind == 6 then abandon_value body
    else if kind == 7 then status_value body
    else None

-- the request that the kind and the body spell in version 1 or 2, if there is one
unfoldable pub any_value : ℕ → ℕ → List ℕ → Option Request
any_value version kind body = if kind == 8 then export_value body else plain_value version kind body

-- the request that the version, the kind and the body spell, if there is one
unfoldable pub request_value : ℕ → ℕ → List ℕ → Option Request
request_value version kind body = if is_version version then any_value version kind body else None

-- the request of a frame, if its number is below 2^63
unfoldable pub request_in : Frame → Option Request
request_in frame = if nat_lt frame.number (2 ^ 63) then request_value frame.version frame.kind frame.body else None
