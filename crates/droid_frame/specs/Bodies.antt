-- The spelling of requests: the version, kind and body bytes of each (this project's own).
use Rattle.std.specs.Prelude.{◌≡◌, ℕ, ◌≤◌, List, ◌++◌, length}
use Rattle.std.specs.Str.{IsUtf8}
use Rattle.droid_frame.specs.Limits.{body_limit}
use Rattle.droid_frame.specs.declared.request.Request.{Request}
use Rattle.droid_frame.specs.declared.request.Request.TheVariants.{CreateProfile, AddFolder, AddFile, Piece, Finish}
use Rattle.droid_frame.specs.declared.request.Request.TheVariants.{Abandon, Status, Export}
use Rattle.droid_frame.specs.Fields.{IsBytes, u32_bytes, u64_bytes, i64_bytes, truth_bytes, IsU32, IsU64, IsI64}
use Rattle.droid_frame.specs.Filters.{filter_bytes, IsFilter, FilterFits}
use Rattle.droid_frame.specs.Hashes.{CarriesHash, hash_field}
use Rattle.droid_frame.specs.Versions.{IsVersion}

-- the kind of a request's frame
abbrev pub request_kind : Request → ℕ
request_kind (CreateProfile scan_limit match_all hash) = 1
request_kind (AddFolder profile parent modified name) = 2
request_kind (AddFile profile parent modified size piece_size name) = 3
request_kind (Piece profile file index bytes) = 4
request_kind (Finish profile file) = 5
request_kind (Abandon profile file) = 6
request_kind (Status profile file) = 7
request_kind (Export profile from max filter) = 8

-- the fields of a request, one after the other; a name and a piece's bytes extend to the end of the body
abbrev pub request_body : ℕ → Request → List ℕ
request_body version (CreateProfile scan_limit match_all hash) =
    u32_bytes scan_limit ++ (truth_bytes match_all ++ hash_field version hash)
request_body version (AddFolder profile parent modified name) =
    u32_bytes profile ++ (u32_bytes parent ++ (i64_bytes modified ++ name))
request_body version (AddFile profile parent modified size piece_size name) =
    u32_bytes profile
    ++ (u32_bytes parent ++ (i64_bytes modified ++ (u64_bytes size ++ (u32_bytes piece_size ++ name))))
request_body version (Piece profile file index bytes) =
    u32_bytes profile ++ (u32_bytes file ++ (u32_bytes index ++ bytes))
request_body version (Finish profile file) = u32_bytes profile ++ u32_bytes file
request_body version (Abandon profile file) = u32_bytes profile ++ u32_bytes file
request_body version (Status profile file) = u32_bytes profile ++ u32_bytes file
request_body version (Export profile from max filter) =
    u32_bytes profile ++ (u64_bytes from ++ (u32_bytes max ++ filter_bytes filter))

-- the request has a spelling: each number fits its field, each text is UTF-8, each list fits its count, and the
-- version can carry the profile's hash
abbrev pub HasSpelling : ℕ → Request → Type 0
HasSpelling version (CreateProfile scan_limit match_all hash) = IsU32 scan_limit × CarriesHash version hash
HasSpelling version (AddFolder profile parent modified name) =
    IsU32 profile × IsU32 parent × IsI64 modified × IsUtf8 name
HasSpelling version (AddFile profile parent modified size piece_size name) =
    IsU32 profile × IsU32 parent × IsI64 modified × IsU64 size × IsU32 piece_size × IsUtf8 name
HasSpelling version (Piece profile file index bytes) = IsU32 profile × IsU32 file × IsU32 index × IsBytes bytes
HasSpelling version (Finish profile file) = IsU32 profile × IsU32 file
HasSpelling version (Abandon profile file) = IsU32 profile × IsU32 file
HasSpelling version (Status profile file) = IsU32 profile × IsU32 file
HasSpelling version (Export profile from max filter) = IsU32 profile × IsU64 from × IsU32 max × IsFilter filter

-- in this version the kind and the whole body spell the request
pub record SpellsRequest (version kind : ℕ) (body : List ℕ) (request : Request) : Type 0 where
  pub version_is : IsVersion version
  pub kind_is : kind ≡ request_kind request
  pub body_is : body ≡ request_body version request
  pub has_spelling : HasSpelling version request

-- the lists of an Export's filter fit their counts; the other requests have no list
abbrev pub ListsFit : Request → Type 0
ListsFit (Export profile from max filter) = FilterFits filter
ListsFit _ = Unit {0}

-- the version can carry the hash of a CreateProfile
abbrev pub HashFits : ℕ → Request → Type 0
HashFits version (CreateProfile scan_limit match_all hash) = CarriesHash version hash
HashFits version _ = Unit {0}

-- a frame of this version can carry the request
pub record Fits (version : ℕ) (request : Request) : Type 0 where
  pub version_is : IsVersion version
  pub body : length (request_body version request) ≤ body_limit version
  pub lists : ListsFit request
  pub hash : HashFits version request
