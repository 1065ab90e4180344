-- The text after the word for each kind of request (this project's own rule).
use Rattle.std.specs.Prelude.{ℕ, ℤ, ◌^◌, ◌==◌, if◌then◌else◌, List, [], length, codes, Option, Some, None}
use Rattle.std.specs.Result.{result_ok}
use Rattle.std.specs.Str.{bytes_eq}
use Rattle.hex.specs.Hex.{decode_of}
use Rattle.droid_frame.specs.declared.hash_kind.HashKind.{HashKind}
use Rattle.droid_frame.specs.declared.hash_kind.HashKind.TheVariants as kinds
use Rattle.droid_frame.specs.declared.request.Request.{Request}
use Rattle.droid_frame.specs.declared.request.Request.TheVariants.{CreateProfile, AddFolder, AddFile, Piece, Finish}
use Rattle.droid_frame.specs.declared.request.Request.TheVariants.{Abandon, Status}
use Rattle.droid_frame.specs.Reading.{◌>>=◌}
use Rattle.droid_lines.specs.Exports.{export_words}
use Rattle.droid_lines.specs.Words.{number_below, number_word, signed_word, truth_word, word_at}

-- the kind of hash for a profile's files: `none`, `md5` or `sha256`
unfoldable pub hash_word : List ℕ → Option HashKind
hash_word word =
    if bytes_eq word (codes "none") then Some kinds.Nothing
    else if bytes_eq word (codes "md5") then Some kinds.Md5
    else if bytes_eq word (codes "sha256") then Some kinds.Sha256
    else None

-- `LIMIT ALL`: the profile gets MD5
unfoldable pub plain_create_words : List ℕ → Option Request
plain_create_words text = do
  limit ← number_word (2 ^ 32) text
  match_all ← truth_word limit.1
  Some (CreateProfile limit.0 match_all kinds.Md5)

-- `LIMIT ALL HASH`
unfoldable pub hashed_create_words : List ℕ → Option Request
hashed_create_words text = do
  limit ← number_word (2 ^ 32) text
  all ← word_at limit.1
  match_all ← truth_word all.0
  hash ← hash_word all.1
  Some (CreateProfile limit.0 match_all hash)

-- a line of version 1 names no hash, and one of version 2 does
unfoldable pub create_words : ℕ → List ℕ → Option Request
create_words version text = if version == 1 then plain_create_words text else hashed_create_words text

-- `PROFILE PARENT MODIFIED`, and the text after the space
unfoldable pub node_place : List ℕ → Option (ℕ × ℕ × ℤ × List ℕ)
node_place text = do
  profile ← number_word (2 ^ 32) text
  parent ← number_word (2 ^ 32) profile.1
  modified ← signed_word parent.1
  Some (profile.0, parent.0, modified.0, modified.1)

-- `PROFILE PARENT MODIFIED NAME`: the name is all of the text after the space, and may be empty
unfoldable pub folder_words : List ℕ → Option Request
folder_words text = do
  place ← node_place text
  Some (AddFolder place.0 place.1 place.2 place.3)

-- `SIZE PIECESIZE NAME`
unfoldable pub file_sizes : List ℕ → Option (ℕ × ℕ × List ℕ)
file_sizes text = do
  size ← number_word (2 ^ 64) text
  piece_size ← number_word (2 ^ 32) size.1
  Some (size.0, piece_size.0, piece_size.1)

-- `PROFILE PARENT MODIFIED SIZE PIECESIZE NAME`
unfoldable pub file_words : List ℕ → Option Request
file_words text = do
  place ← node_place text
  sizes ← file_sizes place.3
  Some (AddFile place.0 place.1 place.2 sizes.0 sizes.1 sizes.2)

-- `PROFILE FILE INDEX`, and the text after the space
unfoldable pub piece_place : List ℕ → Option (ℕ × ℕ × ℕ × List ℕ)
piece_place text = do
  profile ← number_word (2 ^ 32) text
  file ← number_word (2 ^ 32) profile.1
  index ← number_word (2 ^ 32) file.1
  Some (profile.0, file.0, index.0, index.1)

-- two hexadecimal digits for each byte, or `-` for no bytes
unfoldable pub bytes_word : List ℕ → Option (List ℕ)
bytes_word word =
    if bytes_eq word (codes "-") then Some []
    else if length word == 0 then None
    else result_ok (decode_of word)

-- `PROFILE FILE INDEX HEX`
unfoldable pub piece_words : List ℕ → Option Request
piece_words text = do
  place ← piece_place text
  bytes ← bytes_word place.3
  Some (Piece place.0 place.1 place.2 bytes)

-- `PROFILE FILE`
unfoldable pub file_place : List ℕ → Option (ℕ × ℕ)
file_place text = do
  profile ← number_word (2 ^ 32) text
  file ← number_below (2 ^ 32) profile.1
  Some (profile.0, file)

-- `PROFILE FILE`
unfoldable pub finish_words : List ℕ → Option Request
finish_words text = do
  place ← file_place text
  Some (Finish place.0 place.1)

-- `PROFILE FILE`
unfoldable pub abandon_words : List ℕ → Option Request
abandon_words text = do
  place ← file_place text
  Some (Abandon place.0 place.1)

-- `PROFILE FILE`
unfoldable pub status_words : List ℕ → Option Request
status_words text = do
  place ← file_place text
  Some (Status place.0 place.1)

-- the request in the text after a kind's word, in a line of this version
unfoldable pub request_words : ℕ → List ℕ → List ℕ → Option Request
request_words version kind text =
    if bytes_eq kind (codes "create") then create_words version text
    else if bytes_eq kind (codes "folder") then folder_words text
    else if bytes_eq kind (codes "file") then file_words text
    else if bytes_eq kind (codes "piece") then piece_words text
    else if bytes_eq kind (codes "finish") then finish_words text
    else if bytes_eq kind (codes "abandon") then abandon_words text
    else if bytes_eq kind (codes "status") then status_words text
    else if bytes_eq kind (codes "export") then export_words text
    else None
