-- Worked rows, computed in the definitions.
use Rattle.std.proofs.Common.{◌≡◌, ℕ, List, [], ◌∷◌, refl, true, false}
use Rattle.std.specs.Prelude.{pos, codes, map}
use Rattle.std.specs.List.{flat_map}
use Rattle.md5.specs.Md5.{md5, block_words, rounds, compress, hash_after, digest_bytes}
use Rattle.sha2.specs.Sha256.{sha256}
use Rattle.droid_core_spec.specs.Records.{records}
use Rattle.droid_frame.specs.Reading.{truth_at, whole}
use Rattle.droid_frame.specs.HashFields.{hash_kind_at, carried_kind_at}
use Rattle.droid_frame.specs.RequestValues.{abandon_value, any_value, create_profile_value, file_value, plain_value, request_value, request_in}
use Rattle.droid_frame.specs.declared.filter.Filter.{Filter}
use Rattle.droid_frame.specs.declared.frame.Frame.{Frame}
use Rattle.droid_frame.specs.Hashes.{hash_kind_number}
use Rattle.droid_frame.specs.declared.hash_kind.HashKind.{HashKind}
use Rattle.droid_frame.specs.declared.hash_kind.HashKind.TheVariants as hash_kinds
use Rattle.droid_frame.specs.declared.hash_value.HashValue.{HashValue}
use Rattle.droid_frame.specs.declared.hash_value.HashValue.TheVariants as hashes
use Rattle.droid_frame.specs.declared.method.Method.TheVariants.{Unidentified}
use Rattle.droid_frame.specs.declared.refusal.Limit.TheVariants as reached
use Rattle.droid_frame.specs.declared.refusal.Refusal.TheVariants as refusals
use Rattle.droid_frame.specs.declared.reply.Reply.TheVariants as replies
use Rattle.droid_frame.specs.declared.request.Request.{Request}
use Rattle.droid_frame.specs.declared.request.Request.TheVariants.{CreateProfile, AddFolder, AddFile, Piece, Finish, Abandon, Status, Export}
use Rattle.droid_frame.specs.declared.reply.Reply.{Reply}
use Rattle.droid_core_spec.specs.Limits.{Limits}
use Rattle.droid_core_spec.specs.Conditions.{is_scan_limit, is_piece_size, is_part_size, is_too_large, is_moment, is_bad_name, is_missing, is_file, is_too_deep}
use Rattle.droid_core_spec.specs.Histories.{command, world_of, verdict_reply, world_after, meeting, answer, answers, entry_of, next}
use Rattle.droid_core_spec.specs.Judging.{judge, judge_create, judge_folder, judge_file, judge_piece, judge_finish, judge_abandon, judge_status, judge_export}
use Rattle.droid_core_spec.specs.Setting.{Setting}
use Rattle.droid_core_spec.specs.World.{Folder, File, World, empty_world, is_taken}
use Rattle.droid_assembly.specs.Pieces.{missing, file_bytes}

abbrev plain : Limits → Setting
plain limits = record {
  limits = limits;
  identify = λ name bytes limit all. record { method = Unidentified; mismatch = false; puids = [] };
  export_text = λ records filter hash. [];
}

abbrev usual : Setting
usual = plain (record { profiles = 64; nodes = 100000; unfinished = 64 })

-- the replies to requests under new numbers, each sent in its version, one after the other
abbrev replies_to : Setting → World → List (ℕ × Request) → List Reply
replies_to setting world [] = []
replies_to setting world (asked ∷ rest) =
    verdict_reply (judge setting world asked.0 asked.1) ∷ replies_to setting (world_after world (judge setting world asked.0 asked.1)) rest

-- all of them sent in version 1
abbrev replies_from : Setting → World → List Request → List Reply
replies_from setting world requests = replies_to setting world (map (λ request. (1, request)) requests)

-- too far ahead: w of 20 pieces of one byte
pub too_far_ahead : replies_from usual empty_world (
    CreateProfile 65536 false hash_kinds.Md5
    ∷ AddFile 1 0 (pos 0) 20 1 (codes "w")
    ∷ Piece 1 1 15 (112 ∷ [])
    ∷ Piece 1 1 16 (113 ∷ [])
    ∷ Piece 1 1 0 (97 ∷ [])
    ∷ Piece 1 1 16 (113 ∷ [])
    ∷ Status 1 1
    ∷ []
    ) ≡ replies.Made 1 ∷ replies.Node 1 ∷ replies.Taken 1 ∷ replies.Refused (refusals.TooFarAhead 0) ∷ replies.Taken 2 ∷ replies.Taken 3 ∷ replies.Progress 3 1 ∷ []
unfolding judge judge_create judge_folder judge_file judge_piece judge_finish judge_abandon judge_status judge_export is_scan_limit is_piece_size is_part_size is_too_large is_moment is_bad_name is_missing is_file is_too_deep is_taken missing file_bytes
too_far_ahead = refl

-- bad pieces and one that is held: m.msg, 14 bytes in pieces of 4
pub bad_and_held_pieces : replies_from usual empty_world (
    CreateProfile 65536 false hash_kinds.Md5
    ∷ AddFile 1 0 (pos 0) 14 4 (codes "m.msg")
    ∷ Piece 1 1 0 (codes "mess")
    ∷ Piece 1 1 0 (codes "mess")
    ∷ Piece 1 1 3 (codes "s")
    ∷ Piece 1 1 3 (codes "stt")
    ∷ Piece 1 1 4 (codes "s")
    ∷ Piece 1 1 3 (codes "st")
    ∷ Finish 1 1
    ∷ []
    ) ≡ replies.Made 1 ∷ replies.Node 1 ∷ replies.Taken 1 ∷ replies.Refused refusals.PieceHeld ∷ replies.Refused refusals.BadPiece ∷ replies.Refused refusals.BadPiece
    ∷ replies.Refused refusals.BadPiece ∷ replies.Taken 2 ∷ replies.Refused (refusals.Incomplete 1) ∷ []
unfolding judge judge_create judge_folder judge_file judge_piece judge_finish judge_abandon judge_status judge_export is_scan_limit is_piece_size is_part_size is_too_large is_moment is_bad_name is_missing is_file is_too_deep is_taken missing file_bytes
bad_and_held_pieces = refl

-- an abandoned file's number isn't given again, and its name is free
pub abandoned : replies_from usual empty_world (
    CreateProfile 65536 false hash_kinds.Md5
    ∷ AddFile 1 0 (pos 0) 4 4 (codes "x")
    ∷ Abandon 1 1
    ∷ Piece 1 1 0 (codes "aaaa")
    ∷ AddFile 1 0 (pos 0) 4 4 (codes "x")
    ∷ Status 1 1
    ∷ Status 1 2
    ∷ []
    ) ≡ replies.Made 1 ∷ replies.Node 1 ∷ replies.Abandoned ∷ replies.Refused refusals.NoSuchNode ∷ replies.Node 2 ∷ replies.Refused refusals.NoSuchNode ∷ replies.Progress 0 0 ∷ []
unfolding judge judge_create judge_folder judge_file judge_piece judge_finish judge_abandon judge_status judge_export is_scan_limit is_piece_size is_part_size is_too_large is_moment is_bad_name is_missing is_file is_too_deep is_taken missing file_bytes
abandoned = refl

-- one unfinished file at a time; the limit is judged after the size
pub limit_of_unfinished : replies_from (plain (record { profiles = 1; nodes = 9; unfinished = 1 })) empty_world (
    CreateProfile 65536 false hash_kinds.Md5
    ∷ CreateProfile 65536 false hash_kinds.Md5
    ∷ AddFile 1 0 (pos 0) 4 4 (codes "x")
    ∷ AddFile 1 0 (pos 0) 4 4 (codes "y")
    ∷ AddFile 1 0 (pos 0) 1099511627777 1048576 (codes "y")
    ∷ AddFile 1 0 (pos 0) 1048577 1 (codes "y")
    ∷ AddFile 1 0 (pos 0) 4 0 (codes "y")
    ∷ AddFile 1 0 (pos 0) 4 1048577 (codes "y")
    ∷ AddFile 1 0 (pos 0) 4 4 (codes "x")
    ∷ AddFile 1 1 (pos 0) 4 4 (codes "y")
    ∷ Abandon 1 1
    ∷ AddFile 1 0 (pos 0) 4 4 (codes "y")
    ∷ []
    ) ≡ replies.Made 1 ∷ replies.Refused (refusals.LimitReached reached.Profiles) ∷ replies.Node 1 ∷ replies.Refused (refusals.LimitReached reached.Unfinished)
    ∷ replies.Refused refusals.TooLarge ∷ replies.Refused refusals.TooLarge ∷ replies.Refused refusals.BadOption ∷ replies.Refused refusals.BadOption
    ∷ replies.Refused refusals.NameTaken ∷ replies.Refused refusals.NotAFolder ∷ replies.Abandoned ∷ replies.Node 2 ∷ []
unfolding judge judge_create judge_folder judge_file judge_piece judge_finish judge_abandon judge_status judge_export is_scan_limit is_piece_size is_part_size is_too_large is_moment is_bad_name is_missing is_file is_too_deep is_taken missing file_bytes
limit_of_unfinished = refl

-- pieces out of order, and what is asked after the file is finished
abbrev message_requests : List Request
message_requests =
    CreateProfile 65536 false hash_kinds.Md5
    ∷ AddFile 1 0 (pos 0) 14 4 (codes "m.msg")
    ∷ Piece 1 1 3 (codes "st")
    ∷ Piece 1 1 1 (codes "age ")
    ∷ Piece 1 1 0 (codes "mess")
    ∷ Piece 1 1 2 (codes "dige")
    ∷ Finish 1 1
    ∷ Piece 1 1 2 (codes "dige")
    ∷ Finish 1 1
    ∷ Abandon 1 1
    ∷ Status 1 1
    ∷ []

pub pieces_out_of_order : replies_from usual empty_world message_requests
    ≡ replies.Made 1 ∷ replies.Node 1 ∷ replies.Taken 1 ∷ replies.Taken 2 ∷ replies.Taken 3 ∷ replies.Taken 4
    ∷ replies.Finished Unidentified false (hashes.Md5 (md5 (codes "message digest"))) [] ∷ replies.Refused refusals.AlreadyFinished ∷ replies.Refused refusals.AlreadyFinished
    ∷ replies.Refused refusals.AlreadyFinished ∷ replies.Progress 4 4 ∷ []
unfolding judge judge_create judge_folder judge_file judge_piece judge_finish judge_abandon judge_status judge_export is_scan_limit is_piece_size is_part_size is_too_large is_moment is_bad_name is_missing is_file is_too_deep is_taken missing file_bytes
pieces_out_of_order = refl

-- an empty file is complete at once; a folder is no file, a file is no folder
pub empty_file_and_kinds : replies_from usual empty_world (
    CreateProfile 65536 false hash_kinds.Md5
    ∷ AddFile 1 0 (pos 0) 0 4 (codes "e.txt")
    ∷ Finish 1 1
    ∷ AddFolder 1 0 (pos 0) (codes "in")
    ∷ Finish 1 2
    ∷ Status 1 2
    ∷ AddFolder 1 1 (pos 0) (codes "in")
    ∷ AddFile 1 2 (pos 0) 1 1 (codes "..")
    ∷ AddFile 1 9 (pos 0) 1 1 (codes "f")
    ∷ AddFile 2 0 (pos 0) 1 1 (codes "f")
    ∷ AddFile 1 0 (pos 253402300800) 1 1 (codes "f")
    ∷ AddFile 1 2 (pos 0) 1 1 (codes "f")
    ∷ []
    ) ≡ replies.Made 1 ∷ replies.Node 1 ∷ replies.Finished Unidentified false (hashes.Md5 (md5 [])) [] ∷ replies.Node 2 ∷ replies.Refused refusals.NotAFile ∷ replies.Refused refusals.NotAFile
    ∷ replies.Refused refusals.NotAFolder ∷ replies.Refused refusals.BadName ∷ replies.Refused refusals.NoSuchNode ∷ replies.Refused refusals.NoSuchProfile
    ∷ replies.Refused refusals.BadOption ∷ replies.Node 3 ∷ []
unfolding judge judge_create judge_folder judge_file judge_piece judge_finish judge_abandon judge_status judge_export is_scan_limit is_piece_size is_part_size is_too_large is_moment is_bad_name is_missing is_file is_too_deep is_taken missing file_bytes
empty_file_and_kinds = refl

-- slices of an export, over a text of nine bytes; a query isn't counted as accepted
pub slices_of_an_export : replies_from (record usual { export_text = λ records filter hash. codes "ten bytes" }) empty_world (
    CreateProfile 65536 false hash_kinds.Md5
    ∷ AddFolder 1 0 (pos 0) (codes "in")
    ∷ Export 1 0 1048576 (record { all = true; criteria = [] })
    ∷ Export 1 4 3 (record { all = true; criteria = [] })
    ∷ Export 1 9 9 (record { all = true; criteria = [] })
    ∷ Export 1 10 9 (record { all = true; criteria = [] })
    ∷ Export 1 0 0 (record { all = true; criteria = [] })
    ∷ Export 2 0 0 (record { all = true; criteria = [] })
    ∷ []
    ) ≡ replies.Made 1 ∷ replies.Node 1 ∷ replies.Part 2 9 (codes "ten bytes") ∷ replies.Part 2 9 (codes "byt") ∷ replies.Part 2 9 [] ∷ replies.Part 2 9 []
    ∷ replies.Refused refusals.BadOption ∷ replies.Refused refusals.NoSuchProfile ∷ []
unfolding judge judge_create judge_folder judge_file judge_piece judge_finish judge_abandon judge_status judge_export is_scan_limit is_piece_size is_part_size is_too_large is_moment is_bad_name is_missing is_file is_too_deep is_taken missing file_bytes
slices_of_an_export = refl

-- the records of a profile: the folder and the finished file, not the unfinished nor the abandoned one
abbrev world_from : Setting → World → List Request → World
world_from setting world [] = world
world_from setting world (request ∷ requests) = world_from setting (world_after world (judge setting world 1 request)) requests

abbrev records_shown : World → List (ℕ × List ℕ)
records_shown world = map (λ record_. (record_.id, record_.path)) (flat_map (λ profile. records usual profile) world.profiles)

pub records_of_a_profile : records_shown (world_from usual empty_world (
    CreateProfile 65536 false hash_kinds.Md5
    ∷ AddFolder 1 0 (pos 0) (codes "in")
    ∷ AddFile 1 1 (pos 0) 0 4 (codes "e.txt")
    ∷ AddFile 1 1 (pos 0) 1 4 (codes "u.txt")
    ∷ AddFile 1 1 (pos 0) 1 4 (codes "x.txt")
    ∷ Finish 1 2
    ∷ Abandon 1 4
    ∷ []
    )) ≡ (1, codes "/in") ∷ (2, codes "/in/e.txt") ∷ []
unfolding judge judge_create judge_folder judge_file judge_piece judge_finish judge_abandon judge_status judge_export is_scan_limit is_piece_size is_part_size is_too_large is_moment is_bad_name is_missing is_file is_too_deep is_taken missing file_bytes
records_of_a_profile = refl

-- an export states which hash its profile's files get; a file whose hash no reply of version 1 can carry isn't finished in it
abbrev every_record : Filter
every_record = record { all = true; criteria = [] }

pub hash_by_profile : replies_from (record usual { export_text = λ records filter hash. hash_kind_number hash ∷ [] }) empty_world (
    CreateProfile 65536 false hash_kinds.Sha256
    ∷ CreateProfile 65536 false hash_kinds.Nothing
    ∷ CreateProfile 65536 false hash_kinds.Md5
    ∷ AddFile 1 0 (pos 0) 3 3 (codes "abc")
    ∷ AddFile 2 0 (pos 0) 0 3 (codes "empty")
    ∷ AddFile 3 0 (pos 0) 0 3 (codes "empty")
    ∷ Finish 1 1
    ∷ Finish 2 1
    ∷ Finish 3 1
    ∷ Export 1 0 9 every_record
    ∷ Export 2 0 9 every_record
    ∷ Export 3 0 9 every_record
    ∷ []
    ) ≡ replies.Made 1 ∷ replies.Made 2 ∷ replies.Made 3 ∷ replies.Node 1 ∷ replies.Node 1 ∷ replies.Node 1
    ∷ replies.Refused refusals.BadOption ∷ replies.Refused refusals.BadOption ∷ replies.Finished Unidentified false (hashes.Md5 (md5 [])) []
    ∷ replies.Part 7 1 (2 ∷ []) ∷ replies.Part 7 1 (0 ∷ []) ∷ replies.Part 7 1 (1 ∷ []) ∷ []
unfolding judge judge_create judge_folder judge_file judge_piece judge_finish judge_abandon judge_status judge_export is_scan_limit is_piece_size is_part_size is_too_large is_moment is_bad_name is_missing is_file is_too_deep is_taken missing file_bytes
hash_by_profile = refl

-- a profile of SHA-256, made in version 2: in version 1 its files are added, and not finished, whole or not; larger
-- pieces are announced in version 2 alone
pub two_versions : replies_to usual empty_world (
    (2, CreateProfile 65536 false hash_kinds.Sha256)
    ∷ (1, AddFile 1 0 (pos 0) 0 4 (codes "e.txt"))
    ∷ (1, Finish 1 1)
    ∷ (2, Finish 1 1)
    ∷ (1, Finish 1 1)
    ∷ (1, AddFile 1 0 (pos 0) 4194304 4194304 (codes "g"))
    ∷ (2, AddFile 1 0 (pos 0) 4194304 4194304 (codes "g"))
    ∷ (2, AddFile 1 0 (pos 0) 4194305 4194305 (codes "h"))
    ∷ (1, Finish 1 2)
    ∷ (2, Finish 1 2)
    ∷ (2, Finish 1 3)
    ∷ (1, Finish 2 1)
    ∷ (2, Export 1 0 1048577 every_record)
    ∷ []
    ) ≡ replies.Made 1 ∷ replies.Node 1 ∷ replies.Refused refusals.BadOption ∷ replies.Finished Unidentified false (hashes.Sha256 (sha256 [])) []
    ∷ replies.Refused refusals.AlreadyFinished ∷ replies.Refused refusals.BadOption ∷ replies.Node 2 ∷ replies.Refused refusals.BadOption ∷ replies.Refused refusals.BadOption
    ∷ replies.Refused (refusals.Incomplete 0) ∷ replies.Refused refusals.NoSuchNode ∷ replies.Refused refusals.NoSuchProfile ∷ replies.Refused refusals.BadOption ∷ []
unfolding judge judge_create judge_folder judge_file judge_piece judge_finish judge_abandon judge_status judge_export is_scan_limit is_piece_size is_part_size is_too_large is_moment is_bad_name is_missing is_file is_too_deep is_taken missing file_bytes
two_versions = refl

-- a finished file's record has the hash of its profile's choice, and a folder's has none
abbrev hashes_shown : HashKind → List HashValue
hashes_shown kind = map (λ record_. record_.hash) (records usual (record {
  scan_limit = 65536;
  match_all = false;
  hash = kind;
  nodes = Folder 0 (pos 0) (codes "in") ∷ File 1 (pos 0) (codes "abc") (record { size = 3; piece_size = 3; pieces = (0, codes "abc") ∷ []; finished = true }) ∷ [];
}))

pub md5_shown : hashes_shown hash_kinds.Md5 ≡ hashes.Nothing ∷ hashes.Md5 (md5 (codes "abc")) ∷ []
unfolding missing file_bytes
md5_shown = refl

pub sha256_shown : hashes_shown hash_kinds.Sha256 ≡ hashes.Nothing ∷ hashes.Sha256 (sha256 (codes "abc")) ∷ []
unfolding missing file_bytes
sha256_shown = refl

pub no_hash_shown : hashes_shown hash_kinds.Nothing ≡ hashes.Nothing ∷ hashes.Nothing ∷ []
unfolding missing file_bytes
no_hash_shown = refl

-- ---- frames, with clients and numbers

-- a new profile with the scan limit 65,536, by the default mode or by all formats
abbrev create : ℕ → ℕ → ℕ → Frame
create client number all = record { version = 1; kind = 1; client = client; number = number; body = 0 ∷ 1 ∷ 0 ∷ 0 ∷ all ∷ [] }

-- sent again; another request under the same number; that number of another client; the first again after all that
pub repeats : answers usual [] (create 7 1 0 ∷ create 7 1 0 ∷ create 7 1 1 ∷ create 8 1 1 ∷ create 7 1 0 ∷ [])
    ≡ replies.Made 1 ∷ replies.Made 1 ∷ replies.Refused refusals.NumberReused ∷ replies.Made 2 ∷ replies.Made 1 ∷ []
unfolding answer next meeting command request_in request_value any_value plain_value create_profile_value carried_kind_at truth_at whole world_of judge judge_create is_scan_limit md5 digest_bytes hash_after compress rounds block_words
repeats = refl

-- no truth value, a byte past the end, a kind that is none, a number of 2^63: also under a number that is kept
pub malformed : answers usual [] (
    create 7 1 0
    ∷ create 7 1 2
    ∷ record (create 7 1 0) { body = 0 ∷ 1 ∷ 0 ∷ 0 ∷ 0 ∷ 0 ∷ [] }
    ∷ record (create 7 2 0) { kind = 9 }
    ∷ create 7 9223372036854775808 0
    ∷ []
    ) ≡ replies.Made 1 ∷ replies.Refused refusals.Malformed ∷ replies.Refused refusals.Malformed ∷ replies.Refused refusals.Malformed ∷ replies.Refused refusals.Malformed ∷ []
unfolding answer next meeting command request_in request_value any_value plain_value create_profile_value carried_kind_at truth_at whole world_of judge judge_create is_scan_limit md5 digest_bytes hash_after compress rounds block_words
malformed = refl

-- under a kept number the same bytes in the other version are another request; a body of version 1 may spell nothing in
-- version 2, and nothing is spelled in version 3
abbrev abandoning : ℕ → Frame
abandoning version = record { version = version; kind = 6; client = 7; number = 1; body = 0 ∷ 0 ∷ 0 ∷ 1 ∷ 0 ∷ 0 ∷ 0 ∷ 1 ∷ [] }

pub versions_apart : answers usual (entry_of (abandoning 2) replies.Abandoned ∷ []) (
    abandoning 2
    ∷ abandoning 1
    ∷ abandoning 3
    ∷ record (create 7 1 0) { version = 2 }
    ∷ []
    ) ≡ replies.Abandoned ∷ replies.Refused refusals.NumberReused ∷ replies.Refused refusals.Malformed ∷ replies.Refused refusals.Malformed ∷ []
unfolding answer next meeting command request_in request_value any_value plain_value create_profile_value abandon_value file_value carried_kind_at hash_kind_at truth_at whole md5 digest_bytes hash_after compress rounds block_words
versions_apart = refl
