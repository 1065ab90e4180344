-- The files of a profile: which pieces were taken, and what a whole file is found to be.
use Rattle.std.specs.Prelude.{ℕ, ◌+◌, ◌==◌, ◌&&◌, if◌then◌else◌, nat_lt, nat_le, Bool, true, false, not, List, [], ◌∷◌}
use Rattle.std.specs.Prelude.{◌++◌, length, sum_by, is_some}
use Rattle.std.specs.List.{count_by}
use Rattle.droid_frame.specs.Hashes.{hash}
use Rattle.droid_frame.specs.declared.hash_kind.HashKind.{HashKind}
use Rattle.droid_frame.specs.declared.hash_value.HashValue.{HashValue}
use Rattle.droid_frame.specs.declared.method.Method.{Method}
use Rattle.droid_frame.specs.declared.reply.Reply.{Reply}
use Rattle.droid_frame.specs.declared.reply.Reply.TheVariants as replies
use Rattle.droid_assembly.specs.Pieces as pieces
use Rattle.droid_core_spec.specs.Setting.{Setting, Identification}
use Rattle.droid_core_spec.specs.World.{Content, Node, Folder, File, Abandoned, Profile, World}

-- how many pieces the file has
abbrev pub count_of : Content → ℕ
count_of content = pieces.piece_count content.size content.piece_size

-- the smallest index that was not taken, or the number of pieces if all were
abbrev pub missing_of : Content → ℕ
missing_of content = pieces.missing (count_of content) content.pieces

-- the bytes of the file, of which no piece is missing
abbrev pub bytes_of : Content → List ℕ
bytes_of content = pieces.file_bytes (count_of content) content.pieces

-- the piece of this index was taken
abbrev pub has_piece : Content → ℕ → Bool
has_piece content index = is_some (pieces.bytes_at content.pieces index)

-- the file has a piece of this index, and of this length
abbrev pub is_due : Content → ℕ → List ℕ → Bool
is_due content index bytes =
    nat_lt index (count_of content) && (length bytes == pieces.due_length content.size content.piece_size index)

-- a piece may be taken less than 16 places past the first missing one
abbrev pub is_too_far : Content → ℕ → Bool
is_too_far content index = nat_le (missing_of content + 16) index

-- one piece more, taken last
abbrev pub with_piece : Content → ℕ → List ℕ → Content
with_piece content index bytes = record content { pieces = content.pieces ++ (index, bytes) ∷ [] }

-- the same file, finished
abbrev pub as_finished : Content → Content
as_finished content = record content { finished = true }

-- what a finished file was found to be, as its reply, its record and its row say it
pub record Finding : Type 0 where
  pub method : Method
  pub mismatch : Bool
  pub digest : HashValue
  pub puids : List (List ℕ)

-- the hash of the whole file, of this kind
abbrev pub digest_of : HashKind → Content → HashValue
digest_of kind content = hash kind (bytes_of content)

-- what the whole file is identified as, by its profile's scan limit and mode
abbrev pub identified : Setting → Profile → List ℕ → Content → Identification
identified setting profile name content = setting.identify name (bytes_of content) profile.scan_limit profile.match_all

-- a hash, and what the file is identified as
abbrev pub found_as : Identification → HashValue → Finding
found_as identification digest =
    record {
      method = identification.method;
      mismatch = identification.mismatch;
      digest = digest;
      puids = identification.puids;
    }

-- what the whole file is found to be, with a hash of its profile's kind
abbrev pub finding_of : Setting → Profile → List ℕ → Content → Finding
finding_of setting profile name content =
    found_as (identified setting profile name content) (digest_of profile.hash content)

-- the reply to a Finish of the file
abbrev pub finished_reply : Finding → Reply
finished_reply finding = replies.Finished finding.method finding.mismatch finding.digest finding.puids

-- the number of pieces taken, and the first missing index; of a finished file both are the number of its pieces
abbrev pub progress_of : Content → Reply
progress_of content =
    if content.finished
    then replies.Progress (count_of content) (count_of content)
    else replies.Progress (length content.pieces) (missing_of content)

-- ---- files of the whole world

-- the node is a file that has not been finished
abbrev pub is_unfinished : Node → Bool
is_unfinished (Folder parent modified name) = false
is_unfinished (File parent modified name content) = not content.finished
is_unfinished Abandoned = false

-- the number of unfinished files of all profiles
abbrev pub unfinished_in : World → ℕ
unfinished_in world = sum_by (λ profile. count_by is_unfinished profile.nodes) world.profiles
