-- What it means that a file was read in this run.
use Rattle.std.specs.Prelude.{◌≡◌, ◌≢◌, ℕ, Bool, true, false, List, length}
use Rattle.droid_frame.specs.Hashes.{hash, hash_kind_number}
use Rattle.droid_frame.specs.declared.hash_kind.HashKind.{HashKind}
use Rattle.droid_upload.specs.Calls.{Sent}
use Rattle.droid_upload.specs.Deeds.{Deed, Called}
use Rattle.droid_upload.specs.FileOutcomes.{same_hash}
use Rattle.droid_upload.specs.declared.upload.UploadedFile.{UploadedFile}

-- all bytes of the file were read, and the service replied their hash; without a hash it replies none
pub record WasRead (kind : HashKind) (size : ℕ) (file : UploadedFile) : Type 0 where
  pub is_read : file.is_read ≡ true
  pub bytes : List ℕ
  pub counted : length bytes ≡ size
  pub same : hash_kind_number kind ≢ 0 → same_hash (hash kind bytes) file.found.hash ≡ true

-- a piece is sent
abbrev pub is_sending : Deed → Bool
is_sending (Called (Sent request)) = true
is_sending _ = false
