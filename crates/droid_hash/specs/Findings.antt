-- What the reply that finished a file says of it (this project's own).
use Rattle.std.specs.Prelude.{ℕ, Bool, false, List, [], ◌++◌, length, flat_map}
use Rattle.sha2.specs.Hashers.{Holds256}
use Rattle.droid_frame.specs.Fields.{u64_bytes}
use Rattle.droid_frame.specs.Hashes.{hash}
use Rattle.droid_frame.specs.declared.hash_kind.HashKind.TheVariants.{Sha256}
use Rattle.droid_frame.specs.declared.hash_value.HashValue.{HashValue}
use Rattle.droid_frame.specs.declared.hash_value.HashValue.TheVariants as values
use Rattle.droid_frame.specs.declared.method.Method.{Method}
use Rattle.droid_frame.specs.declared.method.Method.TheVariants.{Unidentified}
use Rattle.droid_frame.specs.declared.reply.Reply.{Reply}
use Rattle.droid_frame.specs.declared.reply.Reply.TheVariants as replies
use Rattle.droid_hash.specs.declared.finding.Finding.{Finding}
use Rattle.droid_hash.specs.declared.finding.RunningPuids.{RunningPuids}

-- a PUID after its length in eight bytes
abbrev pub puid_text : List ℕ → List ℕ
puid_text puid = u64_bytes (length puid) ++ puid

-- the PUIDs one after another, each after its length; so no two lists have one text
abbrev pub puids_text : List (List ℕ) → List ℕ
puids_text puids = flat_map puid_text puids

-- What is kept of the formats' list: its SHA-256. So a reply of any length takes the same memory.
abbrev pub puids_digest : List (List ℕ) → HashValue
puids_digest puids = hash Sha256 (puids_text puids)

-- the running digest covers exactly these PUIDs
abbrev pub CoversPuids : RunningPuids → List (List ℕ) → Type 0
CoversPuids running puids = Holds256 running.hasher (puids_text puids)

-- what is kept of a finished file, from the fields of its reply
abbrev pub finding_by : Method → Bool → HashValue → List (List ℕ) → Finding
finding_by method mismatch hash puids =
    record { method = method; mismatch = mismatch; hash = hash; formats = length puids; puids = puids_digest puids }

-- a folder, or a file of which nothing is known
abbrev pub no_finding : Finding
no_finding = finding_by Unidentified false values.Nothing []

-- what is kept of a reply; of one that finishes no file, nothing
abbrev pub finding_of : Reply → Finding
finding_of (replies.Finished method mismatch hash puids) = finding_by method mismatch hash puids
finding_of _ = no_finding
