-- For inner clauses and proofs: the finding of a file that is finished, what the checks say of it, and how it is kept.
use Rattle.std.specs.Prelude.{◌≡◌, ◌<◌, ◌^◌, ℕ, true, false, Option, None}
use Rattle.droid_assembly.specs.State.{State}
use Rattle.droid_core.specs.Identifying.{IsWellFormed}
use Rattle.droid_core.specs.declared.unfinished.finding.Finding as files
use Rattle.droid_core_spec.specs.Conditions.{is_carried}
use Rattle.droid_core_spec.specs.Files.{Finding, finished_reply, found_as}
use Rattle.droid_core_spec.specs.Judging.{finish_checks, refusal_of}
use Rattle.droid_core_spec.specs.World.{Content, Profile}
use Rattle.droid_core.specs.Assemblies.{IsAssemblyOf}
use Rattle.droid_core.specs.Changes.{stamped}
use Rattle.droid_core.specs.Identified.{as_identification}
use Rattle.droid_core.specs.Rows.{with_finding}
use Rattle.droid_core.specs.declared.stamps.Stamp.{Stamp}
use Rattle.droid_frame.specs.Replies.{IsSpelledHash}
use Rattle.droid_frame.specs.Versions.{IsVersion}
use Rattle.droid_frame.specs.declared.refusal.Refusal.{Refusal}
use Rattle.droid_frame.specs.declared.reply.Reply.{Reply}
use Rattle.droid_store.specs.Changes.{IsOfKind, IsOpen, with_reply}
use Rattle.droid_store.specs.Rows.{Rows, reply_for}

-- what the code found a file to be, as the definitions have it
abbrev pub finding_in : files.Finding → Finding
finding_in finding = found_as (as_identification finding.found) finding.sealed.hash

-- this holds of the first refusal of a Finish of the unfinished file with this assembly, in each version that can carry
-- its hash
abbrev pub IsJudged : (Option Refusal → Type 0) → State → Type 0
IsJudged P file =
    (version : ℕ) (profile : Profile) (content : Content) → IsAssemblyOf profile content file → content.finished ≡ false
    → is_carried version profile.hash ≡ true → P (refusal_of (finish_checks version profile.hash content))

-- the rows can take this finding of the file, and the reply with it to the request with this stamp
pub record MayKeep (stamp : Stamp) (profile id : ℕ) (finding : files.Finding) (rows : Rows) : Type 0 where
  pub new : reply_for stamp.client stamp.number rows ≡ None
  pub small : stamp.number < 2 ^ 63
  pub version : IsVersion stamp.version
  pub file : IsOpen profile id rows
  pub kind : IsOfKind profile finding.sealed.hash rows
  pub hash : IsSpelledHash stamp.version finding.sealed.hash
  pub well_formed : IsWellFormed finding

-- the rows took the finding and the reply with it
pub record IsKept (stamp : Stamp) (profile id : ℕ) (finding : files.Finding) (old new : Rows) (reply : Reply)
    : Type 0 where
  pub replied : reply ≡ finished_reply (finding_in finding)
  pub rows : new ≡ with_reply (stamped stamp reply) (with_finding profile id (finding_in finding) old)
