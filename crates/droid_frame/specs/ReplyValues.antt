-- For inner clauses and proofs, and for the clause `exact` of `reply_of`: functions that read replies from the front of
-- bytes.
use Rattle.std.specs.Prelude.{ℕ, ◌==◌, nat_lt, if◌then◌else◌, List, length, Option, Some, None}
use Rattle.std.specs.Int.{w16, w32, w64}
use Rattle.droid_frame.specs.declared.reply.Reply.{Reply}
use Rattle.droid_frame.specs.declared.reply.Reply.TheVariants.{Made, Node, Taken, Finished, Abandoned, Progress, Part}
use Rattle.droid_frame.specs.declared.reply.Reply.TheVariants.{Refused}
use Rattle.droid_frame.specs.Limits.{puids_limit, puid_limit, part_limit}
use Rattle.droid_frame.specs.Versions.{is_version}
use Rattle.droid_frame.specs.declared.reading.replies.finished.FinishedHead.{FinishedHead}
use Rattle.droid_frame.specs.HashFields.{digest_at}
use Rattle.droid_frame.specs.Reading.{◌>>=◌, number_at, truth_at, method_at, whole}
use Rattle.droid_frame.specs.TextListFields.{texts_at}
use Rattle.droid_frame.specs.ReplyRefusals.{refusal_at}

-- ---- the reply of each kind that the whole body spells

-- kind 129
unfoldable pub made_value : List ℕ → Option Reply
made_value body = do
  profile ← number_at w32 body
  whole profile.1 (Made profile.0)

-- kind 130
unfoldable pub node_value : List ℕ → Option Reply
node_value body = do
  id ← number_at w32 body
  whole id.1 (Node id.0)

-- kind 131
unfoldable pub taken_value : List ℕ → Option Reply
taken_value body = do
  held ← number_at w32 body
  whole held.1 (Taken held.0)

-- kind 133
unfoldable pub abandoned_value : List ℕ → Option Reply
abandoned_value body = whole body Abandoned

-- kind 134
unfoldable pub progress_value : List ℕ → Option Reply
progress_value body = do
  held ← number_at w32 body
  missing ← number_at w32 held.1
  whole missing.1 (Progress held.0 missing.0)

-- kind 135
unfoldable pub part_value : List ℕ → Option Reply
part_value body = do
  as_of ← number_at w64 body
  total ← number_at w64 as_of.1
  if nat_lt part_limit (length total.1) then None else Some (Part as_of.0 total.0 total.1)

-- kind 136
unfoldable pub refused_value : List ℕ → Option Reply
refused_value body = do
  refusal ← refusal_at body
  whole refusal.1 (Refused refusal.0)

-- the number of format identifiers that follow
unfoldable pub count_at : List ℕ → Option (ℕ × List ℕ)
count_at bytes = do
  count ← number_at w16 bytes
  if nat_lt puids_limit count.0 then None else Some count

-- the fields of a Finished before its format identifiers
unfoldable pub finished_head_at : ℕ → List ℕ → Option (FinishedHead × List ℕ)
finished_head_at version bytes = do
  method ← method_at bytes
  mismatch ← truth_at method.1
  hash ← digest_at version mismatch.1
  count ← count_at hash.1
  Some (record { method = method.0; mismatch = mismatch.0; hash = hash.0; count = count.0 }, count.1)

-- kind 132
unfoldable pub finished_value : ℕ → List ℕ → Option Reply
finished_value version body = do
  head ← finished_head_at version body
  puids ← texts_at head.0.count 1 puid_limit head.1
  whole puids.1 (Finished head.0.method head.0.mismatch head.0.hash puids.0)

-- the reply that the kind and the body spell, if it has no list
unfoldable pub plain_value : ℕ → List ℕ → Option Reply
plain_value kind body =
    if kind == 129 then made_value body
    else if kind == 130 then node_value body
    else if kind == 131 then taken_value body
    else if kind == 133 then abandoned_value body
    else if kind == 134 then progress_value body
    else if kind == 135 then part_value body
    else if kind == 136 then refused_value body
    else None

-- the reply that the kind and the body spell in version 1 or 2, if there is one
unfoldable pub any_value : ℕ → ℕ → List ℕ → Option Reply
any_value version kind body = if kind == 132 then finished_value version body else plain_value kind body

-- the reply that the version, the kind and the body spell, if there is one
unfoldable pub reply_value : ℕ → ℕ → List ℕ → Option Reply
reply_value version kind body = if is_version version then any_value version kind body else None
