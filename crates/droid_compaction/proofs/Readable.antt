-- Bare frames are frames that a stream can carry.
use Rattle.std.proofs.Common.{◌≡◌, ℕ, ◌+◌, ◌<◌, ◌≤◌, ◌^◌, Bool, true, false, cond, eqb, List, [], ◌∷◌, ◌++◌, length, arith}
use Rattle.std.proofs.lemmas.List.{length-append}
use Rattle.md5.proofs.StandardFacts.{length-md5}
use Rattle.droid_frame.specs.Fields.{IsBytes, u16_bytes, truth_bytes}
use Rattle.droid_frame.specs.Frames.{mark_of}
use Rattle.droid_frame.specs.Hashes.{IsHashValue, hash_bytes, hash_field, hash_kind_bytes, hash_value_kind}
use Rattle.droid_frame.specs.Replies.{HasReplySpelling, digest_bytes, reply_bytes, reply_kind}
use Rattle.droid_frame.specs.Streams.{IsReadable}
use Rattle.droid_frame.specs.TextLists.{texts_bytes}
use Rattle.droid_frame.specs.declared.frame.Frame.{Frame}
use Rattle.droid_frame.specs.declared.hash_kind.HashKind.{HashKind}
use Rattle.droid_frame.specs.declared.hash_value.HashValue.{HashValue}
use Rattle.droid_frame.specs.declared.hash_value.HashValue.TheVariants as values
use Rattle.droid_frame.specs.declared.reply.Reply.{Reply}
use Rattle.droid_frame.specs.declared.reply.Reply.TheVariants.{Taken, Finished}
use Rattle.droid_frame.proofs.BodyLimits.{limit_at_least}
use Rattle.droid_frame.proofs.ByteLists.{IsBytes-append}
use Rattle.droid_frame.proofs.ReplyFrames.{reply_is_short}
use Rattle.droid_frame.proofs.ReplyFronts.{puids_are_short}
use Rattle.droid_compaction.proofs.Marks.{mark_is_bytes}
use Rattle.droid_compaction.specs.BareFrames.{bare_finish, bare_piece}

-- a frame with another kind, and a body of two parts
of_parts : (frame : Frame) (kind : ℕ) (front rest : List ℕ) → IsReadable frame → kind < 2 ^ 8 → IsBytes front → IsBytes rest → length front + length rest ≤ 1048640 → IsReadable (record frame { kind = kind; body = front ++ rest })
of_parts frame kind front rest is small one other short = record {
  is_frame = record {
    version_fits = is.is_frame.version_fits;
    kind_fits = small;
    client_fits = is.is_frame.client_fits;
    number_fits = is.is_frame.number_fits;
    body_fits = omega (arith, short, limit_at_least frame.version, length-append front rest);
    body_is_bytes = IsBytes-append front rest one other;
  };
  version_is = is.version_is;
}

-- ---- how long the replies are

taken_is_short : (version : ℕ) (reply : Reply) → reply_kind reply ≡ 131 → length (reply_bytes version reply) ≤ 4
taken_is_short version (Taken held) is = omega arith
taken_is_short version _ is = absurd (omega (arith, is))

truth_is_short : (b : Bool) → length (truth_bytes b) ≤ 1
truth_is_short false = omega arith
truth_is_short true = omega arith

kind_where : (first : Bool) (kind : HashKind) → length (cond first [] (hash_kind_bytes kind)) ≤ 1
kind_where true kind = omega arith
kind_where false kind = omega arith

hash_is_short : (hash : HashValue) → IsHashValue hash → length (hash_bytes hash) ≤ 32
hash_is_short values.Nothing is = omega arith
hash_is_short (values.Md5 digest) is = omega (arith, is.0)
hash_is_short (values.Sha256 digest) is = omega (arith, is.0)

finished_is_short : (version : ℕ) (reply : Reply) → HasReplySpelling version reply → reply_kind reply ≡ 132 → length (reply_bytes version reply) ≤ 135205
finished_is_short version (Finished method mismatch hash puids) fits is =
    let list : List ℕ = texts_bytes puids in
    let counted : List ℕ = u16_bytes (length puids) ++ list in
    let field : length (hash_field version (hash_value_kind hash)) ≤ 1 = kind_where (eqb version 1) (hash_value_kind hash) in
    omega (
      arith,
      fits.1,
      field,
      hash_is_short hash fits.0.1,
      puids_are_short puids fits.2,
      truth_is_short mismatch,
      length-append (hash_field version (hash_value_kind hash)) (hash_bytes hash),
      length-append (truth_bytes mismatch) (digest_bytes version hash ++ counted),
      length-append (digest_bytes version hash) counted,
      length-append (u16_bytes (length puids)) list,
    )
finished_is_short version _ fits is = absurd (omega (arith, is))

-- ---- bare frames

pub piece_is_readable : (frame : Frame) (reply : Reply) → IsReadable frame → HasReplySpelling frame.version reply → reply_kind reply ≡ 131 → IsReadable (bare_piece frame reply)
piece_is_readable frame reply is spelled taken =
    of_parts frame 68 (mark_of frame.kind frame.body) (reply_bytes frame.version reply) is (omega arith) (mark_is_bytes frame.kind frame.body) (reply_is_short frame.version reply spelled).0
    (omega (arith, length-md5 (frame.kind ∷ frame.body), taken_is_short frame.version reply taken))

pub finish_is_readable : (frame : Frame) (reply : Reply) → IsReadable frame → length frame.body ≡ 8 → HasReplySpelling frame.version reply → reply_kind reply ≡ 132 → IsReadable (bare_finish frame reply)
finish_is_readable frame reply is eight spelled finished =
    of_parts frame 69 frame.body (reply_bytes frame.version reply) is (omega arith) is.is_frame.body_is_bytes (reply_is_short frame.version reply spelled).0
    (omega (arith, eight, finished_is_short frame.version reply spelled finished))
