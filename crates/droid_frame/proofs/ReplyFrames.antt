-- The frame of a reply that has a spelling is a frame that a stream may hold.
use Rattle.std.proofs.Common.{ℕ, ◌<◌, ◌≤◌, Bool, true, false, cond, eqb, List, [], ◌∷◌, ◌++◌, length, arith}
use Rattle.std.specs.Int.{w16, w32, w64}
use Rattle.std.specs.List.{AllByRecursion}
use Rattle.std.proofs.lemmas.List.{length-append}
use Rattle.droid_frame.specs.declared.hash_kind.HashKind.{HashKind}
use Rattle.droid_frame.specs.declared.hash_kind.HashKind.TheVariants as kinds
use Rattle.droid_frame.specs.declared.hash_value.HashValue.{HashValue}
use Rattle.droid_frame.specs.declared.hash_value.HashValue.TheVariants as values
use Rattle.droid_frame.specs.declared.method.Method.{Method}
use Rattle.droid_frame.specs.declared.method.Method.TheVariants.{Unidentified, Signature, Extension}
use Rattle.droid_frame.specs.declared.refusal.Limit.{Limit}
use Rattle.droid_frame.specs.declared.refusal.Limit.TheVariants as limits
use Rattle.droid_frame.specs.declared.refusal.Refusal.{Refusal}
use Rattle.droid_frame.specs.declared.refusal.Refusal.TheVariants.{Malformed, NumberReused, NoSuchProfile, NoSuchNode, NotAFolder, NotAFile, BadName, PathTooLong, NameTaken, BadOption, TooLarge, AlreadyFinished, BadPiece, PieceHeld, TooFarAhead, Incomplete, LimitReached, Memory, Store}
use Rattle.droid_frame.specs.declared.reply.Reply.{Reply}
use Rattle.droid_frame.specs.declared.reply.Reply.TheVariants.{Made, Node, Taken, Finished, Abandoned, Progress, Part, Refused}
use Rattle.droid_frame.specs.Fields.{IsBytes, u16_bytes, u32_bytes, u64_bytes, truth_bytes, method_bytes}
use Rattle.droid_frame.specs.Hashes.{IsHashValue, hash_bytes, hash_field, hash_kind_bytes, hash_kind_number, hash_value_kind}
use Rattle.droid_frame.specs.Refusals.{limit_number}
use Rattle.droid_frame.specs.Replies.{HasReplySpelling, IsPuidText, digest_bytes, refusal_bytes, reply_bytes, reply_kind}
use Rattle.droid_frame.specs.ReplyFrames.{ReplyFramesAreReadable}
use Rattle.droid_frame.specs.TextLists.{sized_bytes, texts_bytes}
use Rattle.droid_frame.proofs.BodyLimits.{limit_at_least, version_small}
use Rattle.droid_frame.proofs.ByteLists.{IsBytes-nil, IsBytes-cons, IsBytes-append, number_bytes, text_bytes}
use Rattle.droid_frame.proofs.ReplyFronts.{puids_are_short}

-- bytes, and not many of them
abbrev IsShort : ℕ → List ℕ → Type 0
IsShort most bytes = IsBytes bytes × (length bytes ≤ most)

one_byte : (b : ℕ) → b < 256 → IsShort 5 (b ∷ [])
one_byte b small = (IsBytes-cons b [] small IsBytes-nil, omega arith)

limit_small : (which : Limit) → limit_number which < 256
limit_small limits.Profiles = omega arith
limit_small limits.Nodes = omega arith
limit_small limits.Unfinished = omega arith

refusal_is_short : (refusal : Refusal) → IsShort 5 (refusal_bytes refusal)
refusal_is_short Malformed = one_byte 1 (omega arith)
refusal_is_short NumberReused = one_byte 2 (omega arith)
refusal_is_short NoSuchProfile = one_byte 3 (omega arith)
refusal_is_short NoSuchNode = one_byte 4 (omega arith)
refusal_is_short NotAFolder = one_byte 5 (omega arith)
refusal_is_short NotAFile = one_byte 6 (omega arith)
refusal_is_short BadName = one_byte 7 (omega arith)
refusal_is_short PathTooLong = one_byte 8 (omega arith)
refusal_is_short NameTaken = one_byte 9 (omega arith)
refusal_is_short BadOption = one_byte 10 (omega arith)
refusal_is_short TooLarge = one_byte 11 (omega arith)
refusal_is_short AlreadyFinished = one_byte 12 (omega arith)
refusal_is_short BadPiece = one_byte 13 (omega arith)
refusal_is_short PieceHeld = one_byte 14 (omega arith)
refusal_is_short (TooFarAhead missing) = (IsBytes-cons 15 (u32_bytes missing) (omega arith) (number_bytes w32 missing), omega arith)
refusal_is_short (Incomplete missing) = (IsBytes-cons 16 (u32_bytes missing) (omega arith) (number_bytes w32 missing), omega arith)
refusal_is_short (LimitReached which) = (IsBytes-cons 17 (limit_number which ∷ []) (omega arith) (one_byte (limit_number which) (limit_small which)).0, omega arith)
refusal_is_short Memory = one_byte 18 (omega arith)
refusal_is_short Store = one_byte 19 (omega arith)

method_byte : (method : Method) → IsBytes (method_bytes method)
method_byte Unidentified = (one_byte 0 (omega arith)).0
method_byte Signature = (one_byte 1 (omega arith)).0
method_byte Extension = (one_byte 2 (omega arith)).0

truth_byte : (b : Bool) → IsShort 1 (truth_bytes b)
truth_byte false = ((one_byte 0 (omega arith)).0, omega arith)
truth_byte true = ((one_byte 1 (omega arith)).0, omega arith)

puids_bytes : (puids : List (List ℕ)) → AllByRecursion IsPuidText puids → IsBytes (texts_bytes puids)
puids_bytes [] are = IsBytes-nil
puids_bytes (puid ∷ puids) are =
    IsBytes-append (sized_bytes puid) (texts_bytes puids)
    (IsBytes-cons (length puid) puid (omega (arith, are.0.at_most)) (text_bytes puid are.0.utf8))
    (puids_bytes puids are.1)

kind_small : (kind : HashKind) → hash_kind_number kind < 256
kind_small kinds.Nothing = omega arith
kind_small kinds.Md5 = omega arith
kind_small kinds.Sha256 = omega arith

kind_where : (first : Bool) (kind : HashKind) → IsShort 1 (cond first [] (hash_kind_bytes kind))
kind_where true kind = (IsBytes-nil, omega arith)
kind_where false kind = ((one_byte (hash_kind_number kind) (kind_small kind)).0, omega arith)

value_is_short : (value : HashValue) → IsHashValue value → IsShort 32 (hash_bytes value)
value_is_short values.Nothing is = (IsBytes-nil, omega arith)
value_is_short (values.Md5 digest) is = (is.1, omega (arith, is.0))
value_is_short (values.Sha256 digest) is = (is.1, omega (arith, is.0))

digest_is_short : (version : ℕ) (value : HashValue) → IsHashValue value → IsShort 33 (digest_bytes version value)
digest_is_short version value is =
    let kind : IsShort 1 (hash_field version (hash_value_kind value)) = kind_where (eqb version 1) (hash_value_kind value) in
    let digest = value_is_short value is in
    (IsBytes-append (hash_field version (hash_value_kind value)) (hash_bytes value) kind.0 digest.0, omega (arith, kind.1, digest.1, length-append (hash_field version (hash_value_kind value)) (hash_bytes value)))

finished_is_short : (version : ℕ) (method : Method) (mismatch : Bool) (hash : HashValue) (puids : List (List ℕ)) → HasReplySpelling version (Finished method mismatch hash puids) → IsShort 1048640 (reply_bytes version (Finished method mismatch hash puids))
finished_is_short version method mismatch hash puids fits =
    let list : List ℕ = texts_bytes puids in
    let counted : List ℕ = u16_bytes (length puids) ++ list in
    let digest = digest_is_short version hash fits.0.1 in
    let digested : List ℕ = digest_bytes version hash ++ counted in (
      IsBytes-append (method_bytes method) (truth_bytes mismatch ++ digested) (method_byte method)
          (IsBytes-append (truth_bytes mismatch) digested (truth_byte mismatch).0
          (IsBytes-append (digest_bytes version hash) counted digest.0
          (IsBytes-append (u16_bytes (length puids)) list (number_bytes w16 (length puids)) (puids_bytes puids fits.2)))),
      omega (arith, digest.1, fits.1, puids_are_short puids fits.2, (truth_byte mismatch).1, length-append (truth_bytes mismatch) digested, length-append (digest_bytes version hash) counted, length-append (u16_bytes (length puids)) list),
    )

part_is_short : (version as_of total : ℕ) (bytes : List ℕ) → HasReplySpelling version (Part as_of total bytes) → IsShort 1048640 (reply_bytes version (Part as_of total bytes))
part_is_short version as_of total bytes fits = (
  IsBytes-append (u64_bytes as_of) (u64_bytes total ++ bytes) (number_bytes w64 as_of) (IsBytes-append (u64_bytes total) bytes (number_bytes w64 total) fits.3),
  omega (arith, fits.2, length-append (u64_bytes as_of) (u64_bytes total ++ bytes), length-append (u64_bytes total) bytes),
)

pub reply_is_short : (version : ℕ) (reply : Reply) → HasReplySpelling version reply → IsShort 1048640 (reply_bytes version reply)
reply_is_short version (Made profile) fits = (number_bytes w32 profile, omega arith)
reply_is_short version (Node id) fits = (number_bytes w32 id, omega arith)
reply_is_short version (Taken held) fits = (number_bytes w32 held, omega arith)
reply_is_short version (Finished method mismatch hash puids) fits = finished_is_short version method mismatch hash puids fits
reply_is_short version Abandoned fits = (IsBytes-nil, omega arith)
reply_is_short version (Progress held missing) fits = (IsBytes-append (u32_bytes held) (u32_bytes missing) (number_bytes w32 held) (number_bytes w32 missing), omega arith)
reply_is_short version (Part as_of total bytes) fits = part_is_short version as_of total bytes fits
reply_is_short version (Refused refusal) fits = let short = refusal_is_short refusal in (short.0, omega (arith, short.1))

reply_kind_small : (reply : Reply) → reply_kind reply < 256
reply_kind_small (Made profile) = omega arith
reply_kind_small (Node id) = omega arith
reply_kind_small (Taken held) = omega arith
reply_kind_small (Finished method mismatch hash puids) = omega arith
reply_kind_small Abandoned = omega arith
reply_kind_small (Progress held missing) = omega arith
reply_kind_small (Part as_of total bytes) = omega arith
reply_kind_small (Refused refusal) = omega arith

pub reply_frames_are_readable : ReplyFramesAreReadable
reply_frames_are_readable version client number reply is client_fits number_fits fits =
    let short = reply_is_short version reply fits in
    record {
      is_frame = record {
        version_fits = version_small version is;
        kind_fits = reply_kind_small reply;
        client_fits = client_fits;
        number_fits = number_fits;
        body_fits = omega (arith, short.1, limit_at_least version);
        body_is_bytes = short.0;
      };
      version_is = is;
    }
