-- The two parts of a bare frame's body.
use Rattle.std.proofs.Common.{◌≡◌, ℕ, ◌≤◌, List, ◌++◌, length, take, drop, sym, ap, ◌∙◌, arith}
use Rattle.std.proofs.lemmas.List.{take_at, drop_at, length-append}
use Rattle.md5.proofs.StandardFacts.{length-md5}
use Rattle.droid_frame.specs.Fields.{u32_bytes}
use Rattle.droid_frame.specs.Frames.{mark_of}
use Rattle.droid_frame.specs.Replies.{SpellsReply, reply_bytes}
use Rattle.droid_frame.specs.declared.frame.Frame.{Frame}
use Rattle.droid_frame.specs.declared.reply.Reply.{Reply}
use Rattle.droid_core.specs.Changes.{stamp_of}
use Rattle.droid_core.specs.declared.stamps.Stamp.{Stamp}
use Rattle.droid_compaction.specs.BareFrames.{bare_finish, bare_piece}

-- a body of a front of this length, and a rest
pub record IsOf (body front rest : List ℕ) (size : ℕ) : Type 0 where
  pub front_is : take size body ≡ front
  pub rest_is : drop size body ≡ rest
  pub long : size ≤ length body

joined : (body front rest : List ℕ) (size : ℕ) → body ≡ front ++ rest → length front ≡ size → IsOf body front rest size
joined body front rest size is sized = record {
  front_is = ap (take size) is ∙ take_at front rest size sized;
  rest_is = ap (drop size) is ∙ drop_at front rest size sized;
  long = omega (arith, ap length is, length-append front rest, sized);
}

abbrev pub stamp_with : Frame → List ℕ → Stamp
stamp_with frame mark = record { client = frame.client; number = frame.number; version = frame.version; mark = mark }

module _ (frame its : Frame) (reply : Reply) where
  pub piece_parts : frame ≡ bare_piece its reply → IsOf frame.body (mark_of its.kind its.body) (reply_bytes its.version reply) 16
  piece_parts is = joined frame.body (mark_of its.kind its.body) (reply_bytes its.version reply) 16 (ap (λ (f : Frame). f.body) is) (length-md5 _)

  pub piece_stamp : (mark : List ℕ) → frame ≡ bare_piece its reply → mark ≡ mark_of its.kind its.body → stamp_with frame mark ≡ stamp_of its
  piece_stamp mark is marked = ap (λ (f : Frame). stamp_with f mark) is ∙ ap (stamp_with its) marked

  module _ (profile file : ℕ) (body : its.body ≡ u32_bytes profile ++ u32_bytes file) where
    pub finish_parts : frame ≡ bare_finish its reply → IsOf frame.body its.body (reply_bytes its.version reply) 8
    finish_parts is = joined frame.body its.body (reply_bytes its.version reply) 8 (ap (λ (f : Frame). f.body) is) (ap length body)

    pub finish_stamp : (front : List ℕ) → frame ≡ bare_finish its reply → its.kind ≡ 5 → front ≡ its.body → stamp_with frame (mark_of 5 front) ≡ stamp_of its
    finish_stamp front is kind same =
        ap (λ (f : Frame). stamp_with f (mark_of 5 front)) is ∙ ap (λ (b : List ℕ). stamp_with its (mark_of 5 b)) same ∙ ap (λ (k : ℕ). stamp_with its (mark_of k its.body)) (sym kind)

    pub profile_bytes : (front : List ℕ) → front ≡ its.body → take 4 front ≡ u32_bytes profile
    profile_bytes front same = ap (take 4) (same ∙ body)

    pub file_bytes : (front : List ℕ) → front ≡ its.body → take 4 (drop 4 front) ≡ u32_bytes file
    file_bytes front same = ap (λ (b : List ℕ). take 4 (drop 4 b)) (same ∙ body)

-- the rest spells the reply, in the frame's version
spelled_there : (version other kind : ℕ) (reply : Reply) (bytes : List ℕ) → version ≡ other → bytes ≡ reply_bytes other reply → SpellsReply other kind (reply_bytes other reply) reply → SpellsReply version kind bytes reply
spelled_there version other kind reply bytes same is spelled = rw (same, is) spelled

pub piece_reply : (frame its : Frame) (reply : Reply) (bytes : List ℕ) → frame ≡ bare_piece its reply → bytes ≡ reply_bytes its.version reply → SpellsReply its.version 131 (reply_bytes its.version reply) reply → SpellsReply frame.version 131 bytes reply
piece_reply frame its reply bytes is same spelled = spelled_there frame.version its.version 131 reply bytes (ap (λ (f : Frame). f.version) is) same spelled

pub finish_reply : (frame its : Frame) (reply : Reply) (bytes : List ℕ) → frame ≡ bare_finish its reply → bytes ≡ reply_bytes its.version reply → SpellsReply its.version 132 (reply_bytes its.version reply) reply → SpellsReply frame.version 132 bytes reply
finish_reply frame its reply bytes is same spelled = spelled_there frame.version its.version 132 reply bytes (ap (λ (f : Frame). f.version) is) same spelled
