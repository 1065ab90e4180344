-- What one step more does to what was served of a connection.
use Rattle.std.proofs.Common.{◌≡◌, ℕ, ◌≤◌, List, [], ◌∷◌, ◌++◌, length, refl, sym, ap, subst, ◌∙◌, append_assoc, arith}
use Rattle.std.specs.List.{AllByRecursion}
use Rattle.std.proofs.lemmas.List.{append-nil, length-append}
use Rattle.droid_frame.specs.Frames.{frame_bytes}
use Rattle.droid_frame.specs.Replies.{HasReplySpelling}
use Rattle.droid_frame.specs.ReplyFrames.{reply_frame}
use Rattle.droid_frame.specs.Streams.{IsReadable}
use Rattle.droid_frame.specs.declared.frame.Frame.{Frame}
use Rattle.droid_frame.specs.declared.reply.Reply.{Reply}
use Rattle.droid_turns.specs.Departures.{Serves, held_bound, queue_bound}
use Rattle.droid_turns.specs.Steps.{Handles, Step, bytes_read, bytes_written, came, handled, handled_in, spelled_frames, spelled_replies, went}
use Rattle.droid_turns.proofs.OwnSteps.{handled_here, none_more, one_more}
use Rattle.droid_turns.proofs.Moments.{all_both}

-- by other names
pub serves_as : (id : ℕ) (steps : List Step) (held also queued too : List ℕ) → held ≡ also → queued ≡ too → Serves id steps held queued → Serves id steps also too
serves_as id steps held also queued too is same serves = subst (λ (h : List ℕ). Serves id steps h too) is (subst (Serves id steps held) same serves)

-- other steps, of which the same is gathered
pub serves_same : (id : ℕ) (steps other : List Step) (held queued : List ℕ) → came id other ≡ came id steps → went id other ≡ went id steps → handled id other ≡ handled id steps → Serves id steps held queued → Serves id other held queued
serves_same id steps other held queued came_is went_is same serves = record {
  readable = subst (AllByRecursion (λ (one : Frame × Reply). IsReadable one.0)) (sym same) serves.readable;
  spelled = subst (AllByRecursion (λ (one : Frame × Reply). HasReplySpelling one.0.version one.1)) (sym same) serves.spelled;
  read = came_is ∙ (serves.read ∙ ap (λ (h : List (Frame × Reply)). spelled_frames h ++ held) (sym same));
  written = ap spelled_replies same ∙ (serves.written ∙ ap (λ (l : List ℕ). l ++ queued) (sym went_is));
  few = serves.few;
  short = serves.short;
}

-- bytes came from it, or it took some
pub serves_more : (id : ℕ) (steps : List Step) (step : Step) (held queued more out : List ℕ) → bytes_read id step ≡ more → bytes_written id step ≡ out → handled_in id step ≡ [] → length (held ++ more) ≤ held_bound → Serves id steps held (out ++ queued) → Serves id (steps ++ step ∷ []) (held ++ more) queued
serves_more id steps step held queued more out came_is went_is none few serves =
    let same : handled id (steps ++ step ∷ []) ≡ handled id steps = none_more (handled_in id) steps step none in
    record {
      readable = subst (AllByRecursion (λ (one : Frame × Reply). IsReadable one.0)) (sym same) serves.readable;
      spelled = subst (AllByRecursion (λ (one : Frame × Reply). HasReplySpelling one.0.version one.1)) (sym same) serves.spelled;
      read = one_more (bytes_read id) steps step ∙ (ap (λ (l : List ℕ). came id steps ++ l) came_is
          ∙ (ap (λ (l : List ℕ). l ++ more) serves.read ∙ (append_assoc (spelled_frames (handled id steps)) held more
          ∙ ap (λ (h : List (Frame × Reply)). spelled_frames h ++ (held ++ more)) (sym same))));
      written = ap spelled_replies same ∙ (serves.written ∙ (sym (append_assoc (went id steps) out queued)
          ∙ ap (λ (l : List ℕ). l ++ queued) (sym (one_more (bytes_written id) steps step ∙ ap (λ (l : List ℕ). went id steps ++ l) went_is))));
      few = few;
      short = omega (arith, serves.short, length-append out queued);
    }

-- nothing of the kind happened
pub serves_still : (id : ℕ) (steps : List Step) (step : Step) (held queued : List ℕ) → bytes_read id step ≡ [] → bytes_written id step ≡ [] → handled_in id step ≡ [] → Serves id steps held queued → Serves id (steps ++ step ∷ []) held queued
serves_still id steps step held queued came_is went_is none serves =
    subst (λ (l : List ℕ). Serves id (steps ++ step ∷ []) l queued) (append-nil held) (serves_more id steps step held queued [] [] came_is went_is none (rw (append-nil held) serves.few) serves)

frames_more : (answered : List (Frame × Reply)) (frame : Frame) (reply : Reply) → spelled_frames (answered ++ (frame, reply) ∷ []) ≡ spelled_frames answered ++ frame_bytes frame
frames_more [] frame reply = append-nil (frame_bytes frame)
frames_more (one ∷ answered) frame reply = ap (λ (l : List ℕ). frame_bytes one.0 ++ l) (frames_more answered frame reply) ∙ sym (append_assoc (frame_bytes one.0) (spelled_frames answered) (frame_bytes frame))

-- the frame of the reply to a frame
abbrev pub answer_bytes : Frame → Reply → List ℕ
answer_bytes frame reply = reply_frame frame.version frame.client frame.number reply

replies_more : (answered : List (Frame × Reply)) (frame : Frame) (reply : Reply) → spelled_replies (answered ++ (frame, reply) ∷ []) ≡ spelled_replies answered ++ answer_bytes frame reply
replies_more [] frame reply = append-nil (answer_bytes frame reply)
replies_more (one ∷ answered) frame reply = ap (λ (l : List ℕ). answer_bytes one.0 one.1 ++ l) (replies_more answered frame reply) ∙ sym (append_assoc (answer_bytes one.0 one.1) (spelled_replies answered) (answer_bytes frame reply))

-- a frame was handled
pub serves_handled : (id : ℕ) (steps : List Step) (frame : Frame) (reply : Reply) (held queued : List ℕ) → IsReadable frame → HasReplySpelling frame.version reply → length (queued ++ answer_bytes frame reply) ≤ queue_bound → Serves id steps (frame_bytes frame ++ held) queued
    → Serves id (steps ++ Handles id frame reply ∷ []) held (queued ++ answer_bytes frame reply)
serves_handled id steps frame reply held queued readable spelled short serves =
    let step : Step = Handles id frame reply in
    let now : handled id (steps ++ step ∷ []) ≡ handled id steps ++ (frame, reply) ∷ [] = one_more (handled_in id) steps step ∙ ap (λ (l : List (Frame × Reply)). handled id steps ++ l) (handled_here id frame reply) in
    record {
      readable = subst (AllByRecursion (λ (one : Frame × Reply). IsReadable one.0)) (sym now) (all_both _ (handled id steps) ((frame, reply) ∷ []) serves.readable (readable, tt));
      spelled = subst (AllByRecursion (λ (one : Frame × Reply). HasReplySpelling one.0.version one.1)) (sym now) (all_both _ (handled id steps) ((frame, reply) ∷ []) serves.spelled (spelled, tt));
      read = none_more (bytes_read id) steps step refl ∙ (serves.read ∙ (sym (append_assoc (spelled_frames (handled id steps)) (frame_bytes frame) held)
          ∙ (ap (λ (l : List ℕ). l ++ held) (sym (frames_more (handled id steps) frame reply)) ∙ ap (λ (h : List (Frame × Reply)). spelled_frames h ++ held) (sym now))));
      written = ap spelled_replies now ∙ (replies_more (handled id steps) frame reply ∙ (ap (λ (l : List ℕ). l ++ answer_bytes frame reply) serves.written
          ∙ (append_assoc (went id steps) queued (answer_bytes frame reply) ∙ ap (λ (l : List ℕ). l ++ (queued ++ answer_bytes frame reply)) (sym (none_more (bytes_written id) steps step refl)))));
      few = omega (arith, serves.few, length-append (frame_bytes frame) held);
      short = short;
    }
