-- One call on a stream: the frames so far, and what is held.
use Rattle.std.proofs.Common.{◌≡◌, ℕ, List, [], ◌∷◌, ◌++◌, length, take, Option, Some, None, Result, Ok, Err, sym, ap, subst, ◌∙◌, arith, append_assoc}
use Rattle.std.specs.List.{AllByRecursion, flat_map}
use Rattle.std.specs.Option.{option_to_list}
use Rattle.std.specs.Prelude.{MatchOption}
use Rattle.std.proofs.lemmas.List.{append-nil}
use Rattle.droid_frame.specs.Frames.{frame_bytes}
use Rattle.droid_frame.specs.Streams.{BeginsNoFrame, Frames, IsReadable, why}
use Rattle.droid_frame.specs.declared.streams.fault.FrameFault.{FrameFault}
use Rattle.droid_frame.specs.declared.streams.fault.FrameFault.TheVariants.{Truncated, BadVersion, TooLong, Memory, Read}
use Rattle.droid_frame.specs.declared.frame.Frame.{Frame}
use Rattle.droid_turns.specs.Feeding.{Brings, Feeds, ReadsOn, Refuses, Waits}
use Rattle.droid_turns.specs.declared.feeding.feed_result.Fed.{Fed}
use Rattle.droid_turns.proofs.Taking.{take_whole}

readable_more : (frames : List Frame) (frame : Frame) → AllByRecursion IsReadable frames → IsReadable frame → AllByRecursion IsReadable (frames ++ frame ∷ [])
readable_more [] frame are is = (is, tt)
readable_more (one ∷ frames) frame are is = (are.0, readable_more frames frame are.1 is)

bytes_more : (frames : List Frame) (frame : Frame) → flat_map frame_bytes (frames ++ frame ∷ []) ≡ flat_map frame_bytes frames ++ frame_bytes frame
bytes_more [] frame = append-nil (frame_bytes frame)
bytes_more (one ∷ frames) frame = ap (λ (l : List ℕ). frame_bytes one ++ l) (bytes_more frames frame) ∙ sym (append_assoc (frame_bytes one) (flat_map frame_bytes frames) (frame_bytes frame))

-- more bytes came behind the frames
joined_more : (stream more old : List ℕ) (frames : List Frame) → stream ≡ flat_map frame_bytes frames ++ old → stream ++ more ≡ flat_map frame_bytes frames ++ (old ++ more)
joined_more stream more old frames joined = ap (λ (l : List ℕ). l ++ more) joined ∙ append_assoc (flat_map frame_bytes frames) old more

with_frame : (stream old piece new : List ℕ) (frames : List Frame) (taken : ℕ) (frame : Frame) → Frames stream frames old → BeginsNoFrame new → Brings old piece new taken frame → Frames (stream ++ take taken piece) (frames ++ frame ∷ []) new
with_frame stream old piece new frames taken frame reads none brings = record {
  readable = readable_more frames frame reads.readable brings.readable;
  joined = joined_more stream (take taken piece) old frames reads.joined
      ∙ (ap (λ (l : List ℕ). flat_map frame_bytes frames ++ l) brings.spelled ∙ (sym (bytes_more frames frame)
      ∙ (sym (append-nil (flat_map frame_bytes (frames ++ frame ∷ []))) ∙ ap (λ (l : List ℕ). flat_map frame_bytes (frames ++ frame ∷ []) ++ l) (sym brings.empty))));
  none_more = none;
}

with_none : (stream old piece new : List ℕ) (frames : List Frame) (taken : ℕ) → Frames stream frames old → Waits old piece new taken → Frames (stream ++ take taken piece) (frames ++ []) new
with_none stream old piece new frames taken reads waits =
    subst (λ (l : List Frame). Frames (stream ++ take taken piece) l new) (sym (append-nil frames)) (record {
      readable = reads.readable;
      joined = ap (λ (l : List ℕ). stream ++ l) (ap (λ (n : ℕ). take n piece) waits.all ∙ take_whole (length piece) piece (omega arith))
          ∙ (joined_more stream piece old frames reads.joined ∙ ap (λ (l : List ℕ). flat_map frame_bytes frames ++ l) (sym waits.held));
      none_more = waits.goes_on.no_frame;
    })

with_either : (stream old piece new : List ℕ) (frames : List Frame) (taken : ℕ) (frame : Option Frame) → Frames stream frames old → BeginsNoFrame new → MatchOption frame (Waits old piece new taken) (Brings old piece new taken) → Frames (stream ++ take taken piece) (frames ++ option_to_list frame) new
with_either stream old piece new frames taken (Some frame) reads none brings = with_frame stream old piece new frames taken frame reads none brings
with_either stream old piece new frames taken None reads none waits = with_none stream old piece new frames taken reads waits

with_fault : (stream old piece new : List ℕ) (frames : List Frame) (fault : FrameFault) → Frames stream frames old → Refuses old piece new fault → Frames (stream ++ piece) frames (old ++ piece) × (why (old ++ piece) ≡ Err fault)
with_fault stream old piece new frames fault reads refuses = (
  record {
    readable = reads.readable;
    joined = joined_more stream piece old frames reads.joined;
    none_more = subst BeginsNoFrame (sym refuses.parts) (refuses.faulty.no_frame refuses.rest);
  },
  ap why refuses.parts ∙ refuses.faulty.reason refuses.rest,
)

pub reads_on : (stream old piece new : List ℕ) (frames : List Frame) (r : Result Fed FrameFault) → Frames stream frames old → BeginsNoFrame new → Feeds old piece new r → ReadsOn stream frames old piece new r
reads_on stream old piece new frames (Ok fed) reads none feeds = with_either stream old piece new frames fed.taken fed.frame reads none feeds.1
reads_on stream old piece new frames (Err BadVersion) reads none feeds = with_fault stream old piece new frames BadVersion reads feeds
reads_on stream old piece new frames (Err TooLong) reads none feeds = with_fault stream old piece new frames TooLong reads feeds
reads_on stream old piece new frames (Err Memory) reads none feeds = subst (λ (l : List ℕ). Frames stream frames l) (sym feeds.0) reads
reads_on stream old piece new frames (Err Truncated) reads none feeds = absurd feeds
reads_on stream old piece new frames (Err Read) reads none feeds = absurd feeds
