-- Which of a stream's frames were handled: no other cut of the stream into frames is there.
use Rattle.std.proofs.Common.{◌≡◌, ℕ, Bool, cond, ◌<◌, ◌≤◌, List, [], ◌∷◌, ◌++◌, length, take, Option, Result, Ok, Err, refl, sym, ap, subst, ◌∙◌, append_assoc, append-nil, length-append, arith}
use Rattle.std.specs.List.{AllByRecursion, flat_map}
use Rattle.std.specs.Io.KnownBytes.{Appends}
use Rattle.std.proofs.lemmas.Bool.{lt-ltb, le-ltb}
use Rattle.std.proofs.lemmas.List.{take_all, take_at}
use Rattle.droid_frame.specs.Frames.{frame_bytes}
use Rattle.droid_frame.specs.Streams.{IsReadable, BeginsNoFrame, Frames, why}
use Rattle.droid_frame.specs.declared.streams.arrival.Arrival.{Arrival}
use Rattle.droid_frame.specs.declared.streams.arrival.Arrival.TheVariants.{End}
use Rattle.droid_frame.specs.declared.streams.fault.FrameFault.{FrameFault}
use Rattle.droid_frame.specs.declared.streams.fault.FrameFault.TheVariants.{Truncated, BadVersion, TooLong, Memory, Read}
use Rattle.droid_frame.specs.declared.frame.Frame.{Frame}
use Rattle.droid_frame.proofs.FrameLaws.{reported_frame}
use Rattle.droid_frame.proofs.StreamFrames.{no_frame_in_short, why_nothing}
use Rattle.droid_core.specs.Running.{Runs}
use Rattle.droid_core.specs.declared.service.Service.{Service}
use Rattle.droid_core_spec.specs.Histories.{History}
use Rattle.droid_core_spec.specs.Setting.{Setting}
use Rattle.droid_wire.specs.declared.stream_end.Ended.{Ended}
use Rattle.droid_wire.specs.declared.stream_end.Ended.TheVariants.{Closed, Turns}
use Rattle.droid_wire.specs.declared.serve_fault.ServeFault.{ServeFault}
use Rattle.droid_wire.specs.declared.serve_fault.ServeFault.TheVariants as faults
use Rattle.droid_core_spec.specs.Written.{reply_frames}
use Rattle.droid_wire.specs.Serving.{Outcome, Serves}
use Rattle.droid_wire.specs.Whole.{FirstFramesAreAnswered, ServesWhole, UnlessFailed, end_of, last_end}

-- ---- frames at the front of a stream

-- the frames of a stream begin with those, and the others are in what those leave
record Begins (frames front : List Frame) (rest left : List ℕ) : Type 0 where
  others : List Frame
  readable : AllByRecursion IsReadable others
  cut : frames ≡ front ++ others
  joined : left ≡ flat_map frame_bytes others ++ rest

begins : (frames front : List Frame) (rest left : List ℕ) → AllByRecursion IsReadable frames → AllByRecursion IsReadable front → BeginsNoFrame rest
    → flat_map frame_bytes frames ++ rest ≡ flat_map frame_bytes front ++ left → Begins frames front rest left
begins frames [] rest left all some none same = record { others = frames; readable = all; cut = refl; joined = sym same }
begins [] (f ∷ front) rest left all some none same =
    absurd (none f (flat_map frame_bytes front ++ left) some.0 (same ∙ append_assoc (frame_bytes f) (flat_map frame_bytes front) left))
begins (g ∷ frames) (f ∷ front) rest left all some none same =
    let whole : frame_bytes g ++ (flat_map frame_bytes frames ++ rest) ≡ frame_bytes f ++ (flat_map frame_bytes front ++ left) =
    sym (append_assoc (frame_bytes g) (flat_map frame_bytes frames) rest) ∙ (same ∙ append_assoc (frame_bytes f) (flat_map frame_bytes front) left) in
    let reported = reported_frame g f (flat_map frame_bytes frames ++ rest) (flat_map frame_bytes front ++ left) all.0.is_frame some.0.is_frame whole in
    let after = begins frames front rest left all.1 some.1 none reported.1 in
    record {
      others = after.others;
      readable = after.readable;
      cut = subst (λ (h : Frame). h ∷ frames ≡ f ∷ (front ++ after.others)) (sym reported.0) (ap (λ (fs : List Frame). f ∷ fs) after.cut);
      joined = after.joined;
    }

-- where those leave no frame, they are all
record AreAll (frames front : List Frame) (rest left : List ℕ) : Type 0 where
  same : front ≡ frames
  same_rest : left ≡ rest

no_others : (frames front others : List Frame) (rest left : List ℕ) → AllByRecursion IsReadable others → frames ≡ front ++ others → left ≡ flat_map frame_bytes others ++ rest → BeginsNoFrame left → AreAll frames front rest left
no_others frames front [] rest left readable cut joined none = record { same = sym (cut ∙ append-nil front); same_rest = joined }
no_others frames front (f ∷ others) rest left readable cut joined none =
    absurd (none f (flat_map frame_bytes others ++ rest) readable.0 (joined ∙ append_assoc (frame_bytes f) (flat_map frame_bytes others) rest))

-- ---- what was served

module _ (setting : Setting) (history : History) (turns : ℕ) (input : List ℕ) (old new : Option (List ℕ)) (after : Service) (frames : List Frame) (rest : List ℕ) (stream : Frames input frames rest) where
  front_of : (P : ℕ → List ℕ → Type 0) → (served : Serves setting history input old new after P) → Begins frames served.frames rest served.rest
  front_of P served =
      begins frames served.frames rest served.rest stream.readable served.handled.readable stream.none_more (sym stream.joined ∙ served.handled.joined)

  -- these are the frames that were served
  served_first : (P : ℕ → List ℕ → Type 0) (result : Result Ended ServeFault) → (served : Serves setting history input old new after P) → served.frames ≡ take turns frames → result ≡ end_of turns frames rest
      → ServesWhole setting history turns frames rest old new after result
  served_first P result served same ends = record {
    ends = ends;
    replies = served.replies;
    runs = subst (λ (fs : List Frame). Runs setting history fs served.replies after) same served.handled.runs;
    written = subst (λ (fs : List Frame). Appends old new (reply_frames fs served.replies)) same served.written;
  }

  -- they are all, and the stream ends by why no more follow
  served_all : (P : ℕ → List ℕ → Type 0) (by : Result Arrival FrameFault) → (served : Serves setting history input old new after P) → length served.frames < turns → BeginsNoFrame served.rest → why served.rest ≡ by
      → ServesWhole setting history turns frames rest old new after (last_end by)
  served_all P by served fewer none ends =
      let front = front_of P served in
      let all = no_others frames served.frames front.others rest served.rest front.readable front.cut front.joined none in
      let less : length frames < turns = subst (λ (fs : List Frame). length fs < turns) all.same fewer in
      let by_rest : why rest ≡ by = subst (λ (bytes : List ℕ). why bytes ≡ by) all.same_rest ends in
      let end : end_of turns frames rest ≡ last_end by =
      ap (λ (b : Bool). cond b (last_end (why rest)) (Ok Turns)) (lt-ltb (length frames) turns less) ∙ ap last_end by_rest in
      served_first P (last_end by) served (all.same ∙ sym (take_all turns frames (omega (arith, less)))) (sym end)

  pub served_whole : (left : Option (List ℕ)) (result : Result Ended ServeFault) → Outcome setting history turns input left old new after result → UnlessFailed result (ServesWhole setting history turns frames rest old new after result)
  served_whole left (Ok Turns) served =
      let front = front_of _ served in
      let size : turns ≡ length served.frames = sym served.ends.0 in
      let enough : turns ≤ length frames = omega (arith, size, ap length front.cut, length-append served.frames front.others) in
      let end : end_of turns frames rest ≡ Ok Turns = ap (λ (b : Bool). cond b (last_end (why rest)) (Ok Turns)) (le-ltb (length frames) turns enough) in
      served_first _ (Ok Turns) served (sym (ap (take turns) front.cut ∙ take_at served.frames front.others turns (sym size))) (sym end)
  served_whole left (Ok Closed) served =
      served_all _ (Ok End) served served.ends.0 (no_frame_in_short served.rest (omega (arith, ap length served.ends.1))) (ap why served.ends.1 ∙ why_nothing)
  served_whole left (Err (faults.Frame Truncated)) served = served_all _ (Err Truncated) served served.ends.0 served.ends.1.no_frame served.ends.1.reason
  served_whole left (Err (faults.Frame BadVersion)) served = served_all _ (Err BadVersion) served served.ends.0 served.ends.1.no_frame served.ends.1.reason
  served_whole left (Err (faults.Frame TooLong)) served = served_all _ (Err TooLong) served served.ends.0 served.ends.1.no_frame served.ends.1.reason
  served_whole left (Err (faults.Frame Memory)) served = tt
  served_whole left (Err (faults.Frame Read)) served = tt
  served_whole left (Err (faults.Write written)) served = tt

pub first_frames : FirstFramesAreAnswered
first_frames setting history turns input left old new after result frames rest stream outcome =
    served_whole setting history turns input old new after frames rest stream left result outcome
