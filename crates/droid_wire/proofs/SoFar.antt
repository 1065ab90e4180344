-- What the turns so far have given, and one turn more.
use Rattle.std.proofs.Common.{◌≡◌, ℕ, ◌+◌, List, [], ◌∷◌, ◌++◌, length, Option, Some, None, Ok, IfSome, refl, sym, ap, subst, ◌∙◌, append_assoc, append-nil, length-append, arith}
use Rattle.std.specs.List.{AllByRecursion, flat_map}
use Rattle.std.specs.Io.KnownBytes.{Appends}
use Rattle.std.proofs.KnownBytes.{Appends-nil, Appends-trans}
use Rattle.std.proofs.lemmas.Grind.{flat_map-append}
use Rattle.droid_frame.specs.Frames.{frame_bytes}
use Rattle.droid_frame.specs.ReplyFrames.{reply_frame}
use Rattle.droid_frame.specs.Streams.{IsReadable}
use Rattle.droid_frame.specs.declared.frame.Frame.{Frame}
use Rattle.droid_frame.specs.declared.reply.Reply.{Reply}
use Rattle.droid_core.specs.Running.{without_memory_faults}
use Rattle.droid_core.specs.Standing.{StandsFor}
use Rattle.droid_core.specs.declared.service.Service.{Service}
use Rattle.droid_core.proofs.Running.{Runs-none, Runs-push}
use Rattle.droid_core_spec.specs.Histories.{History, history_from}
use Rattle.droid_core_spec.specs.Setting.{Setting}
use Rattle.droid_core_spec.specs.Written.{reply_frames}
use Rattle.droid_wire.specs.Serving.{Handled}
use Rattle.droid_wire.specs.Steps.{Turn, TurnGives}
use Rattle.droid_wire.proofs.Passing.{if_some_is}

-- ---- one more

pub reply_frames-push : (frames : List Frame) (replies : List Reply) (frame : Frame) (reply : Reply) → length replies ≡ length frames
    → reply_frames (frames ++ frame ∷ []) (replies ++ reply ∷ []) ≡ reply_frames frames replies ++ reply_frame frame.version frame.client frame.number reply
reply_frames-push [] [] frame reply e = append-nil (reply_frame frame.version frame.client frame.number reply)
reply_frames-push [] (r ∷ replies) frame reply e = absurd (omega arith)
reply_frames-push (f ∷ frames) [] frame reply e = absurd (omega arith)
reply_frames-push (f ∷ frames) (r ∷ replies) frame reply e =
    let first = reply_frame f.version f.client f.number r in
    ap (λ (bytes : List ℕ). first ++ bytes) (reply_frames-push frames replies frame reply (omega arith))
    ∙ sym (append_assoc first (reply_frames frames replies) (reply_frame frame.version frame.client frame.number reply))

all-push : {A : Type 0} (P : A → Type 0) (xs : List A) (x : A) → AllByRecursion P xs → P x → AllByRecursion P (xs ++ x ∷ [])
all-push P [] x all last = (last, tt)
all-push P (y ∷ xs) x all last = (all.0, all-push P xs x all.1 last)

joined_more : (input rest after : List ℕ) (frames : List Frame) (frame : Frame) → input ≡ flat_map frame_bytes frames ++ rest → rest ≡ frame_bytes frame ++ after
    → input ≡ flat_map frame_bytes (frames ++ frame ∷ []) ++ after
joined_more input rest after frames frame first next =
    let front = flat_map frame_bytes frames in
    let more : flat_map frame_bytes (frames ++ frame ∷ []) ≡ front ++ frame_bytes frame =
    flat_map-append frame_bytes frames (frame ∷ []) ∙ ap (λ (bytes : List ℕ). front ++ bytes) (append-nil (frame_bytes frame)) in
    first ∙ (ap (λ (bytes : List ℕ). front ++ bytes) next ∙ (sym (append_assoc front (frame_bytes frame) after) ∙ ap (λ (bytes : List ℕ). bytes ++ after) (sym more)))

-- the history after these requests
abbrev pub history_after : Setting → History → List Frame → List Reply → History
history_after setting history frames replies = history_from setting history (without_memory_faults frames replies)

-- a frame more was handled
pub handled_more : (setting : Setting) (history : History) (input rest : List ℕ) (left : Option (List ℕ)) (frames : List Frame) (replies : List Reply) (before after : Service) (frame : Frame) (reply : Reply)
    → Handled setting history input rest frames replies before → (turn : Turn setting (history_after setting history frames replies) rest left after frame reply)
    → Handled setting history input turn.rest (frames ++ frame ∷ []) (replies ++ reply ∷ []) after
handled_more setting history input rest left frames replies before after frame reply so_far turn = record {
  readable = all-push IsReadable frames frame so_far.readable turn.readable;
  joined = joined_more input rest turn.rest frames frame so_far.joined turn.joined;
  runs = Runs-push setting history frames replies before after frame reply so_far.runs turn.handles turn.spelled;
}

-- ---- along the turns

-- the first turns handled these frames and gave these replies, of `written` bytes; `left` is left of the input
pub record SoFar (setting : Setting) (history : History) (input : List ℕ) (left old new : Option (List ℕ)) (after : Service) (turn written : ℕ) : Type 0 where
  pub frames : List Frame
  pub replies : List Reply
  pub rest : List ℕ
  pub handled : Handled setting history input rest frames replies after
  pub is_left : left ≡ Some rest
  pub count : length frames ≡ turn
  pub appended : Appends old new (reply_frames frames replies)
  pub written_is : written ≡ length (reply_frames frames replies)

pub so_far_none : (setting : Setting) (history : History) (known bytes : Option (List ℕ)) (service : Service) (turn written : ℕ) → turn ≡ 0 → written ≡ 0 → StandsFor setting service history
    → IfSome known (λ input. SoFar setting history input known bytes bytes service turn written)
so_far_none setting history None bytes service turn written first nothing stands = tt
so_far_none setting history (Some input) bytes service turn written first nothing stands = record {
  frames = [];
  replies = [];
  rest = input;
  handled = record { readable = tt; joined = refl; runs = Runs-none setting history service stands };
  is_left = refl;
  count = sym first;
  appended = Appends-nil bytes;
  written_is = nothing;
}

-- what a turn gave where these stand
pub turn_here : (setting : Setting) (history : History) (input : List ℕ) (left old mid : Option (List ℕ)) (now : Service) (turn written : ℕ) (P : History → List ℕ → Type 0)
    → (so_far : SoFar setting history input left old mid now turn written)
    → ((here : History) → StandsFor setting now here → IfSome left (P here)) → P (history_after setting history so_far.frames so_far.replies) so_far.rest
turn_here setting history input left old mid now turn written P so_far gives =
    let here = history_after setting history so_far.frames so_far.replies in
    if_some_is left so_far.rest (P here) so_far.is_left (gives here so_far.handled.runs.stands)

pub so_far_more : (setting : Setting) (history : History) (known left more old mid new : Option (List ℕ)) (now after : Service) (turn written size : ℕ) (answer : Option ℕ) → answer ≡ Some size
    → IfSome known (λ input. SoFar setting history input left old mid now turn written)
    → ((here : History) → StandsFor setting now here → IfSome left (λ rest. TurnGives setting here rest more mid new now after written (Ok answer)))
    → IfSome known (λ input. SoFar setting history input more old new after (turn + 1) (written + size))
so_far_more setting history None left more old mid new now after turn written size answer is so_far gives = tt
so_far_more setting history (Some input) left more old mid new now after turn written size answer is so_far gives =
    let given = turn_here setting history input left old mid now turn written (λ here rest. TurnGives setting here rest more mid new now after written (Ok (Some size))) so_far (rw is at gives) in
    let push = reply_frames-push so_far.frames so_far.replies given.frame given.reply so_far.handled.runs.count in
    let all = reply_frames so_far.frames so_far.replies in
    let last = reply_frame given.frame.version given.frame.client given.frame.number given.reply in
    record {
      frames = so_far.frames ++ given.frame ∷ [];
      replies = so_far.replies ++ given.reply ∷ [];
      rest = given.turn.rest;
      handled = handled_more setting history input so_far.rest more so_far.frames so_far.replies now after given.frame given.reply so_far.handled given.turn;
      is_left = given.turn.is_left;
      count = omega (arith, so_far.count, length-append so_far.frames (given.frame ∷ []));
      appended = subst (Appends old new) (sym push) (Appends-trans old mid new all last so_far.appended given.written);
      written_is = omega (arith, so_far.written_is, given.size_is, ap length push, length-append all last);
    }
