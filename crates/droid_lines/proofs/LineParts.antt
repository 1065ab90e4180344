-- What the parts of sending a line say of it.
use Rattle.std.proofs.Common.{◌≡◌, ◌≢◌, ℕ, ◌^◌, true, false, List, Option, Some, None, Err, refl, sym, ap, subst, ◌∙◌, inl, inr}
use Rattle.std.specs.Prelude.{is_none}
use Rattle.std.specs.Io.KnownBytes.{Appends, Keeps}
use Rattle.std.proofs.KnownBytes.{Appends-nil, Consumes-nil, Keeps-refl}
use Rattle.droid_frame.specs.Frames.{frame_bytes}
use Rattle.droid_frame.specs.declared.frame.Frame.{Frame}
use Rattle.droid_lines.specs.declared.parser.VersionedRequest.{VersionedRequest}
use Rattle.droid_client.specs.Cores.{Core, core_submitting, next_frame, next_number}
use Rattle.droid_client.specs.declared.heard.Heard.{Heard}
use Rattle.droid_client.specs.declared.heard.Heard.TheVariants as heard
use Rattle.droid_lines.specs.Lines.{request_value}
use Rattle.droid_lines.specs.Printed.{answer_line}
use Rattle.droid_lines.specs.declared.send_fault.SendFault.{SendFault}
use Rattle.droid_lines.specs.declared.send_fault.SendFault.TheVariants.{Lines, Memory, NumbersUsedUp, Frames, Closed, Replies, Malformed, Stranger, Repeated, Text}
use Rattle.droid_lines.specs.Exchanges.{Hears}
use Rattle.droid_lines.specs.Steps.{LineDone, ReplyComes, Takes, TakesNone}
use Rattle.droid_lines.specs.Stopping.{Exchanged, IsHeardAs, LineStops, ReadsOne, RequestStops, StopsAt, Undone, Unheard}

-- ---- a request

pub unheard : (core : Core) (asked : VersionedRequest) (old new : Option (List ℕ)) (after : Core) → (next_number core ≢ 2 ^ 63) × (after ≡ core_submitting core asked.version asked.request) × Appends old new (frame_bytes (next_frame core asked.version asked.request))
    → Unheard core asked old new after
unheard core asked old new after goes = record { number_left = goes.0; submitted = goes.1; written = goes.2 }

-- no frame came
pub unread_stops : (core : Core) (asked : VersionedRequest) (input left old new : Option (List ℕ)) (after : Core) (fault : SendFault)
    → Unheard core asked old new after → ReplyComes input left (Err fault) → RequestStops fault core asked input left old new after
unread_stops core asked input left old new after Closed sent comes = (sent, comes.0, comes.1)
unread_stops core asked input left old new after (Replies fault) sent comes = (sent, comes.0, comes.1)
unread_stops core asked input left old new after NumbersUsedUp sent comes = absurd comes
unread_stops core asked input left old new after Memory sent comes = absurd comes
unread_stops core asked input left old new after Frames sent comes = absurd comes
unread_stops core asked input left old new after Lines sent comes = absurd comes
unread_stops core asked input left old new after Malformed sent comes = absurd comes
unread_stops core asked input left old new after Stranger sent comes = absurd comes
unread_stops core asked input left old new after Repeated sent comes = absurd comes
unread_stops core asked input left old new after Text sent comes = absurd comes

-- a reply was heard so
heard_as : (core : Core) (asked : VersionedRequest) (input left old new : Option (List ℕ)) (middle after : Core) (frame : Frame) (reply : _) (is : Heard)
    → Unheard core asked old new middle → ReadsOne input left frame → Hears middle frame reply is after
    → IsHeardAs core asked input left old new after (record { sent = next_frame core asked.version asked.request; came = frame; reply = reply }) is
heard_as core asked input left old new middle after frame reply is sent comes hears = record {
  exchanges = record {
    number_left = sent.number_left;
    sent_is = refl;
    readable = comes.readable;
    hears = subst (λ (c : Core). Hears c frame reply is after) sent.submitted hears;
  };
  read = comes.read;
  written = sent.written;
}

pub exchanged : (core : Core) (asked : VersionedRequest) (input left old new : Option (List ℕ)) (middle after : Core) (frame : Frame) (text : List ℕ)
    → Unheard core asked old new middle → ReadsOne input left frame → Takes middle frame after text → Exchanged core asked input left old new after text
exchanged core asked input left old new middle after frame text sent comes takes = record {
  exchange = record { sent = next_frame core asked.version asked.request; came = frame; reply = takes.reply };
  heard = takes.heard;
  taken = takes.taken;
  is_heard = heard_as core asked input left old new middle after frame takes.reply takes.heard sent comes takes.hears;
  prints = takes.prints;
}

still_unheard : (core : Core) (asked : VersionedRequest) (old new : Option (List ℕ)) (middle after : Core) → Unheard core asked old new middle → after ≡ middle → Unheard core asked old new after
still_unheard core asked old new middle after sent same = record { number_left = sent.number_left; submitted = same ∙ sent.submitted; written = sent.written }

-- the frame that came was not taken, or its reply not printed
pub untaken_stops : (core : Core) (asked : VersionedRequest) (input left old new : Option (List ℕ)) (middle after : Core) (frame : Frame) (fault : SendFault)
    → Unheard core asked old new middle → ReadsOne input left frame → TakesNone fault middle frame after → RequestStops fault core asked input left old new after
untaken_stops core asked input left old new middle after frame Malformed sent comes none = (still_unheard core asked old new middle after sent none.0, frame, comes, none.1)
untaken_stops core asked input left old new middle after frame Memory sent comes (inl none) = inr (inl (still_unheard core asked old new middle after sent none.0, frame, comes, none.1))
untaken_stops core asked input left old new middle after frame Memory sent comes (inr took) = inr (inr (took.0, exchanged core asked input left old new middle after frame took.0 sent comes took.1))
untaken_stops core asked input left old new middle after frame Stranger sent comes none =
    (record { sent = next_frame core asked.version asked.request; came = frame; reply = none.0 }, heard_as core asked input left old new middle after frame none.0 heard.Stranger sent comes none.1)
untaken_stops core asked input left old new middle after frame Repeated sent comes none =
    (record { sent = next_frame core asked.version asked.request; came = frame; reply = none.0 }, heard_as core asked input left old new middle after frame none.0 heard.Repeated sent comes none.1)
untaken_stops core asked input left old new middle after frame NumbersUsedUp sent comes none = absurd none
untaken_stops core asked input left old new middle after frame Frames sent comes none = absurd none
untaken_stops core asked input left old new middle after frame Lines sent comes none = absurd none
untaken_stops core asked input left old new middle after frame Closed sent comes none = absurd none
untaken_stops core asked input left old new middle after frame (Replies fault) sent comes none = absurd none
untaken_stops core asked input left old new middle after frame Text sent comes none = absurd none

-- ---- a line

stops_at : (fault : SendFault) (core : Core) (line : List ℕ) (asked : VersionedRequest) (input left old_frames new_frames text : Option (List ℕ)) (after : Core)
    → request_value line ≡ Some asked → RequestStops fault core asked input left old_frames new_frames after → Keeps text text
    → StopsAt fault core line input left old_frames new_frames text text after
stops_at fault core line asked input left old_frames new_frames text after asks stops keeps = record { asked = asked; asks = asks; stops = stops; unprinted = keeps }

pub line_stops : (fault : SendFault) (core : Core) (line : List ℕ) (asked : VersionedRequest) (input left old_frames new_frames text : Option (List ℕ)) (after : Core)
    → request_value line ≡ Some asked → RequestStops fault core asked input left old_frames new_frames after → Keeps text text
    → LineStops fault core line input left old_frames new_frames text text after
line_stops Memory core line asked input left old_frames new_frames text after asks stops keeps = inr (stops_at Memory core line asked input left old_frames new_frames text after asks stops keeps)
line_stops Text core line asked input left old_frames new_frames text after asks stops keeps = absurd stops
line_stops NumbersUsedUp core line asked input left old_frames new_frames text after asks stops keeps = stops_at NumbersUsedUp core line asked input left old_frames new_frames text after asks stops keeps
line_stops Frames core line asked input left old_frames new_frames text after asks stops keeps = stops_at Frames core line asked input left old_frames new_frames text after asks stops keeps
line_stops Closed core line asked input left old_frames new_frames text after asks stops keeps = stops_at Closed core line asked input left old_frames new_frames text after asks stops keeps
line_stops (Replies fault) core line asked input left old_frames new_frames text after asks stops keeps = stops_at (Replies fault) core line asked input left old_frames new_frames text after asks stops keeps
line_stops Malformed core line asked input left old_frames new_frames text after asks stops keeps = stops_at Malformed core line asked input left old_frames new_frames text after asks stops keeps
line_stops Stranger core line asked input left old_frames new_frames text after asks stops keeps = stops_at Stranger core line asked input left old_frames new_frames text after asks stops keeps
line_stops Repeated core line asked input left old_frames new_frames text after asks stops keeps = stops_at Repeated core line asked input left old_frames new_frames text after asks stops keeps
line_stops Lines core line asked input left old_frames new_frames text after asks stops keeps = absurd stops

-- a good line, and its reply was printed
pub good_done : (core : Core) (line : List ℕ) (asked : VersionedRequest) (input left old_frames new_frames old_text new_text : Option (List ℕ)) (after : Core) (text : List ℕ)
    → request_value line ≡ Some asked → Exchanged core asked input left old_frames new_frames after text → Appends old_text new_text text
    → LineDone core line input left old_frames new_frames old_text new_text after false
good_done core line asked input left old_frames new_frames old_text new_text after text asks ex written = record {
  exchange = Some ex.exchange;
  sent = record { asked = asked; asks = asks; heard = ex.heard; taken = ex.taken; exchanges = ex.is_heard.exchanges };
  read = ex.is_heard.read;
  frames = ex.is_heard.written;
  text = subst (Appends old_text new_text) ex.prints written;
  bad_is = sym (ap (λ (o : Option VersionedRequest). is_none o) asks);
}

-- a bad line, which was printed as one
pub bad_done : (core : Core) (line : List ℕ) (input frames old_text new_text : Option (List ℕ)) → request_value line ≡ None → Appends old_text new_text (answer_line None)
    → LineDone core line input input frames frames old_text new_text core true
bad_done core line input frames old_text new_text asks written = record {
  exchange = None;
  sent = record { asks = asks; same = refl };
  read = Consumes-nil input;
  frames = Appends-nil frames;
  text = written;
  bad_is = sym (ap (λ (o : Option VersionedRequest). is_none o) asks);
}

pub undone : (core : Core) (input frames text : Option (List ℕ)) → Undone core input input frames frames text text core
undone core input frames text = (record { same = refl; read = Consumes-nil input; written = Keeps-refl frames }, Keeps-refl text)
