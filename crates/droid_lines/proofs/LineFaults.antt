-- What a line's fault says of each stream: the line's item was done whole there, or less than it.
use Rattle.std.proofs.Common.{◌≡◌, ◌<◌, ◌+◌, ℕ, List, [], ◌∷◌, length, length-append, Option, Some, None, Err, IsErrOf, append-nil, sym, subst, arith, inl, inr}
use Rattle.std.specs.Prelude.{◌⊎◌}
use Rattle.std.specs.Io.KnownBytes.{Appends, Consumes, Keeps}
use Rattle.droid_frame.specs.InTurn.{Effect, ReportsFaultInOne}
use Rattle.droid_frame.specs.Seen.{ReportsFault}
use Rattle.droid_frame.specs.declared.streams.fault.FrameFault.TheVariants.{Read}
use Rattle.droid_frame.specs.declared.io.stream_record.Seen.{Seen}
use Rattle.droid_frame.specs.declared.frame.Frame.{Frame}
use Rattle.droid_frame.specs.declared.reply.Reply.{Reply}
use Rattle.droid_lines.specs.Printed.{answer_line, answer_text, following_bytes}
use Rattle.droid_lines.specs.declared.parser.VersionedRequest.{VersionedRequest}
use Rattle.droid_lines.specs.Lines.{request_value}
use Rattle.droid_client.specs.Cores.{Core, next_frame}
use Rattle.droid_lines.specs.Along.{ReadsReply, WritesPrinted, WritesRequest, line_frame}
use Rattle.droid_lines.specs.Exchanges.{Exchange, came_bytes, printed, sent_bytes}
use Rattle.droid_lines.specs.Stopping.{LineStops, RequestStops, WritesFront}
use Rattle.droid_lines.specs.declared.send_fault.SendFault.{SendFault}
use Rattle.droid_lines.specs.declared.send_fault.SendFault.TheVariants.{Lines, Memory, NumbersUsedUp, Frames, Closed, Replies, Malformed, Stranger, Repeated, Text}

-- ---- of a line that was sent

abbrev pub came_of : Option Exchange → Option Frame
came_of None = None
came_of (Some exchange) = Some exchange.came

abbrev pub sent_of : Option Exchange → Option Frame
sent_of None = None
sent_of (Some exchange) = Some exchange.sent

abbrev pub reply_of : Option Exchange → Option Reply
reply_of None = None
reply_of (Some exchange) = Some exchange.reply

pub read_whole : (exchange : Option Exchange) (old new : Option (List ℕ)) → Consumes old new (came_bytes exchange) → Consumes old new (line_frame (came_of exchange))
read_whole None old new read = read
read_whole (Some exchange) old new read = read

pub sent_whole : (exchange : Option Exchange) (old new : Option (List ℕ)) → Appends old new (sent_bytes exchange) → Appends old new (line_frame (sent_of exchange))
sent_whole None old new written = written
sent_whole (Some exchange) old new written = written

pub printed_whole : (exchange : Option Exchange) (old new : Option (List ℕ)) → Appends old new (printed exchange) → Appends old new (answer_line (reply_of exchange))
printed_whole None old new written = written
printed_whole (Some exchange) old new written = written

-- ---- an item that was done whole, or less than one

abbrev Done : {S A : Type 0} → Effect S A → S → S → Type 0 → Type 0
Done {S} {A} effect old new is_fault = ((item : A) × effect.whole item old new × (is_fault → ⊥)) ⊎ effect.part old new

in_one : {S A : Type 0} (seen : S → Seen) (effect : Effect S A) (old new : S) (P : Type 0)
    → Done effect old new P → ReportsFault (seen old).interruptions (seen new) P → ReportsFaultInOne seen effect old new P
in_one {S} {A} seen effect old new P (inl whole) reported = inl (whole.0, whole.1, reported.otherwise whole.2, whole.2)
in_one {S} {A} seen effect old new P (inr part) reported = inr (inr (part, reported))

abbrev Is : Type 0 → SendFault → SendFault → Type 0
Is T fault of = IsErrOf {T = T} (Err fault) of

-- ---- the replies

request_read : {S T : Type 0} (remaining : S → Option (List ℕ)) (from to : S) (fault : SendFault) (core : Core) (asked : VersionedRequest) (old new : Option (List ℕ)) (after : Core)
    → RequestStops fault core asked (remaining from) (remaining to) old new after → Done (ReadsReply remaining) from to (Is T fault (Replies Read))
request_read {S} {T} remaining from to NumbersUsedUp core asked old new after stops = inl (None, stops.1.read, λ e. absurd cc)
request_read {S} {T} remaining from to Frames core asked old new after stops = inl (None, stops.read, λ e. absurd cc)
request_read {S} {T} remaining from to Closed core asked old new after stops = inl (None, stops.2, λ e. absurd cc)
request_read {S} {T} remaining from to (Replies fault) core asked old new after stops = inr stops.2
request_read {S} {T} remaining from to Malformed core asked old new after stops = inl (Some stops.1, stops.2.read, λ e. absurd cc)
request_read {S} {T} remaining from to Stranger core asked old new after stops = inl (Some stops.0.came, stops.1.read, λ e. absurd cc)
request_read {S} {T} remaining from to Repeated core asked old new after stops = inl (Some stops.0.came, stops.1.read, λ e. absurd cc)
request_read {S} {T} remaining from to Memory core asked old new after (inl unsent) = inl (None, unsent.read, λ e. absurd cc)
request_read {S} {T} remaining from to Memory core asked old new after (inr (inl unheard)) = inl (Some unheard.1, unheard.2.read, λ e. absurd cc)
request_read {S} {T} remaining from to Memory core asked old new after (inr (inr held)) = inl (Some held.1.exchange.came, held.1.is_heard.read, λ e. absurd cc)
request_read {S} {T} remaining from to Lines core asked old new after stops = absurd stops
request_read {S} {T} remaining from to Text core asked old new after stops = absurd stops

line_read : {S T : Type 0} (remaining : S → Option (List ℕ)) (from to : S) (fault : SendFault) (core : Core) (line : List ℕ) (old_frames new_frames old_text new_text : Option (List ℕ)) (after : Core)
    → LineStops fault core line (remaining from) (remaining to) old_frames new_frames old_text new_text after → Done (ReadsReply remaining) from to (Is T fault (Replies Read))
line_read {S} {T} remaining from to Text core line old_frames new_frames old_text new_text after (inl unprinted) = inl (Some unprinted.exchanged.exchange.came, unprinted.exchanged.is_heard.read, λ e. absurd cc)
line_read {S} {T} remaining from to Text core line old_frames new_frames old_text new_text after (inr bad) = inl (None, bad.unsent.read, λ e. absurd cc)
line_read {S} {T} remaining from to Memory core line old_frames new_frames old_text new_text after (inl undone) = inl (None, undone.0.read, λ e. absurd cc)
line_read {S} {T} remaining from to Memory core line old_frames new_frames old_text new_text after (inr at) = request_read remaining from to Memory core at.asked old_frames new_frames after at.stops
line_read {S} {T} remaining from to Lines core line old_frames new_frames old_text new_text after at = request_read remaining from to Lines core at.asked old_frames new_frames after at.stops
line_read {S} {T} remaining from to NumbersUsedUp core line old_frames new_frames old_text new_text after at = request_read remaining from to NumbersUsedUp core at.asked old_frames new_frames after at.stops
line_read {S} {T} remaining from to Frames core line old_frames new_frames old_text new_text after at = request_read remaining from to Frames core at.asked old_frames new_frames after at.stops
line_read {S} {T} remaining from to Closed core line old_frames new_frames old_text new_text after at = request_read remaining from to Closed core at.asked old_frames new_frames after at.stops
line_read {S} {T} remaining from to (Replies fault) core line old_frames new_frames old_text new_text after at = request_read remaining from to (Replies fault) core at.asked old_frames new_frames after at.stops
line_read {S} {T} remaining from to Malformed core line old_frames new_frames old_text new_text after at = request_read remaining from to Malformed core at.asked old_frames new_frames after at.stops
line_read {S} {T} remaining from to Stranger core line old_frames new_frames old_text new_text after at = request_read remaining from to Stranger core at.asked old_frames new_frames after at.stops
line_read {S} {T} remaining from to Repeated core line old_frames new_frames old_text new_text after at = request_read remaining from to Repeated core at.asked old_frames new_frames after at.stops

pub replies_in_one : {S T : Type 0} (seen : S → Seen) (remaining : S → Option (List ℕ)) (from to : S) (fault : SendFault) (core : Core) (line : List ℕ) (old_frames new_frames old_text new_text : Option (List ℕ)) (after : Core)
    → LineStops fault core line (remaining from) (remaining to) old_frames new_frames old_text new_text after
    → ReportsFault (seen from).interruptions (seen to) (Is T fault (Replies Read)) → ReportsFaultInOne seen (ReadsReply remaining) from to (Is T fault (Replies Read))
replies_in_one {S} {T} seen remaining from to fault core line old_frames new_frames old_text new_text after stops reported =
    in_one seen (ReadsReply remaining) from to (Is T fault (Replies Read)) (line_read remaining from to fault core line old_frames new_frames old_text new_text after stops) reported

-- ---- the requests

keeps_nothing : (old new : Option (List ℕ)) → Keeps old new → Appends old new []
keeps_nothing None new keeps = tt
keeps_nothing (Some xs) None keeps = absurd keeps
keeps_nothing (Some xs) (Some ys) keeps = rw keeps (sym (append-nil xs))

request_written : {S T : Type 0} (contents : S → Option (List ℕ)) (from to : S) (fault : SendFault) (core : Core) (line : List ℕ) (asked : VersionedRequest) (input left : Option (List ℕ)) (after : Core)
    → request_value line ≡ Some asked → RequestStops fault core asked input left (contents from) (contents to) after → Done (WritesRequest contents) from to (Is T fault Frames)
request_written {S} {T} contents from to NumbersUsedUp core line asked input left after asks stops = inl (None, keeps_nothing _ _ stops.1.written, λ e. absurd cc)
request_written {S} {T} contents from to Frames core line asked input left after asks stops = inr (core, line, asked, asks, stops.written)
request_written {S} {T} contents from to Closed core line asked input left after asks stops = inl (Some (next_frame core asked.version asked.request), stops.0.written, λ e. absurd cc)
request_written {S} {T} contents from to (Replies fault) core line asked input left after asks stops = inl (Some (next_frame core asked.version asked.request), stops.0.written, λ e. absurd cc)
request_written {S} {T} contents from to Malformed core line asked input left after asks stops = inl (Some (next_frame core asked.version asked.request), stops.0.written, λ e. absurd cc)
request_written {S} {T} contents from to Stranger core line asked input left after asks stops = inl (Some stops.0.sent, stops.1.written, λ e. absurd cc)
request_written {S} {T} contents from to Repeated core line asked input left after asks stops = inl (Some stops.0.sent, stops.1.written, λ e. absurd cc)
request_written {S} {T} contents from to Memory core line asked input left after asks (inl unsent) = inl (None, keeps_nothing _ _ unsent.written, λ e. absurd cc)
request_written {S} {T} contents from to Memory core line asked input left after asks (inr (inl unheard)) = inl (Some (next_frame core asked.version asked.request), unheard.0.written, λ e. absurd cc)
request_written {S} {T} contents from to Memory core line asked input left after asks (inr (inr held)) = inl (Some held.1.exchange.sent, held.1.is_heard.written, λ e. absurd cc)
request_written {S} {T} contents from to Lines core line asked input left after asks stops = absurd stops
request_written {S} {T} contents from to Text core line asked input left after asks stops = absurd stops

line_written : {S T : Type 0} (contents : S → Option (List ℕ)) (from to : S) (fault : SendFault) (core : Core) (line : List ℕ) (input left old_text new_text : Option (List ℕ)) (after : Core)
    → LineStops fault core line input left (contents from) (contents to) old_text new_text after → Done (WritesRequest contents) from to (Is T fault Frames)
line_written {S} {T} contents from to Text core line input left old_text new_text after (inl unprinted) = inl (Some unprinted.exchanged.exchange.sent, unprinted.exchanged.is_heard.written, λ e. absurd cc)
line_written {S} {T} contents from to Text core line input left old_text new_text after (inr bad) = inl (None, keeps_nothing _ _ bad.unsent.written, λ e. absurd cc)
line_written {S} {T} contents from to Memory core line input left old_text new_text after (inl undone) = inl (None, keeps_nothing _ _ undone.0.written, λ e. absurd cc)
line_written {S} {T} contents from to Memory core line input left old_text new_text after (inr at) = request_written contents from to Memory core line at.asked input left after at.asks at.stops
line_written {S} {T} contents from to Lines core line input left old_text new_text after at = request_written contents from to Lines core line at.asked input left after at.asks at.stops
line_written {S} {T} contents from to NumbersUsedUp core line input left old_text new_text after at = request_written contents from to NumbersUsedUp core line at.asked input left after at.asks at.stops
line_written {S} {T} contents from to Frames core line input left old_text new_text after at = request_written contents from to Frames core line at.asked input left after at.asks at.stops
line_written {S} {T} contents from to Closed core line input left old_text new_text after at = request_written contents from to Closed core line at.asked input left after at.asks at.stops
line_written {S} {T} contents from to (Replies fault) core line input left old_text new_text after at = request_written contents from to (Replies fault) core line at.asked input left after at.asks at.stops
line_written {S} {T} contents from to Malformed core line input left old_text new_text after at = request_written contents from to Malformed core line at.asked input left after at.asks at.stops
line_written {S} {T} contents from to Stranger core line input left old_text new_text after at = request_written contents from to Stranger core line at.asked input left after at.asks at.stops
line_written {S} {T} contents from to Repeated core line input left old_text new_text after at = request_written contents from to Repeated core line at.asked input left after at.asks at.stops

pub frames_in_one : {S T : Type 0} (seen : S → Seen) (contents : S → Option (List ℕ)) (from to : S) (fault : SendFault) (core : Core) (line : List ℕ) (input left old_text new_text : Option (List ℕ)) (after : Core)
    → LineStops fault core line input left (contents from) (contents to) old_text new_text after
    → ReportsFault (seen from).interruptions (seen to) (Is T fault Frames) → ReportsFaultInOne seen (WritesRequest contents) from to (Is T fault Frames)
frames_in_one {S} {T} seen contents from to fault core line input left old_text new_text after stops reported =
    in_one seen (WritesRequest contents) from to (Is T fault Frames) (line_written contents from to fault core line input left old_text new_text after stops) reported

-- ---- what lines print

line_is_some : 0 < length (answer_line None)
line_is_some =
    let size : length (answer_line None) ≡ length (answer_text None) + length (10 ∷ following_bytes None) = length-append (answer_text None) (10 ∷ following_bytes None) in
    omega (arith, size)

keeps_front : (old new : Option (List ℕ)) → Keeps old new → WritesFront old new (answer_line None)
keeps_front old new keeps = record { count = 0; some_left = line_is_some; writes = keeps_nothing old new keeps }

line_printed : {S T : Type 0} (contents : S → Option (List ℕ)) (from to : S) (fault : SendFault) (core : Core) (line : List ℕ) (input left old_frames new_frames : Option (List ℕ)) (after : Core)
    → LineStops fault core line input left old_frames new_frames (contents from) (contents to) after → Done (WritesPrinted contents) from to (Is T fault Text)
line_printed {S} {T} contents from to Text core line input left old_frames new_frames after (inl unprinted) =
    inr (Some unprinted.exchanged.exchange.reply, subst (WritesFront (contents from) (contents to)) unprinted.exchanged.prints unprinted.written)
line_printed {S} {T} contents from to Text core line input left old_frames new_frames after (inr bad) = inr (None, bad.written)
line_printed {S} {T} contents from to Memory core line input left old_frames new_frames after (inl undone) = inr (None, keeps_front _ _ undone.1)
line_printed {S} {T} contents from to Memory core line input left old_frames new_frames after (inr at) = inr (None, keeps_front _ _ at.unprinted)
line_printed {S} {T} contents from to Lines core line input left old_frames new_frames after at = inr (None, keeps_front _ _ at.unprinted)
line_printed {S} {T} contents from to NumbersUsedUp core line input left old_frames new_frames after at = inr (None, keeps_front _ _ at.unprinted)
line_printed {S} {T} contents from to Frames core line input left old_frames new_frames after at = inr (None, keeps_front _ _ at.unprinted)
line_printed {S} {T} contents from to Closed core line input left old_frames new_frames after at = inr (None, keeps_front _ _ at.unprinted)
line_printed {S} {T} contents from to (Replies fault) core line input left old_frames new_frames after at = inr (None, keeps_front _ _ at.unprinted)
line_printed {S} {T} contents from to Malformed core line input left old_frames new_frames after at = inr (None, keeps_front _ _ at.unprinted)
line_printed {S} {T} contents from to Stranger core line input left old_frames new_frames after at = inr (None, keeps_front _ _ at.unprinted)
line_printed {S} {T} contents from to Repeated core line input left old_frames new_frames after at = inr (None, keeps_front _ _ at.unprinted)

pub text_in_one : {S T : Type 0} (seen : S → Seen) (contents : S → Option (List ℕ)) (from to : S) (fault : SendFault) (core : Core) (line : List ℕ) (input left old_frames new_frames : Option (List ℕ)) (after : Core)
    → LineStops fault core line input left old_frames new_frames (contents from) (contents to) after
    → ReportsFault (seen from).interruptions (seen to) (Is T fault Text) → ReportsFaultInOne seen (WritesPrinted contents) from to (Is T fault Text)
text_in_one {S} {T} seen contents from to fault core line input left old_frames new_frames after stops reported =
    in_one seen (WritesPrinted contents) from to (Is T fault Text) (line_printed contents from to fault core line input left old_frames new_frames after stops) reported
