-- An export that is read in parts (this project's own).
use Rattle.std.specs.Prelude.{◌≡◌, ◌≢◌, ◌⊎◌, ℕ, ◌+◌, ◌-◌, ◌<◌, ◌≤◌, min, List, [], ◌∷◌, ◌++◌, length}
use Rattle.std.specs.List.{flat_map}
use Rattle.droid_frame.specs.declared.frame.Frame.{Frame}
use Rattle.droid_frame.specs.declared.refusal.Refusal.{Refusal}
use Rattle.droid_frame.specs.declared.refusal.Refusal.TheVariants as refusals
use Rattle.droid_frame.specs.declared.reply.Reply.{Reply}
use Rattle.droid_frame.specs.declared.reply.Reply.TheVariants as replies
use Rattle.droid_frame.specs.declared.request.Request.{Request}
use Rattle.droid_frame.specs.declared.request.Request.TheVariants.{Export}
use Rattle.droid_remote.specs.Answering.{IsAnswered}
use Rattle.droid_remote.specs.Events.{Event, Fact, facts_after}
use Rattle.droid_remote.specs.Moves.{Goes}
use Rattle.droid_remote.specs.Stages.{StandsOn}
use Rattle.droid_remote.specs.TransferFaults.{Explains, IsStranger}
use Rattle.droid_remote.specs.declared.transfer.in_flight.InFlight.{InFlight}
use Rattle.droid_remote.specs.declared.transfer.known_requests.KnownRequests.{KnownRequests}
use Rattle.droid_remote.specs.declared.transfer.transfer_fault.TransferFault.{TransferFault}
use Rattle.droid_remote.specs.declared.transfer.transfer_fault.TransferFault.TheVariants as transfers
use Rattle.droid_remote.specs.Submitted.{all_records}
use Rattle.droid_remote.specs.Numbered.{frame_of}
use Rattle.droid_remote.specs.declared.remote_fault.DownloadFault.{DownloadFault}
use Rattle.droid_remote.specs.declared.remote_fault.DownloadFault.TheVariants.{Long, NoRoom, Sending}

-- all records, from this offset on, in the largest parts
abbrev pub part_request : ℕ → ℕ → Request
part_request profile from = Export profile from 1048576 all_records

-- the bytes of all parts, in order
abbrev pub joined : List (List ℕ) → List ℕ
joined parts = flat_map (λ part. part) parts

-- the most bytes of an export that a client reads
abbrev pub export_limit : ℕ
export_limit = 1073741824

-- how many bytes the part at this offset of a text has
abbrev pub part_length : ℕ → ℕ → ℕ
part_length total from = min 1048576 (total - from)

-- The reply to the request for the part at this offset is neither a refusal nor a part that can stand there: a part has
-- exactly the bytes that were asked for, or those up to the announced end.
abbrev pub IsOdd : ℕ → Reply → Type 0
IsOdd from (replies.Part as_of total bytes) = length bytes ≢ part_length total from
IsOdd from (replies.Refused refusal) = ⊥
IsOdd from _ = Unit {0}

-- why the reply to the request for the part at this offset is no part
abbrev pub ExplainsReply : ℕ → Reply → TransferFault → Type 0
ExplainsReply from reply transfers.Memory = Unit {0}
ExplainsReply from reply transfers.Stranger = IsOdd from reply
ExplainsReply from reply (transfers.Refused refusal) = (reply ≡ replies.Refused refusal) × (refusal ≢ refusals.Memory)
ExplainsReply from reply _ = ⊥

-- why there is no room for a text of this length
abbrev pub ExplainsRoom : ℕ → DownloadFault → Type 0
ExplainsRoom total (Long announced) = (announced ≡ total) × (export_limit < total)
ExplainsRoom total NoRoom = Unit {0}
ExplainsRoom total (Sending fault) = ⊥

module _ (client : ℕ) (name : List ℕ) (profile : ℕ) where
  -- the frame that asks for the part at this offset
  abbrev pub part_frame : ℕ → Frame
  part_frame from = frame_of client name 0 (part_request profile from)

  -- the frame asks for a part, at some offset
  abbrev pub IsPartFrame : Frame → Type 0
  IsPartFrame frame = (from : ℕ) × (frame ≡ part_frame from)

  -- these parts came one after the other, each of an export of `total` bytes after `as_of` accepted commands
  abbrev pub ArePartsOf : KnownRequests → List Fact → List Event → ℕ → ℕ → ℕ → List (List ℕ) → Type 0
  ArePartsOf known facts events as_of total from [] = Unit {0}
  ArePartsOf known facts events as_of total from (part ∷ parts) =
      IsAnswered known facts events (part_frame from) (replies.Part as_of total part)
      × ArePartsOf known facts events as_of total (from + length part) parts

  -- only parts of the export were asked for; nothing is in flight
  pub record OnlyAsks {C : Type 0} (does : C → Event → C → Type 0) (known : KnownRequests) (facts : List Fact)
      (old new : InFlight C) : Type 0 where
    pub goes : Goes does known IsPartFrame facts old.connection new.connection
    pub none : new.waiting.items ≡ []
    pub stands_on : StandsOn known (facts_after facts goes.events) new

  -- parts of one export, which is not longer than a client reads, came from its first byte on, and were appended
  pub record ExportsFront {C : Type 0} (does : C → Event → C → Type 0) (as_of total from : ℕ) (known : KnownRequests)
      (facts : List Fact) (old new : InFlight C) (text text_after : List ℕ) : Type 0 where
    pub parts : List (List ℕ)
    pub counted : length (joined parts) ≡ from
    pub within : total ≤ export_limit
    pub asks : OnlyAsks does known facts old new
    pub came : ArePartsOf known facts asks.goes.events as_of total 0 parts
    pub wrote : text_after ≡ text ++ joined parts

  -- all parts of one export were read and appended
  abbrev pub Exports : {C : Type 0} → (C → Event → C → Type 0) → KnownRequests → List Fact → InFlight C → InFlight C
      → List ℕ → List ℕ → Type 0
  Exports does known facts old new text text_after =
      (as_of : ℕ) × (total : ℕ) × ExportsFront does as_of total total known facts old new text text_after

  -- parts of one export came, from its first byte on, and were appended; later ones may have come that were not
  pub record Downloads {C : Type 0} (does : C → Event → C → Type 0) (known : KnownRequests) (facts : List Fact)
      (old new : InFlight C) (text text_after : List ℕ) : Type 0 where
    pub asks : OnlyAsks does known facts old new
    pub as_of : ℕ
    pub total : ℕ
    pub parts : List (List ℕ)
    pub came : ArePartsOf known facts asks.goes.events as_of total 0 parts
    pub wrote : text_after ≡ text ++ joined parts

  -- ---- of an export that ended early

  -- the request for a part was refused, for another reason than memory
  pub record IsRefusedPart (known : KnownRequests) (facts : List Fact) (events : List Event) (refusal : Refusal)
      : Type 0 where
    pub from : ℕ
    pub answered : IsAnswered known facts events (part_frame from) (replies.Refused refusal)
    pub reason : refusal ≢ refusals.Memory

  -- the reply to the request for a part is neither a refusal nor a part that can stand there
  pub record IsOddPart (known : KnownRequests) (facts : List Fact) (events : List Event) : Type 0 where
    pub from : ℕ
    pub reply : Reply
    pub answered : IsAnswered known facts events (part_frame from) reply
    pub odd : IsOdd from reply

  -- why no part came, or none that can stand there
  abbrev pub ExplainsEnd : KnownRequests → List Fact → List Event → TransferFault → Type 0
  ExplainsEnd known facts events (transfers.Refused refusal) = IsRefusedPart known facts events refusal
  ExplainsEnd known facts events transfers.Stranger = IsStranger IsPartFrame events ⊎ IsOddPart known facts events
  ExplainsEnd known facts events fault = Explains fault known IsPartFrame [] facts events

  -- only parts were asked for, and then no part came, or none that can stand there, for a reason that the events show
  pub record EndsAsking {C : Type 0} (does : C → Event → C → Type 0) (fault : TransferFault) (known : KnownRequests)
      (facts : List Fact) (old new : InFlight C) : Type 0 where
    pub asks : OnlyAsks does known facts old new
    pub explained : ExplainsEnd known facts asks.goes.events fault

  -- the first part announces more than a client reads
  pub record IsLong (known : KnownRequests) (facts : List Fact) (events : List Event) (total : ℕ) : Type 0 where
    pub as_of : ℕ
    pub bytes : List ℕ
    pub answered : IsAnswered known facts events (part_frame 0) (replies.Part as_of total bytes)
    pub over : export_limit < total

  -- Parts came that are not of one export: another command was accepted between them, or the length is another.
  pub record AreOfTwo (known : KnownRequests) (facts : List Fact) (events : List Event) : Type 0 where
    pub as_of : ℕ
    pub total : ℕ
    pub bytes : List ℕ
    pub first : IsAnswered known facts events (part_frame 0) (replies.Part as_of total bytes)
    pub from : ℕ
    pub other_as_of : ℕ
    pub other_total : ℕ
    pub other_bytes : List ℕ
    pub other : IsAnswered known facts events (part_frame from) (replies.Part other_as_of other_total other_bytes)
    pub apart : (other_as_of ≡ as_of) × (other_total ≡ total) → ⊥

  -- an export was not of one piece
  pub record Disturbs {C : Type 0} (does : C → Event → C → Type 0) (known : KnownRequests) (facts : List Fact)
      (old new : InFlight C) : Type 0 where
    pub asks : OnlyAsks does known facts old new
    pub two : AreOfTwo known facts asks.goes.events

  -- how an export ends early: no part came; it is longer than a client reads; or there is no memory for it
  abbrev pub EndsExport : {C : Type 0} → (C → Event → C → Type 0) → DownloadFault → KnownRequests → List Fact
      → InFlight C → InFlight C → Type 0
  EndsExport does (Sending fault) known facts old new = EndsAsking does fault known facts old new
  EndsExport does (Long total) known facts old new =
      (asks : OnlyAsks does known facts old new) × IsLong known facts asks.goes.events total
  EndsExport does NoRoom known facts old new = OnlyAsks does known facts old new
