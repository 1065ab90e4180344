-- Records that were handed to a machine again (this project's own).
use Rattle.std.specs.Prelude.{◌≡◌, ◌≢◌, ◌⊎◌, ℕ, ◌+◌, Bool, true, List, [], ◌∷◌, ◌++◌, length}
use Rattle.droid_frame.specs.Frames.{frame_bytes}
use Rattle.droid_frame.specs.ReplyFrames.{reply_frame}
use Rattle.droid_frame.specs.Streams.{IsReadable}
use Rattle.droid_frame.specs.declared.frame.Frame.{Frame}
use Rattle.droid_frame.specs.declared.refusal.Refusal.TheVariants.{Memory}
use Rattle.droid_frame.specs.declared.reply.Reply.{Reply}
use Rattle.droid_frame.specs.declared.reply.Reply.TheVariants.{Refused}
use Rattle.droid_journal.specs.Chains.{BeginsNoRecord, chain_bytes, place_behind}
use Rattle.droid_journal.specs.Records.{AllFit, Fits, Record}
use Rattle.droid_journal.specs.declared.records.key.Key.{Key}
use Rattle.droid_journal.specs.declared.records.place.Place.{Place}
use Rattle.droid_journal.specs.Machines.{record_of}

-- the record has an accepted request and the reply that it got behind these records
pub record GaveOne (gives : List Record → Frame → Reply → Bool → Type 0) (before : List Record) (it : Record)
    : Type 0 where
  pub frame : Frame
  pub reply : Reply
  pub spelled : it ≡ record_of it.first frame reply
  pub gave : gives before frame reply true

-- so has each of these, in order
abbrev pub Gave : (List Record → Frame → Reply → Bool → Type 0) → List Record → List Record → Type 0
Gave gives before [] = Unit {0}
Gave gives before (it ∷ its) = GaveOne gives before it × Gave gives (before ++ it ∷ []) its

-- Behind these records the request is not accepted, or with another reply. That memory ran out is none.
pub record OtherAnswer (gives : List Record → Frame → Reply → Bool → Type 0) (before : List Record)
    (request reply : List ℕ) : Type 0 where
  pub frame : Frame
  pub answer : Reply
  pub accepted : Bool
  pub spelled : request ≡ frame_bytes frame
  pub gave : gives before frame answer accepted
  pub no_memory_fault : answer ≢ Refused Memory
  pub other : accepted ≡ true → reply_frame frame.version frame.client frame.number answer ≢ reply

-- no frame that a stream can carry has these bytes
abbrev pub IsNoFrame : List ℕ → Type 0
IsNoFrame bytes = (frame : Frame) → IsReadable frame → bytes ≢ frame_bytes frame

-- such a record is none that a journal of this machine wrote behind these
abbrev pub Refutes : (List Record → Frame → Reply → Bool → Type 0) → List Record → List ℕ → List ℕ → Type 0
Refutes gives before request reply = IsNoFrame request ⊎ OtherAnswer gives before request reply

-- The bytes, which stand at a place, begin with records, and behind them none follows; a machine that stood for the
-- records before them stands for these too, and gave each its reply.
pub record Replays {S M : Type 0} (stands : S → M → List Record → Type 0)
    (gives : S → List Record → Frame → Reply → Bool → Type 0) (key : Key) (from : Place) (bytes : List ℕ) (old : M)
    (to : Place) (new : M) : Type 0 where
  pub its : List Record
  pub rest : List ℕ
  pub fit : AllFit its
  pub joined : bytes ≡ chain_bytes key from its ++ rest
  pub ends : BeginsNoRecord key to rest
  pub to_is : to ≡ place_behind key from its
  pub stood : (setting : S) (before : List Record) → stands setting old before → stands setting new (before ++ its)
  pub gave : (setting : S) (before : List Record) → stands setting old before → Gave (gives setting) before its

-- The bytes, which stand at a place, begin with records, and the last of them, which has this number, is none that a
-- journal of this machine wrote behind those before it.
pub record Fails {S M : Type 0} (stands : S → M → List Record → Type 0)
    (gives : S → List Record → Frame → Reply → Bool → Type 0) (key : Key) (from : Place) (bytes : List ℕ) (old : M)
    (number : ℕ) : Type 0 where
  pub its : List Record
  pub it : Record
  pub rest : List ℕ
  pub fit : AllFit its
  pub fits : Fits it
  pub joined : bytes ≡ chain_bytes key from (its ++ it ∷ []) ++ rest
  pub count : number ≡ from.records + length its + 1
  pub why : (setting : S) (before : List Record) → stands setting old before
      → Refutes (gives setting) (before ++ its) it.request it.reply
