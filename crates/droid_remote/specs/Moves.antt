-- What happens on a connection between two states of it.
use Rattle.std.specs.Prelude.{◌≡◌, ◌⊎◌, Bool, IsTrue, List, Contains, Option, Some}
use Rattle.droid_frame.specs.declared.frame.Frame.{Frame}
use Rattle.droid_remote.specs.Chains.{GoesOver}
use Rattle.droid_remote.specs.Events.{Event, Fact, Lost, facts_after}
use Rattle.droid_remote.specs.Stages.{CountsOn}
use Rattle.droid_remote.specs.TransferFaults.{Explains}
use Rattle.droid_remote.specs.Vouching.{IsRepeated, MayAllHappen}
use Rattle.droid_remote.specs.declared.transfer.connection_steps.Stage.{Stage}
use Rattle.droid_remote.specs.declared.transfer.known_requests.Known.{Known}
use Rattle.droid_remote.specs.declared.transfer.known_requests.KnownRequests.{KnownRequests}
use Rattle.droid_remote.specs.declared.transfer.transfer_fault.TransferFault.{TransferFault}

-- Events happened. Only known requests and such frames were written, and such frames only after the service had been
-- vouched for on the same connection.
pub record Goes {C : Type 0} (does : C → Event → C → Type 0) (known : KnownRequests) (Is : Frame → Type 0)
    (facts : List Fact) (old new : C) : Type 0 where
  pub events : List Event
  pub happened : GoesOver does old events new
  pub only : MayAllHappen known Is facts events

-- events happened, and what counts as written afterwards is a fact
pub record Moves {C : Type 0} (does : C → Event → C → Type 0) (known : KnownRequests) (Is : Frame → Type 0)
    (facts : List Fact) (stage : Stage) (waiting : List Frame) (old new : C) : Type 0 where
  pub goes : Goes does known Is facts old new
  pub counts : CountsOn stage known waiting (facts_after facts goes.events)

-- events happened, and ended with a fault
pub record Stops {C : Type 0} (does : C → Event → C → Type 0) (known : KnownRequests) (Is : Frame → Type 0)
    (pieces : List Frame) (fault : TransferFault) (facts : List Fact) (old new : C) : Type 0 where
  pub goes : Goes does known Is facts old new
  pub explained : Explains fault known Is pieces facts goes.events

-- a known request, if there is one, was written again; if the connection still stands, its known reply came
pub record Repeats {C : Type 0} (does : C → Event → C → Type 0) (all : KnownRequests) (waiting : List Frame)
    (some : Option Known) (stands : Bool) (facts : List Fact) (old new : C) : Type 0 where
  pub goes : Goes does all (Contains waiting) facts old new
  pub kept : IsTrue stands → (fact : Fact) → Contains facts fact → Contains (facts_after facts goes.events) fact
  pub repeated : IsTrue stands → (known : Known) → some ≡ Some known → IsRepeated (facts_after facts goes.events) known

-- no frame was read
abbrev pub ReadsNothing : {C : Type 0} → (C → Event → C → Type 0) → C → C → Type 0
ReadsNothing does old new = (new ≡ old) ⊎ does old Lost new
