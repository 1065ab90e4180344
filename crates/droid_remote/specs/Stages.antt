-- Which frames in flight count as written, and what an `InFlight` counts on (this project's own).
use Rattle.std.specs.Prelude.{◌≡◌, List, [], ◌∷◌, Contains, take}
use Rattle.droid_frame.specs.declared.frame.Frame.{Frame}
use Rattle.droid_remote.specs.Events.{Fact, Written}
use Rattle.droid_remote.specs.Vouching.{IsVouched}
use Rattle.droid_remote.specs.declared.transfer.connection_steps.Stage.{Stage}
use Rattle.droid_remote.specs.declared.transfer.connection_steps.Stage.TheVariants.{Nowhere, First, Answered, All}
use Rattle.droid_remote.specs.declared.transfer.in_flight.InFlight.{InFlight}
use Rattle.droid_remote.specs.declared.transfer.known_requests.KnownRequests.{KnownRequests}

-- the frames in flight that count as written on the connection that stands
abbrev pub counted : Stage → List Frame → List Frame
counted Nowhere waiting = []
counted First waiting = take 1 waiting
counted Answered waiting = []
counted All waiting = waiting

-- a connection stands
abbrev pub Stands : Stage → Type 0
Stands Nowhere = ⊥
Stands _ = Unit {0}

-- each frame of one list is in another
abbrev pub AreIn : List Frame → List Frame → Type 0
AreIn some all = (frame : Frame) → Contains some frame → Contains all frame

-- if a connection stands, the first frame in flight was written on it
abbrev pub HasFirst : Stage → List Frame → Type 0
HasFirst stage waiting =
    Stands stage → (first : Frame) (more : List Frame) → waiting ≡ first ∷ more → Contains (counted stage waiting) first

-- what counts as written is a fact, and so is, if a connection stands, that the service was vouched for on it
pub record CountsOn (stage : Stage) (known : KnownRequests) (waiting : List Frame) (facts : List Fact) : Type 0 where
  pub written : (frame : Frame) → Contains (counted stage waiting) frame → Contains facts (Written frame)
  pub vouched : Stands stage → IsVouched known facts

-- These requests are known, and all that is counted on is a fact. A fresh `InFlight` knows nothing and counts on no
-- facts.
pub record StandsOn {C : Type 0} (known : KnownRequests) (facts : List Fact) (in_flight : InFlight C) : Type 0 where
  pub same : in_flight.known ≡ known
  pub counts : CountsOn in_flight.stage known in_flight.waiting.items facts
