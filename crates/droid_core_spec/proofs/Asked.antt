-- What a frame asks: what its kind and body spell under a number below 2^63, and nothing else.
use Rattle.std.proofs.Common.{◌≡◌, ◌<◌, ◌^◌, nat_lt, Bool, true, false, cond, inl, inr, Option, Some, None, IsSome, refl}
use Rattle.std.proofs.lemmas.Bool.{cases_Bool, lt-ltb, ltb-true}
use Rattle.droid_frame.specs.declared.frame.Frame.{Frame}
use Rattle.droid_frame.specs.declared.request.Request.{Request}
use Rattle.droid_frame.specs.Bodies.{SpellsRequest}
use Rattle.droid_frame.specs.Fields.{IsBytes}
use Rattle.droid_frame.specs.RequestValues.{any_value, request_in, request_value}
use Rattle.droid_frame.specs.Versions.{IsVersion, is_version}
use Rattle.droid_frame.proofs.RequestLaws.{spelled_is_value, value_is_spelled}
use Rattle.droid_core_spec.specs.Histories.{Asks, AsksNothing, command}

-- what is spelled under a number below 2^63 is asked
pub asked : (frame : Frame) (request : Request) → frame.number < 2 ^ 63 → SpellsRequest frame.version frame.kind frame.body request → command frame ≡ Some request
unfolding command request_in
asked frame request small spelled = rw (lt-ltb frame.number (2 ^ 63) small) (spelled_is_value frame.version frame.kind frame.body request spelled)

pub is_asked : (frame : Frame) (request : Request) → frame.number < 2 ^ 63 → SpellsRequest frame.version frame.kind frame.body request → IsSome (command frame)
is_asked frame request small spelled = rw (asked frame request small spelled) refl

no_value : (value : Option Request) → ((request : Request) → value ≡ Some request → ⊥) → value ≡ None
no_value None others = refl
no_value (Some request) others = absurd (others request refl)

-- where nothing is spelled, nothing is asked
pub nothing_asked : (frame : Frame) → IsBytes frame.body → (frame.number < 2 ^ 63 → (request : Request) → SpellsRequest frame.version frame.kind frame.body request → ⊥) → command frame ≡ None
unfolding command request_in
nothing_asked frame are unspelled = elim (cases_Bool (nat_lt frame.number (2 ^ 63))) [
  | inl small ↦ rw small (no_value (request_value frame.version frame.kind frame.body) (λ request is. unspelled (ltb-true frame.number (2 ^ 63) small) request (value_is_spelled frame.version frame.kind frame.body request are is)))
  | inr large ↦ rw large refl
]

-- a value that is only there where a test holds
where_it_holds : (b : Bool) (value : Option Request) (request : Request) → cond b value None ≡ Some request → (b ≡ true) × (value ≡ Some request)
where_it_holds true value request is = (refl, is)
where_it_holds false value request is = absurd cc

-- what is asked is spelled under a number below 2^63
pub asks : (frame : Frame) (request : Request) → IsBytes frame.body → command frame ≡ Some request → Asks frame request
unfolding command request_in
asks frame request are is =
    let read = where_it_holds (nat_lt frame.number (2 ^ 63)) (request_value frame.version frame.kind frame.body) request is in
    record { small = ltb-true frame.number (2 ^ 63) read.0; spelled = value_is_spelled frame.version frame.kind frame.body request are read.1 }

-- and in a version that frames have
pub asked_in_a_version : (frame : Frame) (request : Request) → command frame ≡ Some request → IsVersion frame.version
unfolding command request_in request_value
asked_in_a_version frame request is =
    let read = where_it_holds (nat_lt frame.number (2 ^ 63)) (request_value frame.version frame.kind frame.body) request is in
    (where_it_holds (is_version frame.version) (any_value frame.version frame.kind frame.body) request read.1).0

-- in another version nothing is
pub asked_in_no_version : (frame : Frame) → is_version frame.version ≡ false → command frame ≡ None
unfolding command request_in request_value
asked_in_no_version frame isnt = elim (cases_Bool (nat_lt frame.number (2 ^ 63))) [
  | inl small ↦ rw (small, isnt) refl
  | inr large ↦ rw large refl
]

pub asked_by : (frame : Frame) (request : Request) → Asks frame request → command frame ≡ Some request
asked_by frame request is = asked frame request is.small is.spelled

pub none_asked_by : (frame : Frame) → IsBytes frame.body → AsksNothing frame → command frame ≡ None
none_asked_by frame are none = nothing_asked frame are (λ small request spelled. none request (record { small = small; spelled = spelled }))

both : (o : Option Request) (request : Request) → o ≡ None → o ≡ Some request → ⊥
both None request none some = cc
both (Some other) request none some = cc

pub asks_none : (frame : Frame) → command frame ≡ None → AsksNothing frame
asks_none frame none = λ request is. both (command frame) request none (asked_by frame request is)

-- a frame asks nothing or something
pub asks_something : (o : Option Request) → IsSome o → (request : Request) × (o ≡ Some request)
asks_something None some = absurd cc
asks_something (Some request) some = (request, refl)
