-- Where no two cores are of one client, no two frames are of one client and number.
use Rattle.std.proofs.Common.{◌≡◌, ℕ, zero, suc, ◌+◌, ◌-◌, ◌^◌, ◌<◌, ◌≤◌, Bool, true, false, ltb, List, [], ◌∷◌, ◌++◌, length, map, set, Option, Some, None, refl, sym, ap, ◌∙◌, subst, arith, inl, inr}
use Rattle.std.specs.Bool.{if◌then◌else◌}
use Rattle.std.specs.List.{Contains, slice_get}
use Rattle.std.proofs.lemmas.Bool.Decides.{eqb_tells}
use Rattle.std.proofs.lemmas.List.{length-append, length-set}
use Rattle.std.proofs.lemmas.List.Elements.{Contains-push_cases}
use Rattle.droid_frame.specs.declared.frame.Frame.{Frame}
use Rattle.droid_frame.specs.declared.reply.Reply.{Reply}
use Rattle.droid_frame.specs.declared.request.Request.{Request}
use Rattle.droid_client.specs.declared.slot.Slot.{Slot}
use Rattle.droid_client.specs.Cores.{Core, core_hearing, core_submitting, new_core, new_slot, next_frame, next_number, slot_at, slot_hearing, slots_hearing}
use Rattle.droid_wire.specs.Desks.{Desk}
use Rattle.droid_wire.specs.Schedules.{AreApart, AreOnes, Event, Submits, Arrives, FailsForMemory, Replies, Drops, Moment, Sent, Failure, arrived, happens, replied, run, start, submitted, wanted}
use Rattle.droid_client.proofs.Elements.{set_cases, set_here, set_stays}

-- a core of the frame's client has passed its number
record IsPassed (cores : List Core) (frame : Frame) : Type 0 where
  which : ℕ
  core : Core
  is_there : slice_get cores which ≡ Some core
  client_is : core.client ≡ frame.client
  passed : frame.number < next_number core

-- the core at this place is of the client there
record IsOf (clients : List (ℕ × ℕ)) (which : ℕ) (core : Core) : Type 0 where
  client : ℕ × ℕ
  is_there : slice_get clients which ≡ Some client
  is_its : client.0 ≡ core.client

record Distinct (clients : List (ℕ × ℕ)) (moment : Moment) : Type 0 where
  ones : AreOnes moment.frames
  passed : (frame : Frame) → Contains moment.frames frame → IsPassed moment.cores frame
  placed : (which : ℕ) (core : Core) → slice_get moment.cores which ≡ Some core → IsOf clients which core

-- a core that has gone on
record GoesOn (old new : Core) : Type 0 where
  client : new.client ≡ old.client
  number : next_number old ≤ next_number new

got_same : (cores : List Core) (which at : ℕ) (one other : Core) → which ≡ at → slice_get cores which ≡ Some one → slice_get cores at ≡ Some other → one ≡ other
got_same cores which at one other same is too =
    let here : slice_get cores at ≡ Some one = subst (λ (n : ℕ). slice_get cores n ≡ Some one) same is in
    cc

passed_set : (cores : List Core) (at : ℕ) (old new : Core) (frame : Frame) → slice_get cores at ≡ Some old → GoesOn old new → IsPassed cores frame → IsPassed (set cores at new) frame
passed_set cores at old new frame there goes is =
    elim (set_stays cores at new is.which is.core is.is_there) [
      | inl t ↦
          let same : is.core ≡ old = got_same cores is.which at is.core old t is.is_there there in
          let passed : frame.number < next_number old = subst (λ (core : Core). frame.number < next_number core) same is.passed in
          let goes_to = goes.number in
          record {
            which = at;
            core = new;
            is_there = set_here cores at new old there;
            client_is = goes.client ∙ (ap (λ (core : Core). core.client) (sym same) ∙ is.client_is);
            passed = omega (arith, passed, goes_to);
          }
      | inr t ↦ record { which = is.which; core = is.core; is_there = t; client_is = is.client_is; passed = is.passed }
    ]

placed_set : (clients : List (ℕ × ℕ)) (cores : List Core) (at : ℕ) (old new : Core) → slice_get cores at ≡ Some old → new.client ≡ old.client → ((which : ℕ) (core : Core) → slice_get cores which ≡ Some core → IsOf clients which core)
    → (which : ℕ) (core : Core) → slice_get (set cores at new) which ≡ Some core → IsOf clients which core
placed_set clients cores at old new there same placed which core is =
    elim (set_cases cores at new which core is) [
      | inl t ↦
          let before = placed at old there in
          record {
            client = before.client;
            is_there = subst (λ (n : ℕ). slice_get clients n ≡ Some before.client) (sym t.0) before.is_there;
            is_its = before.is_its ∙ (sym same ∙ ap (λ (core : Core). core.client) t.1);
          }
      | inr t ↦ placed which core t
    ]

-- ---- a core submits

submitting_goes : (core : Core) (version : ℕ) (request : Request) → next_number (core_submitting core version request) ≡ next_number core + 1
submitting_goes core version request =
    let long = length-append core.slots (new_slot (next_frame core version request) ∷ []) in
    omega (arith, long)

-- an earlier frame of the same client has another number
earlier : (clients : List (ℕ × ℕ)) (moment : Moment) (at : ℕ) (core : Core) (frame : Frame) → AreApart clients → Distinct clients moment → slice_get moment.cores at ≡ Some core → Contains moment.frames frame → frame.client ≡ core.client
    → frame.number < next_number core
earlier clients moment at core frame apart is there known same =
    let passed = is.passed frame known in
    let mine = is.placed at core there in
    let its = is.placed passed.which passed.core passed.is_there in
    let one : passed.which ≡ at = apart passed.which at its.client mine.client its.is_there mine.is_there (its.is_its ∙ (passed.client_is ∙ (same ∙ sym mine.is_its))) in
    subst (λ (core : Core). frame.number < next_number core) (got_same moment.cores passed.which at passed.core core one passed.is_there there) passed.passed

submits : (clients : List (ℕ × ℕ)) (moment : Moment) (at : ℕ) (core : Core) (version : ℕ) (request : Request) → AreApart clients → Distinct clients moment → slice_get moment.cores at ≡ Some core
    → Distinct clients (record { history = moment.history; cores = set moment.cores at (core_submitting core version request); frames = moment.frames ++ next_frame core version request ∷ []; replies = moment.replies })
submits clients moment at core version request apart is there =
    let new = core_submitting core version request in
    let frame = next_frame core version request in
    let more = submitting_goes core version request in
    let goes : GoesOn core new = record { client = refl; number = omega (arith, more) } in
    record {
      ones = λ one other in_one in_other client_is number_is.
          elim (Contains-push_cases moment.frames frame one in_one) [
            | inl t ↦ elim (Contains-push_cases moment.frames frame other in_other) [
              | inl u ↦ is.ones one other t u client_is number_is
              | inr u ↦
                  let before = earlier clients moment at core one apart is there t (client_is ∙ ap (λ (f : Frame). f.client) (sym u)) in
                  let its : frame.number ≡ other.number = ap (λ (f : Frame). f.number) u in
                  absurd (omega (arith, before, its, number_is))
            ]
            | inr t ↦ elim (Contains-push_cases moment.frames frame other in_other) [
              | inl u ↦
                  let before = earlier clients moment at core other apart is there u (sym client_is ∙ ap (λ (f : Frame). f.client) (sym t)) in
                  let its : frame.number ≡ one.number = ap (λ (f : Frame). f.number) t in
                  absurd (omega (arith, before, its, number_is))
              | inr u ↦ sym t ∙ u
            ]
          ];
      passed = λ one known. elim (Contains-push_cases moment.frames frame one known) [
        | inl t ↦ passed_set moment.cores at core new one there goes (is.passed one t)
        | inr t ↦ subst (IsPassed (set moment.cores at new)) t (record { which = at; core = new; is_there = set_here moment.cores at new core there; client_is = refl; passed = omega (arith, more) })
      ];
      placed = placed_set clients moment.cores at core new there refl is.placed;
    }

-- ---- a core hears a reply

hearing_slots : (core : Core) (version number : ℕ) (reply : Reply) (o : Option Slot) → length (slots_hearing core version number reply o) ≡ length core.slots
hearing_slots core version number reply None = refl
hearing_slots core version number reply (Some slot) = length-set core.slots (number - core.first) (slot_hearing slot version reply)

hearing_goes : (core : Core) (version client number : ℕ) (reply : Reply) → GoesOn core (core_hearing core version client number reply)
hearing_goes core version client number reply =
    elim (eqb_tells client core.client) [
      | inl t ↦
          let long = hearing_slots core version number reply (slot_at core number) in
          rw t.0 (record { client = refl; number = omega (arith, long) })
      | inr t ↦ rw t.0 (record { client = refl; number = omega arith })
    ]

hears : (clients : List (ℕ × ℕ)) (moment : Moment) (at : ℕ) (old new : Core) → Distinct clients moment → slice_get moment.cores at ≡ Some old → GoesOn old new
    → Distinct clients (record { history = moment.history; cores = set moment.cores at new; frames = moment.frames; replies = moment.replies })
hears clients moment at old new is there goes = record {
  ones = is.ones;
  passed = λ frame known. passed_set moment.cores at old new frame there goes (is.passed frame known);
  placed = placed_set clients moment.cores at old new there goes.client is.placed;
}

-- ---- each event

-- where frames and cores stay
same_distinct : (clients : List (ℕ × ℕ)) (old new : Moment) → new.frames ≡ old.frames → new.cores ≡ old.cores → Distinct clients old → Distinct clients new
same_distinct clients old new frames cores is = record {
  ones = subst AreOnes (sym frames) is.ones;
  passed = λ frame known. subst (λ (cs : List Core). IsPassed cs frame) (sym cores) (is.passed frame (subst (λ (fs : List Frame). Contains fs frame) frames known));
  placed = λ which core there. is.placed which core (subst (λ (cs : List Core). slice_get cs which ≡ Some core) cores there);
}

if_distinct : (b : Bool) (clients : List (ℕ × ℕ)) (old new : Moment) → Distinct clients old → Distinct clients new → Distinct clients (if b then new else old)
if_distinct true clients old new is goes = goes
if_distinct false clients old new is goes = is

by_submitted : (clients : List (ℕ × ℕ)) (moment : Moment) (at : ℕ) (version : ℕ) (request : Request) (o : Option Core) → slice_get moment.cores at ≡ o → AreApart clients → Distinct clients moment → Distinct clients (submitted moment at version request o)
by_submitted clients moment at version request None there apart is = is
by_submitted clients moment at version request (Some core) there apart is = if_distinct (ltb (next_number core) (2 ^ 63)) clients moment _ is (submits clients moment at core version request apart is there)

by_arrived : (clients : List (ℕ × ℕ)) (desk : Desk) (moment : Moment) (o : Option Frame) → Distinct clients moment → Distinct clients (arrived desk moment o)
by_arrived clients desk moment None is = is
by_arrived clients desk moment (Some frame) is = same_distinct clients moment _ refl refl is

by_wanted : (clients : List (ℕ × ℕ)) (desk : Desk) (moment : Moment) (failure : Failure) (o : Option Frame) → Distinct clients moment → Distinct clients (wanted desk moment failure o)
by_wanted clients desk moment failure None is = is
by_wanted clients desk moment failure (Some frame) is = if_distinct (desk.is_spelled frame) clients moment _ is (same_distinct clients moment _ refl refl is)

by_replied : (clients : List (ℕ × ℕ)) (moment : Moment) (at : ℕ) (o : Option Core) (s : Option Sent) → slice_get moment.cores at ≡ o → Distinct clients moment → Distinct clients (replied moment at o s)
by_replied clients moment at None s there is = is
by_replied clients moment at (Some core) None there is = is
by_replied clients moment at (Some core) (Some sent) there is = hears clients moment at core (core_hearing core sent.version sent.client sent.number sent.reply) is there (hearing_goes core sent.version sent.client sent.number sent.reply)

step : (clients : List (ℕ × ℕ)) (desk : Desk) (moment : Moment) (event : Event) → AreApart clients → Distinct clients moment → Distinct clients (happens desk moment event)
step clients desk moment (Submits at version request) apart is = by_submitted clients moment at version request (slice_get moment.cores at) refl apart is
step clients desk moment (Arrives at) apart is = by_arrived clients desk moment (slice_get moment.frames at) is
step clients desk moment (FailsForMemory at failure) apart is = by_wanted clients desk moment failure (slice_get moment.frames at) is
step clients desk moment (Replies at sent) apart is = by_replied clients moment at (slice_get moment.cores at) (slice_get moment.replies sent) refl is
step clients desk moment (Drops at sent) apart is = is

steps : (clients : List (ℕ × ℕ)) (desk : Desk) (events : List Event) (moment : Moment) → AreApart clients → Distinct clients moment → Distinct clients (run desk events moment)
steps clients desk [] moment apart is = is
steps clients desk (event ∷ events) moment apart is = steps clients desk events (happens desk moment event) apart (step clients desk moment event apart is)

new_placed : (clients : List (ℕ × ℕ)) (which : ℕ) (core : Core) → slice_get (map (λ client. new_core client.0 client.1) clients) which ≡ Some core → IsOf clients which core
new_placed [] which core is = absurd cc
new_placed (client ∷ clients) zero core is =
    let same : new_core client.0 client.1 ≡ core = cc in
    record { client = client; is_there = refl; is_its = ap (λ (core : Core). core.client) same }
new_placed (client ∷ clients) (suc which) core is =
    let rest = new_placed clients which core is in
    record { client = rest.client; is_there = rest.is_there; is_its = rest.is_its }

starts : (clients : List (ℕ × ℕ)) → Distinct clients (start clients)
starts clients = record {
  ones = λ one other in_one in_other client_is number_is. absurd (omega (arith, in_one.1));
  passed = λ frame known. absurd (omega (arith, known.1));
  placed = new_placed clients;
}

pub alone : (desk : Desk) (clients : List (ℕ × ℕ)) (events : List Event) → AreApart clients → AreOnes (run desk events (start clients)).frames
alone desk clients events apart = (steps clients desk events (start clients) apart (starts clients)).ones
