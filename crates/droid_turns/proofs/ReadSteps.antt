-- A connection is read, and its frames are handled.
use Rattle.std.proofs.Common.{◌≡◌, ℕ, zero, suc, ◌+◌, ◌-◌, ◌<◌, ◌≤◌, Bool, cond, false, true, leb, ltb, List, [], ◌∷◌, ◌++◌, length, take, drop, MatchOption, ◌≢◌, ◌⊎◌, Option, Some, None, IfNone, IfSome, refl, sym, ap, subst, ◌∙◌, append_assoc, arith, inl, inr}
use Rattle.std.proofs.lemmas.List.{append-nil, drop-take, length-append, length-drop, length-take, take-append-drop}
use Rattle.std.proofs.lemmas.Bool.{and_from, false≢true, le-leb, lt-ltb}
use Rattle.std.proofs.lemmas.Bool.Decides.{eqb_tells}
use Rattle.std.specs.Prelude.{is_none}
use Rattle.std.specs.declared.alloc.Global.{Global}
use Rattle.std.specs.declared.vec.Vec.{Vec}
use Rattle.droid_frame.specs.Frames.{frame_bytes}
use Rattle.droid_frame.specs.Replies.{HasReplySpelling}
use Rattle.droid_frame.specs.Streams.{BeginsNoFrame}
use Rattle.droid_frame.specs.declared.streams.fault.FrameFault.{FrameFault}
use Rattle.droid_frame.specs.declared.streams.fault.FrameFault.TheVariants as faults
use Rattle.droid_frame.specs.declared.frame.Frame.{Frame}
use Rattle.droid_frame.specs.declared.reply.Reply.{Reply}
use Rattle.droid_turns.specs.Feeding.{Brings, Fails, Waits}
use Rattle.droid_turns.specs.Held.{Held}
use Rattle.droid_turns.specs.Departures.{frames_bound, held_bound}
use Rattle.droid_turns.specs.Events.{Ended, Event, Read, Unread}
use Rattle.droid_turns.specs.Peers.{Advances, EndsAs, Hears, HearsSo, HearsSome, IsCounted, IsNew, IsWhole, Kept, Lending, Lends, Looks, RanDry, Rests, Stands, Taking, Turns, has_bytes, keep, kept_of, leaving_behind, may_be_read, unread}
use Rattle.droid_turns.specs.Steps.{Goes, Handles, Happened, Happens, Moves, Step}
use Rattle.droid_turns.specs.declared.departure.Departure.{Departure}
use Rattle.droid_turns.specs.declared.departure.Departure.TheVariants as departures
use Rattle.droid_turns.specs.declared.peer.Peer.{Peer}
use Rattle.droid_turns.proofs.ConnectionSteps.{advances_both, advances_handled, advances_none, advances_one, taking_both, turns_both, turns_handled, turns_none, turns_still}
use Rattle.droid_turns.proofs.OwnSteps.{read_here}
use Rattle.droid_turns.proofs.Moments.{goes_both, goes_handling, goes_moving}
use Rattle.droid_turns.proofs.PeerSteps.{happened_last, lends, served, stands_dry, stands_ended, stands_enough, stands_handled, stands_lost, stands_read, stands_unread, stops}
use Rattle.droid_turns.proofs.ServesMore.{answer_bytes}

-- ---- lists

drop_sum : {A : Type 0} (n m k : ℕ) (xs : List A) → k ≡ n + m → drop m (drop n xs) ≡ drop k xs
drop_sum zero m k xs e = let same : m ≡ k = omega (arith, e) in ap (λ i. drop i xs) same
drop_sum (suc n) m zero xs e = absurd (omega (arith, e))
drop_sum (suc n) zero (suc k) [] e = refl
drop_sum (suc n) (suc m) (suc k) [] e = refl
drop_sum (suc n) m (suc k) (x ∷ xs) e = drop_sum n m k xs (omega (arith, e))

drop_whole : {A : Type 0} (n : ℕ) (xs : List A) → length xs ≤ n → drop n xs ≡ []
drop_whole zero [] le = refl
drop_whole zero (x ∷ xs) le = absurd (omega (arith, le))
drop_whole (suc n) [] le = refl
drop_whole (suc n) (x ∷ xs) le = drop_whole n xs (omega (arith, le))

-- what is unread behind the bytes that were fed
unread_more : (items : List ℕ) (start end taken : ℕ) → taken ≤ end - start → take (end - (start + taken)) (drop (start + taken) items) ≡ drop taken (take (end - start) (drop start items))
unread_more items start end taken within =
    let rest : ℕ = end - (start + taken) in
    let split : end - start ≡ taken + rest = omega (arith, within) in
    sym (ap (λ (n : ℕ). drop taken (take n (drop start items))) split ∙ (drop-take taken rest (drop start items) ∙ ap (λ (l : List ℕ). take rest l) (drop_sum start taken (start + taken) items refl)))

pub unread_size : (peer : Peer) → IsWhole peer → length (unread peer) ≡ peer.end - peer.start
unread_size peer whole = omega (arith, length-take (peer.end - peer.start) (drop peer.start peer.buffer.items), length-drop peer.start peer.buffer.items, whole.ordered, whole.within)

-- ---- what was read is fed

-- a peer of which bytes were fed
abbrev fed_on : Peer → Held → ℕ → Peer
fed_on old feed taken = record old { feed = feed; start = old.start + taken }

unread_fed : (old : Peer) (feed : Held) (taken : ℕ) → IsWhole old → taken ≤ length (unread old) → unread (fed_on old feed taken) ≡ drop taken (unread old)
unread_fed old feed taken whole within = unread_more old.buffer.items old.start old.end taken (omega (arith, within, unread_size old whole))

none_unread : (old : Peer) (feed : Held) (taken : ℕ) → IsWhole old → Waits old.feed.bytes (unread old) feed.bytes taken → unread (fed_on old feed taken) ≡ []
none_unread old feed taken whole is = unread_fed old feed taken whole (omega (arith, is.all)) ∙ drop_whole taken (unread old) (omega (arith, is.all))

pub whole_fed : (old : Peer) (feed : Held) (taken : ℕ) → IsWhole old → taken ≤ length (unread old) → length feed.bytes ≤ 4194386 → BeginsNoFrame feed.bytes → IsWhole (fed_on old feed taken)
whole_fed old feed taken whole within few none = record { ordered = omega (arith, within, unread_size old whole, whole.ordered); within = whole.within; sized = whole.sized; fed = few; no_frame = none; counts = whole.counts }

-- what is held stays so where no frame is whole
held_on : (old : Peer) (feed : Held) (taken : ℕ) → IsWhole old → Waits old.feed.bytes (unread old) feed.bytes taken → feed.bytes ++ unread (fed_on old feed taken) ≡ old.feed.bytes ++ unread old
held_on old feed taken whole is = ap (λ (l : List ℕ). feed.bytes ++ l) (none_unread old feed taken whole is) ∙ (append-nil feed.bytes ∙ is.held)

pub takes_on : (old : Peer) (feed : Held) (now taken : ℕ) (frame : Option Frame) → IsWhole old → old.leaving ≡ None → taken ≤ length (unread old)
    → MatchOption frame (Waits old.feed.bytes (unread old) feed.bytes taken) (Brings old.feed.bytes (unread old) feed.bytes taken)
    → Taking old.id now (kept_of old) (kept_of (fed_on old feed taken)) frame []
takes_on old feed now taken None whole stays within is =
    subst (λ (h : List ℕ). Advances old.id now (kept_of old) (keep h old.queue.bytes old.leaving old.active) []) (sym (held_on old feed taken whole is)) (advances_none old.id now (kept_of old))
takes_on old feed now taken (Some frame) whole stays within is =
    let new : Peer = fed_on old feed taken in
    let rest : List ℕ = feed.bytes ++ unread new in
    let left : unread new ≡ drop taken (unread old) = unread_fed old feed taken whole within in
    let held : old.feed.bytes ++ unread old ≡ frame_bytes frame ++ rest =
    ap (λ (l : List ℕ). old.feed.bytes ++ l) (sym (take-append-drop taken (unread old))) ∙ (sym (append_assoc old.feed.bytes (take taken (unread old)) (drop taken (unread old)))
    ∙ (ap (λ (l : List ℕ). l ++ drop taken (unread old)) is.spelled ∙ ap (λ (l : List ℕ). frame_bytes frame ++ l) (sym left ∙ ap (λ (l : List ℕ). l ++ unread new) (sym is.empty)))) in
    record {
      own = tt;
      stands = λ before stands.
          let staying : Stands old.id (keep (old.feed.bytes ++ unread old) old.queue.bytes None old.active) now before =
          subst (λ (l : Option Departure). Stands old.id (keep (old.feed.bytes ++ unread old) old.queue.bytes l old.active) now before) stays stands in
          let lent : Lends old.id (keep rest old.queue.bytes None old.active) now before frame =
          lends old.id (old.feed.bytes ++ unread old) rest old.queue.bytes old.active now before frame staying is.readable held in
          let again : Lends old.id (kept_of new) now before frame =
          subst (λ (l : Option Departure). Lends old.id (keep rest old.queue.bytes l old.active) now before frame) (sym stays) lent in
          (served old.id (kept_of old) now before stands, subst (λ (l : List Step). Lends old.id (kept_of new) now l frame) (sym (append-nil before)) again);
    }

pub none_left : (old : Peer) (feed : Held) (taken : ℕ) (frame : Option Frame) → IsWhole old
    → MatchOption frame (Waits old.feed.bytes (unread old) feed.bytes taken) (Brings old.feed.bytes (unread old) feed.bytes taken)
    → IfNone frame (unread (fed_on old feed taken) ≡ [])
none_left old feed taken (Some frame) whole brings = tt
none_left old feed taken None whole is = none_unread old feed taken whole is

-- all was fed, whether it leaves or not
pub all_fed : (frame : Option Frame) (P Q : Type 0) → IfNone frame P → IfNone frame (Q → P)
all_fed (Some frame) P Q is = tt
all_fed None P Q is = λ q. is

-- the next header has a fault, or there is no memory for its body
pub stops_on : (old : Peer) (feed : Held) (now : ℕ) (fault : FrameFault) → old.leaving ≡ None → Fails old.feed.bytes (unread old) feed.bytes fault
    → Advances old.id now (kept_of old) (kept_of (record old { feed = feed; leaving = Some (departures.Frame fault) })) []
stops_on old feed now fault stays fails = record {
  own = tt;
  stands = λ before stands.
      let staying : Stands old.id (keep (old.feed.bytes ++ unread old) old.queue.bytes None old.active) now before =
      subst (λ (l : Option Departure). Stands old.id (keep (old.feed.bytes ++ unread old) old.queue.bytes l old.active) now before) stays stands in
      let new : Kept = kept_of (record old { feed = feed; leaving = Some (departures.Frame fault) }) in (
        served old.id (kept_of old) now before stands,
        subst (Stands old.id new now) (sym (append-nil before)) (stops old.id old.feed.bytes (unread old) feed.bytes old.queue.bytes (feed.bytes ++ unread old) old.active now before fault staying fails),
      );
}

-- ---- a read

-- what is held of a connection of which nothing is unread
held_alone : (peer : Peer) → unread peer ≡ [] → peer.feed.bytes ++ unread peer ≡ peer.feed.bytes
held_alone peer none = ap (λ (l : List ℕ). peer.feed.bytes ++ l) none ∙ append-nil peer.feed.bytes

-- the buffer was lent: still nothing of it is unread
none_in : (old : Peer) (buffer : Vec ℕ Global) → IsWhole old → unread old ≡ [] → unread (record old { buffer = buffer }) ≡ []
none_in old buffer whole none =
    let size : old.end - old.start ≡ 0 = omega (arith, ap length none, unread_size old whole) in
    ap (λ (n : ℕ). take n (drop old.start buffer.items)) size

pub whole_lent : (old : Peer) (buffer : Vec ℕ Global) → IsWhole old → length buffer.items ≡ length old.buffer.items → IsWhole (record old { buffer = buffer })
whole_lent old buffer whole same = record { ordered = whole.ordered; within = omega (arith, whole.within, same); sized = omega (arith, whole.sized, same); fed = whole.fed; no_frame = whole.no_frame; counts = whole.counts }

-- what is kept of it is what was kept
kept_lent : (old : Peer) (buffer : Vec ℕ Global) → IsWhole old → unread old ≡ [] → kept_of old ≡ kept_of (record old { buffer = buffer })
kept_lent old buffer whole none =
    ap (λ (h : List ℕ). keep h old.queue.bytes old.leaving old.active) (held_alone old none ∙ sym (held_alone (record old { buffer = buffer }) (none_in old buffer whole none)))

staying_alone : (old : Peer) (now : ℕ) (before : List Step) → old.leaving ≡ None → unread old ≡ [] → Stands old.id (kept_of old) now before → Stands old.id (keep old.feed.bytes old.queue.bytes None old.active) now before
staying_alone old now before stays none stands =
    subst (λ (h : List ℕ). Stands old.id (keep h old.queue.bytes None old.active) now before) (held_alone old none)
    (subst (λ (l : Option Departure). Stands old.id (keep (old.feed.bytes ++ unread old) old.queue.bytes l old.active) now before) stays stands)

-- where it leaves, what was held is no matter
left_as : (old new : Peer) (why : Departure) → new.queue.bytes ≡ old.queue.bytes → new.leaving ≡ Some why → new.active ≡ old.active → keep (new.feed.bytes ++ unread new) old.queue.bytes (Some why) old.active ≡ kept_of new
left_as old new why queue_is leaving_is active_is =
    ap (λ (q : List ℕ). keep (new.feed.bytes ++ unread new) q (Some why) old.active) (sym queue_is)
    ∙ (ap (λ (l : Option Departure). keep (new.feed.bytes ++ unread new) new.queue.bytes l old.active) (sym leaving_is)
    ∙ ap (λ (a : ℕ). keep (new.feed.bytes ++ unread new) new.queue.bytes new.leaving a) (sym active_is))

-- bytes came
pub reads_some : (old : Peer) (buffer : Vec ℕ Global) (now count : ℕ) → IsWhole old → old.leaving ≡ None → unread old ≡ [] → 0 < count → count ≤ length buffer.items → length buffer.items ≡ length old.buffer.items
    → (new : Peer) → new.feed.bytes ≡ old.feed.bytes → unread new ≡ take count buffer.items → new.queue.bytes ≡ old.queue.bytes → new.leaving ≡ None → new.active ≡ now
    → Advances old.id now (kept_of old) (kept_of new) (Happens (Read old.id (take count buffer.items)) ∷ [])
reads_some old buffer now count whole stays none some within same new feed_is unread_is queue_is leaving_is active_is =
    let bytes : List ℕ = take count buffer.items in
    let size : length bytes ≡ count = omega (arith, length-take count buffer.items, within) in
    let few : length (old.feed.bytes ++ bytes) ≤ held_bound = omega (arith, length-append old.feed.bytes bytes, whole.fed, size, whole.sized, within, same) in
    let is : keep (old.feed.bytes ++ bytes) old.queue.bytes None now ≡ kept_of new =
    ap (λ (h : List ℕ). keep h old.queue.bytes None now) (sym (ap (λ (l : List ℕ). l ++ unread new) feed_is ∙ ap (λ (l : List ℕ). old.feed.bytes ++ l) unread_is))
    ∙ (ap (λ (q : List ℕ). keep (new.feed.bytes ++ unread new) q None now) (sym queue_is)
    ∙ (ap (λ (l : Option Departure). keep (new.feed.bytes ++ unread new) new.queue.bytes l now) (sym leaving_is)
    ∙ ap (λ (a : ℕ). keep (new.feed.bytes ++ unread new) new.queue.bytes new.leaving a) (sym active_is))) in
    advances_one old.id now (kept_of old) (kept_of new) (Happens (Read old.id bytes)) refl (λ before stands.
    subst (λ (k : Kept). Stands old.id k now (before ++ Happens (Read old.id bytes) ∷ [])) is
    (stands_read old.id old.feed.bytes old.queue.bytes old.active now before bytes (staying_alone old now before stays none stands) (omega (arith, size, some)) few))

-- nothing came
pub reads_none : (old : Peer) (buffer : Vec ℕ Global) (now : ℕ) → IsWhole old → unread old ≡ [] → Advances old.id now (kept_of old) (kept_of (record old { buffer = buffer })) (Happens (Read old.id []) ∷ [])
reads_none old buffer now whole none =
    subst (λ (k : Kept). Advances old.id now (kept_of old) k (Happens (Read old.id []) ∷ [])) (kept_lent old buffer whole none)
    (advances_one old.id now (kept_of old) (kept_of old) (Happens (Read old.id [])) refl (λ before stands. stands_dry old.id (kept_of old) now before stands))

pub ran_dry : (old new : Peer) → new.id ≡ old.id → new.feed.bytes ≡ old.feed.bytes → unread new ≡ [] → BeginsNoFrame old.feed.bytes → RanDry new (Happens (Read old.id []) ∷ [])
ran_dry old new same feed_is none no_frame = record {
  nothing = subst (λ (i : ℕ). Happened (Read new.id []) (Happens (Read i []) ∷ [])) same (inl refl);
  no_frame = subst BeginsNoFrame (sym (held_alone new none ∙ feed_is)) no_frame;
}

-- its input ended
pub reads_end : (old new : Peer) (now : ℕ) (why : Departure) → old.leaving ≡ None → unread old ≡ [] → EndsAs old.feed.bytes why → new.queue.bytes ≡ old.queue.bytes → new.leaving ≡ Some why → new.active ≡ old.active
    → Advances old.id now (kept_of old) (kept_of new) (Happens (Ended old.id) ∷ [])
reads_end old new now why stays none ends queue_is leaving_is active_is =
    advances_one old.id now (kept_of old) (kept_of new) (Happens (Ended old.id)) refl (λ before stands.
    subst (λ (k : Kept). Stands old.id k now (before ++ Happens (Ended old.id) ∷ [])) (left_as old new why queue_is leaving_is active_is)
    (stands_ended old.id old.feed.bytes old.queue.bytes (new.feed.bytes ++ unread new) old.active now before why (staying_alone old now before stays none stands) ends))

-- it could not be read
pub reads_broken : (old new : Peer) (now : ℕ) → old.leaving ≡ None → unread old ≡ [] → new.queue.bytes ≡ old.queue.bytes → new.leaving ≡ Some (departures.Frame faults.Read) → new.active ≡ old.active
    → Advances old.id now (kept_of old) (kept_of new) (Happens (Unread old.id) ∷ [])
reads_broken old new now stays none queue_is leaving_is active_is =
    advances_one old.id now (kept_of old) (kept_of new) (Happens (Unread old.id)) refl (λ before stands.
    subst (λ (k : Kept). Stands old.id k now (before ++ Happens (Unread old.id) ∷ [])) (left_as old new (departures.Frame faults.Read) queue_is leaving_is active_is)
    (stands_unread old.id old.feed.bytes old.queue.bytes (new.feed.bytes ++ unread new) old.active now before (staying_alone old now before stays none stands)))

-- ---- how many

pub counted_fault : (frames : ℕ) (leaving : Option Departure) (fault : FrameFault) → leaving ≡ None → IsCounted frames leaving → IsCounted frames (Some (departures.Frame fault))
counted_fault frames leaving fault stays counts = let few : frames < frames_bound = subst (IsCounted frames) stays counts in omega (arith, few)

pub counted_end : (frames : ℕ) (leaving : Option Departure) (bytes : List ℕ) (why : Departure) → leaving ≡ None → IsCounted frames leaving → EndsAs bytes why → IsCounted frames (Some why)
counted_end frames leaving bytes departures.Closed stays counts ends = let few : frames < frames_bound = subst (IsCounted frames) stays counts in omega (arith, few)
counted_end frames leaving bytes (departures.Frame fault) stays counts ends = counted_fault frames leaving fault stays counts
counted_end frames leaving bytes departures.Enough stays counts ends = absurd ends
counted_end frames leaving bytes departures.Memory stays counts ends = absurd ends
counted_end frames leaving bytes departures.Write stays counts ends = absurd ends
counted_end frames leaving bytes departures.Idle stays counts ends = absurd ends
counted_end frames leaving bytes departures.Stopped stays counts ends = absurd ends
counted_end frames leaving bytes departures.Unsettled stays counts ends = absurd ends

-- whatever came
pub some_stays : (frame : Option Frame) (P : Type 0) → P → IfSome frame (λ (f : Frame). P)
some_stays None P p = tt
some_stays (Some f) P p = p

pub frames_few : (frames : ℕ) (leaving : Option Departure) → IsCounted frames leaving → frames ≤ frames_bound
frames_few frames None counts = omega (arith, counts)
frames_few frames (Some departures.Enough) counts = omega (arith, counts)
frames_few frames (Some departures.Closed) counts = counts
frames_few frames (Some (departures.Frame fault)) counts = counts
frames_few frames (Some departures.Memory) counts = counts
frames_few frames (Some departures.Write) counts = counts
frames_few frames (Some departures.Idle) counts = counts
frames_few frames (Some departures.Stopped) counts = counts
frames_few frames (Some departures.Unsettled) counts = counts

-- it has had enough, or may have more
behind_cases : (frames : ℕ) → ((frames ≡ frames_bound) × (leaving_behind frames ≡ Some departures.Enough)) ⊎ ((frames ≢ frames_bound) × (leaving_behind frames ≡ None))
behind_cases frames = elim (eqb_tells frames frames_bound) [
  | inl same ↦ inl (same.1, ap (λ (b : Bool). cond b (Some departures.Enough) None) same.0)
  | inr other ↦ inr (other.1, ap (λ (b : Bool). cond b (Some departures.Enough) None) other.0)
]

pub counted_behind : (frames : ℕ) → frames ≤ frames_bound → IsCounted frames (leaving_behind frames)
counted_behind frames few = elim (behind_cases frames) [
  | inl last ↦ subst (IsCounted frames) (sym last.1) last.0
  | inr more ↦ subst (IsCounted frames) (sym more.1) (let less : frames < frames_bound = omega (arith, few, more.0) in less)
]

-- ---- frames

kept_behind : (old new : Peer) (bytes : List ℕ) (leaving : Option Departure) → new.feed.bytes ++ unread new ≡ old.feed.bytes ++ unread old → new.queue.bytes ≡ old.queue.bytes ++ bytes → new.leaving ≡ leaving → new.active ≡ old.active
    → keep (old.feed.bytes ++ unread old) (old.queue.bytes ++ bytes) leaving old.active ≡ kept_of new
kept_behind old new bytes leaving held_is queue_is leaving_is active_is =
    ap (λ (h : List ℕ). keep h (old.queue.bytes ++ bytes) leaving old.active) (sym held_is)
    ∙ (ap (λ (q : List ℕ). keep (new.feed.bytes ++ unread new) q leaving old.active) (sym queue_is)
    ∙ (ap (λ (l : Option Departure). keep (new.feed.bytes ++ unread new) new.queue.bytes l old.active) (sym leaving_is)
    ∙ ap (λ (a : ℕ). keep (new.feed.bytes ++ unread new) new.queue.bytes new.leaving a) (sym active_is)))

-- a frame's reply waits
pub answers_one : (old new : Peer) (now : ℕ) (steps : List Step) (frame : Frame) (reply : Reply) → Lends old.id (kept_of old) now steps frame → HasReplySpelling frame.version reply → length old.queue.bytes ≤ 8388608 → length (answer_bytes frame reply) ≤ 1048658
    → new.feed.bytes ++ unread new ≡ old.feed.bytes ++ unread old → new.queue.bytes ≡ old.queue.bytes ++ answer_bytes frame reply → new.leaving ≡ leaving_behind new.frames → new.active ≡ old.active
    → Stands old.id (kept_of new) now (steps ++ Handles old.id frame reply ∷ [])
answers_one old new now steps frame reply lent spelled few small held_is queue_is leaving_is active_is =
    let staying : Lends old.id (keep (old.feed.bytes ++ unread old) old.queue.bytes None old.active) now steps frame =
    subst (λ (l : Option Departure). Lends old.id (keep (old.feed.bytes ++ unread old) old.queue.bytes l old.active) now steps frame) lent.stays lent in
    let stands = stands_handled old.id (old.feed.bytes ++ unread old) old.queue.bytes old.active now steps frame reply staying spelled few small in
    elim (behind_cases new.frames) [
      | inl last ↦ subst (λ (k : Kept). Stands old.id k now (steps ++ Handles old.id frame reply ∷ []))
          (kept_behind old new (answer_bytes frame reply) (Some departures.Enough) held_is queue_is (leaving_is ∙ last.1) active_is)
          (stands_enough old.id (old.feed.bytes ++ unread old) (old.queue.bytes ++ answer_bytes frame reply) old.active now (steps ++ Handles old.id frame reply ∷ []) stands)
      | inr more ↦ subst (λ (k : Kept). Stands old.id k now (steps ++ Handles old.id frame reply ∷ [])) (kept_behind old new (answer_bytes frame reply) None held_is queue_is (leaving_is ∙ more.1) active_is) stands
    ]

-- or there was no memory for it
pub answers_lost : (old new : Peer) (now : ℕ) (steps : List Step) (frame : Frame) (reply : Reply) → Lends old.id (kept_of old) now steps frame → HasReplySpelling frame.version reply → length old.queue.bytes ≤ 8388608 → length (answer_bytes frame reply) ≤ 1048658
    → new.queue.bytes ≡ old.queue.bytes → new.leaving ≡ Some departures.Memory → new.active ≡ old.active → Stands old.id (kept_of new) now (steps ++ Handles old.id frame reply ∷ [])
answers_lost old new now steps frame reply lent spelled few small queue_is leaving_is active_is =
    let staying : Lends old.id (keep (old.feed.bytes ++ unread old) old.queue.bytes None old.active) now steps frame =
    subst (λ (l : Option Departure). Lends old.id (keep (old.feed.bytes ++ unread old) old.queue.bytes l old.active) now steps frame) lent.stays lent in
    subst (λ (k : Kept). Stands old.id k now (steps ++ Handles old.id frame reply ∷ [])) (left_as old new departures.Memory queue_is leaving_is active_is)
    (stands_lost old.id (old.feed.bytes ++ unread old) old.queue.bytes (new.feed.bytes ++ unread new) old.active now steps frame reply staying spelled few small)

-- ---- one frame after the other

pub hears_none : (now : ℕ) (old : Peer) → HearsSo now old old 0 []
hears_none now old = record {
  goes = advances_none old.id now (kept_of old);
  turns = turns_none old.id old.read;
  counted = omega arith;
}

-- no further frame came
pub hears_end : (now : ℕ) (start old new : Peer) (count : ℕ) (first later : List Step) → old.id ≡ start.id → new.frames ≡ old.frames → HearsSo now start old count first → Advances old.id now (kept_of old) (kept_of new) later → Turns old.id old.read new.read 0 later
    → HearsSo now start new count (first ++ later)
hears_end now start old new count first later same frames so goes turns =
    let sum : count + 0 ≡ count = omega arith in
    record {
      goes = advances_both start.id now (kept_of start) (kept_of old) (kept_of new) first later so.goes (subst (λ (i : ℕ). Advances i now (kept_of old) (kept_of new) later) same goes);
      turns = subst (λ (n : ℕ). Turns start.id start.read new.read n (first ++ later)) sum
          (turns_both start.id start.read old.read new.read count 0 first later so.turns (subst (λ (i : ℕ). Turns i old.read new.read 0 later) same turns));
      counted = frames ∙ so.counted;
    }

-- a frame came, and was handled
pub hears_more : (now : ℕ) (start old middle new : Peer) (count : ℕ) (frame : Frame) (reply : Reply) (first later : List Step) → old.id ≡ start.id → middle.id ≡ old.id → new.frames ≡ old.frames + 1 → HearsSo now start old count first
    → Lending old.id now (kept_of old) (kept_of middle) frame later → Turns old.id old.read middle.read 0 later → new.read ≡ middle.read
    → ((steps : List Step) → Lends middle.id (kept_of middle) now steps frame → Stands middle.id (kept_of new) now (steps ++ Handles middle.id frame reply ∷ []))
    → HearsSo now start new (count + 1) (first ++ (later ++ Handles start.id frame reply ∷ []))
hears_more now start old middle new count frame reply first later same also frames so lending turns read_is handles =
    let id : ℕ = start.id in
    let step : Step = Handles id frame reply in
    let ours : middle.id ≡ id = also ∙ same in
    let lent : Lending id now (kept_of old) (kept_of middle) frame later = subst (λ (i : ℕ). Lending i now (kept_of old) (kept_of middle) frame later) same lending in
    let answers : (steps : List Step) → Lends id (kept_of middle) now steps frame → Stands id (kept_of new) now (steps ++ step ∷ []) =
    subst (λ (i : ℕ). (steps : List Step) → Lends i (kept_of middle) now steps frame → Stands i (kept_of new) now (steps ++ Handles i frame reply ∷ [])) ours handles in
    let goes : Advances id now (kept_of old) (kept_of new) (later ++ step ∷ []) = advances_handled id now (kept_of old) (kept_of middle) (kept_of new) frame reply later lent answers in
    let came : Turns id old.read middle.read 0 later = subst (λ (i : ℕ). Turns i old.read middle.read 0 later) same turns in
    let both : Turns id old.read middle.read (0 + 1) (later ++ step ∷ []) = turns_both id old.read middle.read middle.read 0 1 later (step ∷ []) came (turns_handled id middle.read frame reply) in
    let all : Turns id start.read middle.read (count + (0 + 1)) (first ++ (later ++ step ∷ [])) = turns_both id start.read old.read middle.read count (0 + 1) first (later ++ step ∷ []) so.turns both in
    let sum : count + (0 + 1) ≡ count + 1 = omega arith in
    record {
      goes = advances_both id now (kept_of start) (kept_of old) (kept_of new) first (later ++ step ∷ []) so.goes goes;
      turns = subst (λ (r : ℕ). Turns id start.read r (count + 1) (first ++ (later ++ step ∷ []))) (sym read_is)
          (subst (λ (n : ℕ). Turns id start.read middle.read n (first ++ (later ++ step ∷ []))) sum all);
      counted = omega (arith, frames, so.counted);
    }

-- ---- it is looked at, and it is heard

-- bytes of it wait to be handled, and may be
pub has_from : (peer : Peer) → peer.leaving ≡ None → length peer.queue.bytes ≤ 8388608 → peer.start < peer.end → has_bytes peer ≡ true
has_from peer stays few less =
    and_from (may_be_read peer) (ltb peer.start peer.end) (and_from (is_none peer.leaving) (leb (length peer.queue.bytes) 8388608) (ap is_none stays) (le-leb (length peer.queue.bytes) 8388608 few)) (lt-ltb peer.start peer.end less)

-- it was not read
pub looks_none : (now : ℕ) (old : Peer) → (has_bytes old ≡ false → (share count : ℕ) → Rests share (record old { drained = false; read = 0 }) count) → Looks now old (record old { drained = false; read = 0 }) []
looks_none now old rests = record {
  goes = advances_none old.id now (kept_of old);
  turns = turns_none old.id 0;
  few = omega arith;
  dry = λ is. absurd (false≢true is);
  rests = rests;
  counted = refl;
}

-- it had no bytes
pub hears_pass : (now share : ℕ) (old : Peer) → IsWhole old → has_bytes old ≡ false → Hears now share old old []
hears_pass now share old whole none = record {
  goes = advances_none old.id now (kept_of old);
  count = 0;
  few = omega arith;
  had = λ some. absurd (omega (arith, some));
  turns = turns_none old.id old.read;
  within = λ few. few;
  dry = λ turn so is. subst (RanDry old) (sym (append-nil turn)) (so is);
  rests = λ so. so 0 none;
  counted = omega arith;
  limited = frames_few old.frames old.leaving whole.counts;
}

-- or it had some
pub hears_some : (now share : ℕ) (old new : Peer) (steps : List Step) → has_bytes old ≡ true → HearsSome now share (record old { drained = false }) new steps → Hears now share old new steps
hears_some now share old new steps has some = record {
  goes = some.goes;
  count = some.count;
  few = some.few;
  had = λ more. has;
  turns = some.turns;
  within = some.within;
  dry = λ turn so is. let dry = some.dry is in record { nothing = happened_last (Read new.id []) turn steps dry.nothing; no_frame = dry.no_frame };
  rests = λ so. some.rests;
  counted = some.counted;
  limited = some.limited;
}

-- ---- what came, and then its reply

pub record CameOne (now : ℕ) (old middle : Peer) (frame : Frame) (steps : List Step) : Type 0 where
  pub lending : Lending old.id now (kept_of old) (kept_of middle) frame steps
  pub turns : Turns old.id old.read middle.read 0 steps

pub record AnswersOne (now : ℕ) (start old middle : Peer) (frame : Frame) (reply : Reply) (steps : List Step) : Type 0 where
  pub came : List Step
  pub parts : steps ≡ came ++ Handles start.id frame reply ∷ []
  pub lending : Lending old.id now (kept_of old) (kept_of middle) frame came
  pub turns : Turns old.id old.read middle.read 0 came

pub answers_after : {C H : Type 0} (does : C → Event → C → Type 0) (handles : H → Frame → Reply → H → Type 0) (settles : H → Bool → H → Type 0) (now : ℕ) (start old middle : Peer) (frame : Frame) (reply : Reply) (c c1 : C) (h h1 : H) → Moves does c c1 (CameOne now old middle frame)
    → handles h frame reply h1 → Goes does handles settles c h c1 h1 (AnswersOne now start old middle frame reply)
answers_after does handles settles now start old middle frame reply c c1 h h1 moves done =
    goes_both does handles settles c c1 c1 h h h1 (CameOne now old middle frame) (λ (steps : List Step). steps ≡ Handles start.id frame reply ∷ []) (AnswersOne now start old middle frame reply)
    (λ first later one is. record { came = first; parts = ap (λ (l : List Step). first ++ l) is; lending = one.lending; turns = one.turns })
    (goes_moving does handles settles c c1 h (CameOne now old middle frame) moves)
    (goes_handling does handles settles c1 h h1 start.id frame reply (λ (steps : List Step). steps ≡ Handles start.id frame reply ∷ []) done refl)

-- ---- until a frame is whole

-- so far, what was read and what is kept
pub record ReadsSo (now : ℕ) (old new : Peer) (steps : List Step) : Type 0 where
  pub goes : Advances old.id now (kept_of old) (kept_of new) steps
  pub turns : Turns old.id old.read new.read 0 steps

pub reads_so_none : (now : ℕ) (old : Peer) → ReadsSo now old old []
reads_so_none now old = record { goes = advances_none old.id now (kept_of old); turns = turns_none old.id old.read }

-- what was taken of what was read
pub takes_so : (now : ℕ) (start old new : Peer) (frame : Option Frame) (steps : List Step) → old.id ≡ start.id → new.read ≡ old.read → ReadsSo now start old steps → Taking old.id now (kept_of old) (kept_of new) frame []
    → Taking start.id now (kept_of start) (kept_of new) frame steps × Turns start.id start.read new.read 0 steps
takes_so now start old new frame steps same read_is so taking = (
  subst (Taking start.id now (kept_of start) (kept_of new) frame) (append-nil steps)
      (taking_both start.id now (kept_of start) (kept_of old) (kept_of new) frame steps [] so.goes (subst (λ (i : ℕ). Taking i now (kept_of old) (kept_of new) frame []) same taking)),
  subst (λ (r : ℕ). Turns start.id start.read r 0 steps) (sym read_is) so.turns,
)

-- and then more was read
pub reads_so_more : (now : ℕ) (start old new : Peer) (first later : List Step) → old.id ≡ start.id → ReadsSo now start old first → Advances old.id now (kept_of old) (kept_of new) later → Turns old.id old.read new.read 0 later → ReadsSo now start new (first ++ later)
reads_so_more now start old new first later same so goes turns =
    record {
      goes = advances_both start.id now (kept_of start) (kept_of old) (kept_of new) first later so.goes (subst (λ (i : ℕ). Advances i now (kept_of old) (kept_of new) later) same goes);
      turns = turns_both start.id start.read old.read new.read 0 0 first later so.turns (subst (λ (i : ℕ). Turns i old.read new.read 0 later) same turns);
    }

-- a read that gave nothing, in a turn
pub nothing_read : (old : Peer) (buffer : Vec ℕ Global) (now : ℕ) → IsWhole old → unread old ≡ []
    → Advances old.id now (kept_of old) (kept_of (record old { buffer = buffer; drained = true })) (Happens (Read old.id []) ∷ [])
    × Turns old.id old.read old.read 0 (Happens (Read old.id []) ∷ [])
    × (true ≡ true → RanDry (record old { buffer = buffer; drained = true }) (Happens (Read old.id []) ∷ []))
nothing_read old buffer now whole none = (
  reads_none old buffer now whole none,
  turns_still old.id old.read (Happens (Read old.id [])) (read_here old.id []) refl tt,
  λ is. ran_dry old (record old { buffer = buffer; drained = true }) refl refl (none_in old buffer whole none) whole.no_frame,
)

-- ---- a connection that was just accepted

begins_none : BeginsNoFrame []
begins_none frame rest readable is = absurd cc

pub new_peer : (peer : Peer) (now : ℕ) → peer.start ≡ 0 → peer.end ≡ 0 → length peer.buffer.items ≡ 65536 → peer.feed.bytes ≡ [] → peer.queue.bytes ≡ [] → peer.leaving ≡ None → peer.active ≡ now → peer.frames ≡ 0 → IsNew peer.id now peer
new_peer peer now start end sized fed queue stays active frames =
    let none : unread peer ≡ [] =
    let size : peer.end - peer.start ≡ 0 = omega (arith, start, end) in ap (λ (n : ℕ). take n (drop peer.start peer.buffer.items)) size in
    record {
      id_is = refl;
      whole = record { ordered = omega (arith, start, end); within = omega (arith, end); sized = sized; fed = omega (arith, ap length fed); no_frame = subst BeginsNoFrame (sym fed) begins_none; counts = subst (IsCounted peer.frames) (sym stays) (let few : peer.frames < frames_bound = omega (arith, frames) in few) };
      frames = frames;
      kept = ap (λ (h : List ℕ). keep h peer.queue.bytes peer.leaving peer.active) (held_alone peer none ∙ fed)
          ∙ (ap (λ (q : List ℕ). keep [] q peer.leaving peer.active) queue ∙ (ap (λ (l : Option Departure). keep [] [] l peer.active) stays ∙ ap (λ (a : ℕ). keep [] [] None a) active));
    }
