-- How large a share is: by which connections had bytes, and of which frames were handled.
use Rattle.std.proofs.Common.{◌≡◌, ℕ, zero, suc, ◌+◌, ◌-◌, ◌<◌, ◌≤◌, Bool, true, false, cond, List, [], ◌∷◌, ◌++◌, drop, length, Option, None, Some, refl, sym, ap, subst, ◌∙◌, arith, inl, inr, ◌⊎◌}
use Rattle.std.specs.Prelude.{is_none}
use Rattle.std.specs.List.{AllByRecursion}
use Rattle.std.proofs.lemmas.Bool.{and_parts, cases_Bool, cases_lt, false≢true, ltb-true}
use Rattle.std.proofs.lemmas.Bool.Decides.{eqb_tells}
use Rattle.std.proofs.lemmas.List.{length-append, length-drop, length-take, nil_from_length}
use Rattle.std.proofs.lemmas.List.Sums.{sum_by-append}
use Rattle.droid_frame.specs.declared.frame.Frame.{Frame}
use Rattle.droid_frame.specs.declared.reply.Reply.{Reply}
use Rattle.droid_turns.specs.Departures.{Serves}
use Rattle.droid_turns.specs.Halls.{Grants, Holds, Looked, NoPeer, NoneHandled, had_in, having, one_at, times_among, times_in}
use Rattle.droid_turns.specs.Peers.{IsLeft, IsWhole, Stands, has_bytes, kept_of, may_be_read, unread}
use Rattle.droid_turns.specs.Steps.{Step, bytes_read, came, handled, handled_in, opened, spelled_frames}
use Rattle.droid_turns.specs.Turns.{IsShare, any, busy_ones, bytes_left, share_of, sum_below}
use Rattle.droid_turns.specs.declared.departure.Departure.{Departure}
use Rattle.droid_turns.specs.declared.peer.Peer.{Peer}
use Rattle.droid_turns.specs.declared.rules.Rules.{Rules}
use Rattle.droid_turns.proofs.AllConnections.{cases_zero, one_here, one_other}
use Rattle.droid_turns.proofs.OwnSteps.{gathered, none_gathered}

-- ---- some or none

any_some : (n : ℕ) → 0 < n → any n ≡ 1
any_some zero some = absurd (omega (arith, some))
any_some (suc n) some = refl

any_small : (n : ℕ) → any n ≤ 1
any_small zero = omega arith
any_small (suc n) = omega arith

any_more : (one other : ℕ) → one ≤ other → any one ≤ any other
any_more zero other few = omega arith
any_more (suc one) zero few = absurd (omega (arith, few))
any_more (suc one) (suc other) few = omega arith

-- ---- sums

sum_less : (f g : ℕ → ℕ) (count : ℕ) → ((id : ℕ) → f id ≤ g id) → sum_below f count ≤ sum_below g count
sum_less f g zero few = omega arith
sum_less f g (suc count) few = omega (arith, sum_less f g count few, few count)

sum_both : (f g : ℕ → ℕ) (count : ℕ) → sum_below (λ id. f id + g id) count ≡ sum_below f count + sum_below g count
sum_both f g zero = omega arith
sum_both f g (suc count) = omega (arith, sum_both f g count)

sum_none : (count : ℕ) → sum_below (λ id. 0) count ≡ 0
sum_none zero = refl
sum_none (suc count) = omega (arith, sum_none count)

-- of numbers below its own
sum_before : (who count : ℕ) → count ≤ who → sum_below (one_at who) count ≡ 0
sum_before who zero few = refl
sum_before who (suc count) few =
    let other : one_at who count ≡ 0 = one_other who count (λ e. absurd (omega (arith, few, e))) in
    omega (arith, sum_before who count (omega (arith, few)), other)

sum_one : (who count : ℕ) → who < count → sum_below (one_at who) count ≡ 1
sum_one who zero less = absurd (omega (arith, less))
sum_one who (suc count) less = elim (eqb_tells who count) [
  | inl same ↦
      let here : one_at who count ≡ 1 = subst (λ (i : ℕ). one_at who i ≡ 1) same.1 (one_here who) in
      omega (arith, sum_before who count (omega (arith, same.1)), here)
  | inr other ↦ omega (arith, sum_one who count (omega (arith, less, other.1)), one_other who count other.1)
]

sum_if : (has : Bool) (who count : ℕ) → who < count → sum_below (λ id. cond has (one_at who id) 0) count ≡ cond has 1 0
sum_if true who count less = sum_one who count less
sum_if false who count less = sum_none count

having_both : (one other : List Peer) → having (one ++ other) ≡ having one + having other
having_both one other = omega (arith, sum_by-append (λ (p : Peer). cond (has_bytes p) 1 0) one other)

-- of those that have bytes
sum_had : (peers : List Peer) (count : ℕ) → AllByRecursion (λ (peer : Peer). peer.id < count) peers → sum_below (λ id. had_in id peers) count ≡ having peers
sum_had [] count all = sum_none count
sum_had (peer ∷ peers) count all =
    let these : having (peer ∷ peers) ≡ having (peer ∷ []) + having peers = having_both (peer ∷ []) peers in
    let single : having (peer ∷ []) ≡ 0 + cond (has_bytes peer) 1 0 = refl in
    omega (arith, sum_both (λ id. cond (has_bytes peer) (one_at peer.id id) 0) (λ id. had_in id peers) count, sum_if (has_bytes peer) peer.id count all.0, sum_had peers count all.1, these, single)

-- ---- which have bytes

had_once : (has : Bool) (n : ℕ) → cond has n 0 ≤ n
had_once true n = omega arith
had_once false n = omega arith

had_few : (id : ℕ) (peers : List Peer) → had_in id peers ≤ times_in id peers
had_few id [] = omega arith
had_few id (peer ∷ peers) = omega (arith, had_once (has_bytes peer) (one_at peer.id id), had_few id peers)

-- one that has some
record FoundHad (P : Peer → Type 0) (id : ℕ) : Type 0 where
  peer : Peer
  its : peer.id ≡ id
  has : has_bytes peer ≡ true
  holds : P peer

had_found : (P : Peer → Type 0) (id : ℕ) (peers : List Peer) → 0 < had_in id peers → AllByRecursion P peers → FoundHad P id
had_found P id [] some all = absurd (omega (arith, some))
had_found P id (peer ∷ peers) some all = elim (cases_Bool (has_bytes peer)) [
  | inl has ↦ elim (eqb_tells peer.id id) [
    | inl is ↦ record { peer = peer; its = is.1; has = has; holds = all.0 }
    | inr is ↦ had_found P id peers (omega (arith, some, one_other peer.id id is.1, ap (λ (b : Bool). cond b (one_at peer.id id) 0) has)) all.1
  ]
  | inr none ↦ had_found P id peers (omega (arith, some, ap (λ (b : Bool). cond b (one_at peer.id id) 0) none)) all.1
]

-- the connection that is at a place of the list
pub had_there : (rest later : List Peer) (peer : Peer) → has_bytes peer ≡ true → 0 < had_in peer.id (rest ++ peer ∷ later)
had_there [] later peer has = omega (arith, one_here peer.id, ap (λ (b : Bool). cond b (one_at peer.id peer.id) 0) has)
had_there (one ∷ rest) later peer has = omega (arith, had_there rest later peer has)

none_leaving : (leaving : Option Departure) → is_none leaving ≡ true → leaving ≡ None
none_leaving None is = refl
none_leaving (Some why) is = absurd (false≢true is)

left_so : (id : ℕ) (steps : List Step) (held : List ℕ) (queued : List ℕ) → Serves id steps held queued → bytes_left id steps ≡ length held
left_so id steps held queued serves = omega (arith, ap length serves.read, length-append (spelled_frames (handled id steps)) held)

-- what it has is not handled yet
bytes_there : (now : ℕ) (steps : List Step) (peer : Peer) → Looked now steps peer → IsWhole peer → has_bytes peer ≡ true → 0 < bytes_left peer.id steps
bytes_there now steps peer looked whole has =
    let both = and_parts (may_be_read peer) _ has in
    let stays : peer.leaving ≡ None = none_leaving peer.leaving (and_parts (is_none peer.leaving) _ both.0).0 in
    let less : peer.start < peer.end = ltb-true peer.start peer.end both.1 in
    let left : IsLeft peer.id steps (kept_of peer) looked.stands.held looked.stands.queued None = subst (IsLeft peer.id steps (kept_of peer) looked.stands.held looked.stands.queued) stays looked.stands.is_left in
    let size : length (unread peer) ≡ peer.end - peer.start = omega (arith, length-take (peer.end - peer.start) (drop peer.start peer.buffer.items), length-drop peer.start peer.buffer.items, whole.within, less) in
    omega (arith, left_so peer.id steps looked.stands.held looked.stands.queued looked.stands.serves, ap length left.0, length-append peer.feed.bytes (unread peer), size, less)

-- ---- what is known of a turn's frames

-- The share is by so many connections that had bytes. Frames were handled of none but them; and of each of them frames
-- were handled, or bytes are left.
pub record DealtBy (had : ℕ → ℕ) (share count : ℕ) (steps turn : List Step) : Type 0 where
  pub share_is : share ≡ share_of (sum_below had count)
  pub busy : (id : ℕ) → any (length (handled id turn)) ≤ had id
  pub left : (id : ℕ) → had id ≤ any (length (handled id turn) + bytes_left id steps)

all_below : (peers : List Peer) (count : ℕ) → ((id : ℕ) → 0 < times_in id peers → id < count) → AllByRecursion (λ (peer : Peer). peer.id < count) peers
all_below [] count below = tt
all_below (peer ∷ peers) count below = (below peer.id (omega (arith, one_here peer.id)), all_below peers count (λ id some. below id (omega (arith, some))))

all_pair : (P Q : Peer → Type 0) (peers : List Peer) → AllByRecursion P peers → AllByRecursion Q peers → AllByRecursion (λ peer. P peer × Q peer) peers
all_pair P Q [] one other = tt
all_pair P Q (peer ∷ peers) one other = ((one.0, other.0), all_pair P Q peers one.1 other.1)

-- whichever they are
abbrev pub Dealt : ℕ → ℕ → List Step → List Step → Type 0
Dealt share count steps turn = (had : ℕ → ℕ) × DealtBy had share count steps turn

-- none was handled yet
pub dealt_first : (rules : Rules) (now share count : ℕ) (waiting served : List Peer) (steps turn : List Step) → Holds rules (Looked now) NoPeer now share count waiting served steps → AllByRecursion IsWhole waiting → NoneHandled turn
    → DealtBy (λ id. had_in id waiting) (share_of (having waiting)) count steps turn
dealt_first rules now share count waiting served steps turn holds whole none = record {
  share_is = ap share_of (sym (sum_had waiting count (all_below waiting count (λ id some. holds.keeps.below id (omega (arith, some))))));
  busy = λ id. omega (arith, ap (λ (l : List (Frame × Reply)). any (length l)) (none id));
  left = λ id. elim (cases_zero (had_in id waiting)) [
    | inl nothing ↦ omega (arith, nothing)
    | inr some ↦
        let found = had_found (λ peer. Looked now steps peer × IsWhole peer) id waiting some (all_pair (Looked now steps) IsWhole waiting holds.all_waiting whole) in
        let there : 0 < bytes_left id steps = subst (λ (i : ℕ). 0 < bytes_left i steps) found.its (bytes_there now steps found.peer found.holds.0 found.holds.1 found.has) in
        omega (arith, any_some (length (handled id turn) + bytes_left id steps) (omega (arith, there)), had_few id waiting, holds.keeps.apart id)
  ];
}

none_more : (id : ℕ) (turn more : List Step) → length (handled id more) ≡ 0 → handled id (turn ++ more) ≡ handled id turn
none_more id turn more none = none_gathered (handled_in id) turn more (nil_from_length (handled id more) none)

left_more : (id : ℕ) (steps more : List Step) → length (handled id more) ≡ 0 → bytes_left id steps ≤ bytes_left id (steps ++ more)
left_more id steps more none =
    omega (arith, ap length (gathered (bytes_read id) steps more), length-append (came id steps) (came id more), ap (λ (l : List (Frame × Reply)). length (spelled_frames l)) (none_more id steps more none))

handled_more : (id : ℕ) (turn more : List Step) → length (handled id (turn ++ more)) ≡ length (handled id turn) + length (handled id more)
handled_more id turn more = ap length (gathered (handled_in id) turn more) ∙ length-append (handled id turn) (handled id more)

pub dealt_on : (had : ℕ → ℕ) (share count : ℕ) (steps turn more : List Step) → DealtBy had share count steps turn → Grants had more → DealtBy had share count (steps ++ more) (turn ++ more)
dealt_on had share count steps turn more dealt grants = record {
  share_is = dealt.share_is;
  busy = λ id. elim (cases_zero (length (handled id more))) [
    | inl none ↦ omega (arith, ap (λ (l : List (Frame × Reply)). any (length l)) (none_more id turn more none), dealt.busy id)
    | inr some ↦ omega (arith, any_small (length (handled id (turn ++ more))), grants id some)
  ];
  left = λ id. elim (cases_zero (length (handled id more))) [
    | inl none ↦
        let all : length (handled id turn) + bytes_left id steps ≤ length (handled id (turn ++ more)) + bytes_left id (steps ++ more) = omega (arith, handled_more id turn more, left_more id steps more none) in
        omega (arith, dealt.left id, any_more (length (handled id turn) + bytes_left id steps) (length (handled id (turn ++ more)) + bytes_left id (steps ++ more)) all)
    | inr some ↦
        let all : 0 < length (handled id (turn ++ more)) + bytes_left id (steps ++ more) = omega (arith, handled_more id turn more, some) in
        omega (arith, dealt.left id, any_small (length (handled id turn) + bytes_left id steps), any_some (length (handled id (turn ++ more)) + bytes_left id (steps ++ more)) all)
  ];
}

-- nothing more was handled
pub dealt_still : (share count : ℕ) (steps turn more : List Step) → Dealt share count steps turn → NoneHandled more → Dealt share count (steps ++ more) (turn ++ more)
dealt_still share count steps turn more dealt none = (dealt.0, dealt_on dealt.0 share count steps turn more dealt.1 (λ id some. absurd (omega (arith, some, ap length (none id)))))

-- so it is the share
pub share_dealt : (share count : ℕ) (steps turn : List Step) → count ≡ length (opened steps) → Dealt share count steps turn → IsShare share steps turn
share_dealt share count steps turn all dealt = record {
  having = sum_below dealt.0 count;
  share_is = dealt.1.share_is;
  all = subst (λ (n : ℕ). sum_below (λ id. any (length (handled id turn))) n ≤ sum_below dealt.0 count) all (sum_less (λ id. any (length (handled id turn))) dealt.0 count dealt.1.busy);
  only = subst (λ (n : ℕ). sum_below dealt.0 count ≤ sum_below (λ id. any (length (handled id turn) + bytes_left id steps)) n) all (sum_less dealt.0 (λ id. any (length (handled id turn) + bytes_left id steps)) count dealt.1.left);
}

-- the first share, before any turn
pub share_first : IsShare 64 [] []
share_first =
    let none : busy_ones [] [] ≡ 0 = refl in
    record { having = 0; share_is = refl; all = omega (arith, none); only = omega arith }
