-- Steps of one connection, one after the other.
use Rattle.std.proofs.Common.{◌≡◌, ℕ, ◌+◌, List, [], ◌∷◌, ◌++◌, length, Option, Some, None, refl, sym, ap, subst, ◌∙◌, append_assoc, arith}
use Rattle.std.proofs.lemmas.List.{append-nil, length-append}
use Rattle.droid_frame.specs.Frames.{frame_bytes}
use Rattle.droid_frame.specs.declared.frame.Frame.{Frame}
use Rattle.droid_frame.specs.declared.reply.Reply.{Reply}
use Rattle.droid_turns.specs.Departures.{IsServed}
use Rattle.droid_turns.specs.Events.{Read}
use Rattle.droid_turns.specs.Peers.{Advances, InTurn, IsHearing, IsQuiet, Kept, Lends, Lending, Stands, Taking, Turns}
use Rattle.droid_turns.specs.Steps.{Handles, Happens, IsTraffic, Step, bytes_read, came, handled, handled_in}
use Rattle.droid_turns.proofs.OwnSteps.{gathered, handled_here, none_more, one_more, read_here}
use Rattle.droid_turns.proofs.Moments.{all_both, always_both, always_one}
use Rattle.droid_turns.proofs.PeerSteps.{served}

-- ---- what is kept goes on

pub advances_none : (id now : ℕ) (kept : Kept) → Advances id now kept kept []
advances_none id now kept = record { own = tt; stands = λ before stands. (served id kept now before stands, subst (Stands id kept now) (sym (append-nil before)) stands) }

pub advances_one : (id now : ℕ) (old new : Kept) (step : Step) → IsTraffic id step → ((before : List Step) → Stands id old now before → Stands id new now (before ++ step ∷ [])) → Advances id now old new (step ∷ [])
advances_one id now old new step own goes = record {
  own = (own, tt);
  stands = λ before stands. (always_one (IsServed id) before step (served id old now before stands) (served id new now (before ++ step ∷ []) (goes before stands)), goes before stands);
}

pub advances_both : (id now : ℕ) (old middle new : Kept) (first later : List Step) → Advances id now old middle first → Advances id now middle new later → Advances id now old new (first ++ later)
advances_both id now old middle new first later one other = record {
  own = all_both (IsTraffic id) first later one.own other.own;
  stands = λ before stands.
      let so_far = one.stands before stands in
      let further = other.stands (before ++ first) so_far.1 in
      (always_both (IsServed id) before first later so_far.0 further.0, subst (Stands id new now) (append_assoc before first later) further.1);
}

pub lending_both : (id now : ℕ) (old middle new : Kept) (frame : Frame) (first later : List Step) → Advances id now old middle first → Lending id now middle new frame later → Lending id now old new frame (first ++ later)
lending_both id now old middle new frame first later one other = record {
  own = all_both (IsTraffic id) first later one.own other.own;
  stands = λ before stands.
      let so_far = one.stands before stands in
      let further = other.stands (before ++ first) so_far.1 in
      (always_both (IsServed id) before first later so_far.0 further.0, subst (λ (l : List Step). Lends id new now l frame) (append_assoc before first later) further.1);
}

pub taking_both : (id now : ℕ) (old middle new : Kept) (taken : Option Frame) (first later : List Step) → Advances id now old middle first → Taking id now middle new taken later → Taking id now old new taken (first ++ later)
taking_both id now old middle new None first later one other = advances_both id now old middle new first later one other
taking_both id now old middle new (Some frame) first later one other = lending_both id now old middle new frame first later one other

-- a frame was taken and handled
pub advances_handled : (id now : ℕ) (old middle new : Kept) (frame : Frame) (reply : Reply) (first : List Step) → Lending id now old middle frame first
    → ((steps : List Step) → Lends id middle now steps frame → Stands id new now (steps ++ Handles id frame reply ∷ [])) → Advances id now old new (first ++ Handles id frame reply ∷ [])
advances_handled id now old middle new frame reply first one goes =
    let step : Step = Handles id frame reply in
    record {
      own = all_both (IsTraffic id) first (step ∷ []) one.own (refl, tt);
      stands = λ before stands.
          let so_far = one.stands before stands in
          let further : Stands id new now ((before ++ first) ++ step ∷ []) = goes (before ++ first) so_far.1 in
          let lent : IsServed id (before ++ first) = record { held = frame_bytes frame ++ middle.held; queued = middle.queued; serves = so_far.1.serves } in (
            always_both (IsServed id) before first (step ∷ []) so_far.0 (always_one (IsServed id) (before ++ first) step lent (served id new now ((before ++ first) ++ step ∷ []) further)),
            subst (Stands id new now) (append_assoc before first (step ∷ [])) further,
          );
    }

-- ---- what happened in a turn goes on

turn_as : (id read count also : ℕ) (turn other : List Step) → count ≡ also → turn ≡ other → InTurn id read count turn → InTurn id read also other
turn_as id read count also turn other is same in_turn = subst (λ (n : ℕ). InTurn id read n other) is (subst (InTurn id read count) same in_turn)

pub turns_both : (id read middle left one other : ℕ) (first later : List Step) → Turns id read middle one first → Turns id middle left other later → Turns id read left (one + other) (first ++ later)
turns_both id read middle left one other first later goes further = record {
  goes = λ count turn in_turn.
      let sum : (count + one) + other ≡ count + (one + other) = omega arith in
      turn_as id left ((count + one) + other) (count + (one + other)) ((turn ++ first) ++ later) (turn ++ (first ++ later)) sum (append_assoc turn first later) (further.goes (count + one) (turn ++ first) (goes.goes count turn in_turn));
  handles = omega (arith, ap length (gathered (handled_in id) first later), length-append (handled id first) (handled id later), goes.handles, further.handles);
  hearing = all_both IsHearing first later goes.hearing further.hearing;
}

pub turns_none : (id read : ℕ) → Turns id read read 0 []
turns_none id read = record {
  goes = λ count turn in_turn. let same : count ≡ count + 0 = omega arith in turn_as id read count (count + 0) turn (turn ++ []) same (sym (append-nil turn)) in_turn;
  handles = refl;
  hearing = tt;
}

-- neither was anything read nor a frame handled
pub turns_still : (id read : ℕ) (step : Step) → bytes_read id step ≡ [] → handled_in id step ≡ [] → IsHearing step → Turns id read read 0 (step ∷ [])
turns_still id read step no_bytes no_frame hears = record {
  goes = λ count turn in_turn. record {
    frames = ap length (none_more (handled_in id) turn step no_frame) ∙ (in_turn.frames ∙ (let same : count ≡ count + 0 = omega arith in same));
    bytes = ap length (none_more (bytes_read id) turn step no_bytes) ∙ in_turn.bytes;
  };
  handles = ap (λ (l : List (Frame × Reply)). length (l ++ [])) no_frame;
  hearing = (hears, tt);
}

pub turns_read : (id read : ℕ) (bytes : List ℕ) → Turns id read (read + length bytes) 0 (Happens (Read id bytes) ∷ [])
turns_read id read bytes =
    let step : Step = Happens (Read id bytes) in
    record {
      goes = λ count turn in_turn.
          let all : came id (turn ++ step ∷ []) ≡ came id turn ++ bytes = one_more (bytes_read id) turn step ∙ ap (λ (l : List ℕ). came id turn ++ l) (read_here id bytes) in
          record {
            frames = ap length (none_more (handled_in id) turn step refl) ∙ (in_turn.frames ∙ (let same : count ≡ count + 0 = omega arith in same));
            bytes = omega (arith, length-append (came id turn) bytes, ap length all, in_turn.bytes);
          };
      handles = refl;
      hearing = (tt, tt);
    }

pub turns_handled : (id read : ℕ) (frame : Frame) (reply : Reply) → Turns id read read 1 (Handles id frame reply ∷ [])
turns_handled id read frame reply =
    let step : Step = Handles id frame reply in
    record {
      goes = λ count turn in_turn.
          let all : handled id (turn ++ step ∷ []) ≡ handled id turn ++ (frame, reply) ∷ [] = one_more (handled_in id) turn step ∙ ap (λ (l : List (Frame × Reply)). handled id turn ++ l) (handled_here id frame reply) in
          record {
            frames = omega (arith, ap length all, length-append (handled id turn) ((frame, reply) ∷ []), in_turn.frames);
            bytes = ap length (none_more (bytes_read id) turn step refl) ∙ in_turn.bytes;
          };
      handles = ap (λ (l : List (Frame × Reply)). length (l ++ [])) (handled_here id frame reply);
      hearing = (tt, tt);
    }

-- ---- nothing of either

pub quiet_none : (id : ℕ) → IsQuiet id []
quiet_none id = record { nothing_came = refl; nothing_handled = refl }

pub quiet_one : (id : ℕ) (step : Step) → bytes_read id step ≡ [] → handled_in id step ≡ [] → IsQuiet id (step ∷ [])
quiet_one id step no_bytes no_frame = record { nothing_came = ap (λ (l : List ℕ). l ++ []) no_bytes; nothing_handled = ap (λ (l : List (Frame × Reply)). l ++ []) no_frame }

pub quiet_both : (id : ℕ) (first later : List Step) → IsQuiet id first → IsQuiet id later → IsQuiet id (first ++ later)
quiet_both id first later one other = record {
  nothing_came = gathered (bytes_read id) first later ∙ (ap (λ (l : List ℕ). l ++ came id later) one.nothing_came ∙ other.nothing_came);
  nothing_handled = gathered (handled_in id) first later ∙ (ap (λ (l : List (Frame × Reply)). l ++ handled id later) one.nothing_handled ∙ other.nothing_handled);
}
