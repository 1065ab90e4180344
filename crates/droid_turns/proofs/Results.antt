-- What one call took, by its result.
use Rattle.std.proofs.Common.{◌≡◌, ◌≢◌, ℕ, ◌≤◌, List, [], ◌++◌, length, take, Option, Some, None, Result, Ok, Err, sym, ap, ◌∙◌, inl, inr}
use Rattle.std.specs.Prelude.{IfErr, IfOk, MatchOption}
use Rattle.std.proofs.lemmas.List.{append-nil}
use Rattle.droid_frame.specs.Frames.{frame_bytes}
use Rattle.droid_frame.specs.Streams.{why}
use Rattle.droid_frame.specs.declared.streams.arrival.Arrival.TheVariants as arrivals
use Rattle.droid_frame.specs.declared.streams.fault.FrameFault.{FrameFault}
use Rattle.droid_frame.specs.declared.streams.fault.FrameFault.TheVariants.{Truncated, BadVersion, TooLong, Memory, Read}
use Rattle.droid_frame.specs.declared.frame.Frame.{Frame}
use Rattle.droid_frame.proofs.StreamFrames.{why_nothing}
use Rattle.droid_turns.specs.Feeding.{Brings, Fails, Feeds, IsFaulty, Waits}
use Rattle.droid_turns.specs.declared.feeding.feed_result.Fed.{Fed}
use Rattle.droid_turns.proofs.Fronts.{why_good}

pub bound_of : (old piece new : List ℕ) (r : Result Fed FrameFault) → Feeds old piece new r → IfOk r (λ fed. fed.taken ≤ length piece)
bound_of old piece new (Ok fed) feeds = feeds.0
bound_of old piece new (Err fault) feeds = tt

pub frame_of : (old piece new : List ℕ) (r : Result Fed FrameFault) → Feeds old piece new r → IfOk r (λ fed. MatchOption fed.frame (Waits old piece new fed.taken) (Brings old piece new fed.taken))
frame_of old piece new (Ok fed) feeds = feeds.1
frame_of old piece new (Err fault) feeds = tt

pub fault_of : (old piece new : List ℕ) (r : Result Fed FrameFault) → Feeds old piece new r → IfErr r (Fails old piece new)
fault_of old piece new (Ok fed) feeds = tt
fault_of old piece new (Err fault) feeds = feeds

same_reason : (bytes : List ℕ) (one other : FrameFault) → why bytes ≡ Err one → why bytes ≡ Err other → one ≡ other
same_reason bytes one other a b = cc

refused_again : (old piece new rest : List ℕ) (one other : FrameFault) → old ++ piece ≡ new ++ rest → IsFaulty new one → IsFaulty old other → ◌≡◌ {A = Result Fed FrameFault} (Err one) (Err other)
refused_again old piece new rest one other parts now was =
    ap (λ (f : FrameFault). Err f) (same_reason (old ++ piece) one other (ap why parts ∙ now.reason rest) (was.reason piece))

-- where the bytes have a fault, no frame came and no more bytes are waited for
not_brought : (old piece new : List ℕ) (taken : ℕ) (frame : Frame) (fault : FrameFault) → IsFaulty old fault → Brings old piece new taken frame → ⊥
not_brought old piece new taken frame fault was brings =
    was.no_frame (take taken piece) frame [] brings.readable (brings.spelled ∙ sym (append-nil (frame_bytes frame)))

not_waited : (old piece new : List ℕ) (taken : ℕ) (fault : FrameFault) → fault ≢ Truncated → IsFaulty old fault → Waits old piece new taken → ⊥
not_waited old piece new taken fault other was waits =
    elim waits.goes_on.between [
      | inl none ↦ (let none_there : why (old ++ piece) ≡ Ok arrivals.End = ap why (sym waits.held ∙ none) ∙ why_nothing in
          let fault_there : why (old ++ piece) ≡ Err fault = was.reason piece in absurd cc)
      | inr cut ↦ other (sym (same_reason (old ++ piece) Truncated fault (ap why (sym waits.held) ∙ cut) (was.reason piece)))
    ]

not_taken : (old piece new : List ℕ) (taken : ℕ) (frame : Option Frame) (fault : FrameFault) → fault ≢ Truncated → IsFaulty old fault → MatchOption frame (Waits old piece new taken) (Brings old piece new taken) → ⊥
not_taken old piece new taken (Some frame) fault other was brings = not_brought old piece new taken frame fault was brings
not_taken old piece new taken None fault other was waits = not_waited old piece new taken fault other was waits

pub stays : (old piece new : List ℕ) (r : Result Fed FrameFault) (fault : FrameFault) → Feeds old piece new r → fault ≢ Truncated → IsFaulty old fault → r ≡ Err fault
stays old piece new (Ok fed) fault feeds other was = absurd (not_taken old piece new fed.taken fed.frame fault other was feeds.1)
stays old piece new (Err BadVersion) fault feeds other was = refused_again old piece new feeds.rest BadVersion fault feeds.parts feeds.faulty was
stays old piece new (Err TooLong) fault feeds other was = refused_again old piece new feeds.rest TooLong fault feeds.parts feeds.faulty was
stays old piece new (Err Memory) fault feeds other was =
    absurd (other (sym (same_reason (old ++ piece) Truncated fault (why_good (old ++ piece) feeds.1.good) (was.reason piece))))
stays old piece new (Err Truncated) fault feeds other was = absurd feeds
stays old piece new (Err Read) fault feeds other was = absurd feeds
