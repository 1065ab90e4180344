-- What the end of a stream means, by the parts of what a reader holds.
use Rattle.std.proofs.Common.{◌≡◌, ◌≢◌, ℕ, ◌<◌, ◌≤◌, Bool, true, false, cond, ltb, List, [], length, take, Result, Ok, Err, refl, sym, ap, subst, ◌∙◌, arith, inl, inr}
use Rattle.std.specs.Prelude.{IfErr, IsErrAnd, vec_capacity}
use Rattle.std.proofs.lemmas.Bool.{cases_lt, ltb-false}
use Rattle.droid_frame.specs.Limits.{body_limit}
use Rattle.droid_frame.specs.Versions.{is_version}
use Rattle.droid_frame.proofs.BodyLimits.{limit_at_most}
use Rattle.std.proofs.lemmas.List.{append-nil, length-append, length-take}
use Rattle.droid_frame.specs.Streams.{length_in, version_in, why}
use Rattle.droid_frame.specs.declared.streams.arrival.Arrival.TheVariants as arrivals
use Rattle.droid_frame.specs.declared.streams.fault.FrameFault.{FrameFault}
use Rattle.droid_frame.specs.declared.streams.fault.FrameFault.TheVariants.{Truncated, BadVersion, TooLong, Memory, Read}
use Rattle.droid_frame.proofs.StreamFrames.{why_nothing}
use Rattle.droid_turns.specs.Feeding.{IsOfBytes}
use Rattle.droid_frame.specs.Headers.{header_bytes}
use Rattle.droid_frame.specs.StreamReads.{IsHeader, judged}
use Rattle.droid_turns.specs.Headers.{judged_at}
use Rattle.droid_turns.specs.Parts.{IsBetween, Lacks, came}
use Rattle.droid_turns.specs.declared.feeding.parts.Parts.{Parts}
use Rattle.droid_frame.specs.declared.streams.header.Header.{Header}
use Rattle.droid_turns.proofs.Fronts.{Judged, faulty_is, good_is, judged_is, other_version, too_long, why_cut, why_short}
use Rattle.droid_turns.proofs.Taking.{held_whole}

pub ended_between : (parts : Parts) → IsBetween parts → parts.filled ≡ 0 → why (came parts) ≡ Ok arrivals.End
ended_between parts is none =
    let no_body : parts.body.items ≡ [] = is.short (omega (arith, none)) in
    rw (none, no_body) why_nothing

pub ended_empty : (parts : Parts) → IsBetween parts → parts.filled ≡ 0 → came parts ≡ []
ended_empty parts is none =
    let no_body : parts.body.items ≡ [] = is.short (omega (arith, none)) in
    rw (none, no_body) refl

pub ended_short : (parts : Parts) → IsBetween parts → length parts.header ≡ 18 → parts.filled ≢ 0 → parts.filled ≢ 18 → why (came parts) ≡ Err Truncated
ended_short parts is size some short =
    let less : parts.filled < 18 = omega (arith, is.within, short) in
    let no_body : parts.body.items ≡ [] = is.short less in
    rw no_body (rw (append-nil (take parts.filled parts.header)) (why_short (take parts.filled parts.header) (omega (arith, length-take parts.filled parts.header, some, size)) (omega (arith, length-take parts.filled parts.header, less, size))))

pub ended_fault : (parts : Parts) (h : Header) (fault : FrameFault) → header_bytes h ≡ parts.header → IsHeader h → parts.filled ≡ 18 → judged h ≡ Err fault → why (came parts) ≡ Err fault
ended_fault parts h fault spelled is full e = ap why (held_whole parts h spelled full) ∙ (faulty_is h fault is e).reason parts.body.items

pub ended_cut : (parts : Parts) (n : ℕ) (h : Header) → header_bytes h ≡ parts.header → IsHeader h → parts.filled ≡ 18 → judged h ≡ Ok n → why (came parts) ≡ Err Truncated
ended_cut parts n h spelled is full e = ap why (held_whole parts h spelled full) ∙ why_cut h n parts.body.items (good_is h n is e)

-- what `?` passes on
pub passed_on : {T : Type 0} (r : Result T FrameFault) (bytes : List ℕ) (fault : FrameFault) → IsErrAnd r (λ e. e ≡ fault) → why bytes ≡ Err fault → IfErr r (λ e. why bytes ≡ Err e)
passed_on (Ok value) bytes fault is e = tt
passed_on (Err other) bytes fault is e = e ∙ ap (λ (f : FrameFault). Err f) (sym is)

-- no more than a header came, so nothing of a body did
pub no_body : (parts : Parts) → IsBetween parts → length parts.header ≡ 18 → length (came parts) ≤ 18 → vec_capacity parts.body ≡ 0
no_body parts is size few =
    elim (cases_lt parts.filled 18) [
      | inl less ↦ is.none (ap length (is.short less))
      | inr full ↦ is.none (omega (arith, is.within, size, length-append (take parts.filled parts.header) parts.body.items, length-take parts.filled parts.header, few))
    ]

lacks_by : (one long : Bool) (limit n size : ℕ) → limit ≤ 4194368 → ltb limit n ≡ long → Lacks (cond one (cond long (Err TooLong) (Ok n)) (Err BadVersion)) size → size ≤ 4194368
lacks_by false long limit n size fits e none = omega (arith, none)
lacks_by true true limit n size fits e none = omega (arith, none)
lacks_by true false limit n size fits e less = omega (arith, less, ltb-false limit n e, fits)

-- no more of a body came than a frame may have
lacks_few : (bytes : List ℕ) (size : ℕ) → Lacks (judged_at bytes) size → size ≤ 4194368
unfolding judged_at
lacks_few bytes size lacks = lacks_by (is_version (version_in bytes)) (ltb (body_limit (version_in bytes)) (length_in bytes)) (body_limit (version_in bytes)) (length_in bytes) size (limit_at_most (version_in bytes)) refl lacks

pub few_held : (parts : Parts) → IsBetween parts → length (came parts) ≤ 4194386
few_held parts is =
    elim (cases_lt parts.filled 18) [
      | inl less ↦ omega (arith, is.within, ap length (is.short less), length-append (take parts.filled parts.header) parts.body.items, length-take parts.filled parts.header)
      | inr full ↦ omega (arith, is.within, lacks_few parts.header (length parts.body.items) (is.lacks (omega (arith, full, is.within))), length-append (take parts.filled parts.header) parts.body.items, length-take parts.filled parts.header)
    ]

kind_by : (h : Header) (fault : FrameFault) → Judged h (Err fault) → IsOfBytes fault
kind_by h BadVersion (other_version o) = tt
kind_by h TooLong (too_long o l) = tt
kind_by h Truncated j = tt
kind_by h Memory j = elim j [ ]
kind_by h Read j = elim j [ ]

pub kind_is : {T : Type 0} (r : Result T FrameFault) (h : Header) (fault : FrameFault) → IsErrAnd r (λ e. e ≡ fault) → judged h ≡ Err fault → IfErr r IsOfBytes
kind_is (Ok value) h fault is e = tt
kind_is (Err other) h fault is e = subst IsOfBytes (sym is) (kind_by h fault (judged_is h (Err fault) e))
