-- A fault that is passed on.
use Rattle.std.proofs.Common.{◌≡◌, List, ℕ, Option, Result, Ok, Err, IfErr, IsErrOf, refl, sym, subst}
use Rattle.std.specs.Prelude.{IsErrAnd}
use Rattle.droid_frame.specs.Seen.{Counts, GivesUp, ReportsFault}
use Rattle.droid_frame.specs.declared.io.stream_record.Seen.{Seen}
use Rattle.droid_frame.proofs.Scopes.{lasts}
use Rattle.droid_client.specs.Cores.{Core}
use Rattle.droid_lines.specs.Reading.{CountsUnless}
use Rattle.droid_lines.specs.Sending.{IsOfReading}
use Rattle.droid_lines.specs.declared.send_fault.SendFault.{SendFault}
use Rattle.droid_lines.specs.declared.send_fault.SendFault.TheVariants.{Lines}
use Rattle.droid_lines.specs.Stopping.{LineStops}

pub fault_is : {T : Type 0} (r : Result T SendFault) (fault of : SendFault) → IsErrAnd r (λ e. e ≡ fault) → IsErrOf r of → fault ≡ of
fault_is {T} (Ok x) fault of is that = absurd is
fault_is {T} (Err e) fault of is that = subst (λ (r : Result T SendFault). IfErr r (λ x. fault ≡ x)) that (sym is)

pub passed_on : {T U : Type 0} (r : Result T SendFault) (fault of : SendFault) → IsErrAnd r (λ e. e ≡ fault) → IsErrOf r of → IsErrOf {T = U} (Err fault) of
passed_on {T} {U} r fault of is that = rw (fault_is r fault of is that) refl

pub came_from : {T U : Type 0} (r : Result T SendFault) (fault of : SendFault) → IsErrAnd r (λ e. e ≡ fault) → IsErrOf {T = U} (Err fault) of → IsErrOf r of
came_from {T} {U} (Ok x) fault of is that = absurd is
came_from {T} {U} (Err e) fault of is that =
    let same : fault ≡ of = subst (λ (r : Result U SendFault). IfErr r (λ x. fault ≡ x)) that refl in
    rw (is, same) refl

-- no line ends with the fault that no line could be read
pub stops_not_reading : {T : Type 0} (r : Result T SendFault) (fault : SendFault) (core : Core) (line : List ℕ) (input left old_frames new_frames old_text new_text : Option (List ℕ)) (after : Core)
    → IsErrAnd r (λ e. e ≡ fault) → LineStops fault core line input left old_frames new_frames old_text new_text after → IsErrOf r Lines → ⊥
stops_not_reading {T} r fault core line input left old_frames new_frames old_text new_text after is stops that =
    let here : LineStops Lines core line input left old_frames new_frames old_text new_text after =
    subst (λ (f : SendFault). LineStops f core line input left old_frames new_frames old_text new_text after) (fault_is r fault Lines is that) stops in
    here.stops

-- a fault of another stream is not of reading lines
pub of_reading : {T : Type 0} (r : Result T SendFault) (fault of : SendFault) → IsErrAnd r (λ e. e ≡ fault) → IsOfReading fault → IsErrOf r of → IsOfReading of
of_reading {T} r fault of is reading that = subst IsOfReading (fault_is r fault of is that) reading

-- ---- the count over all lines

pub unless_not : (start : ℕ) (seen : Seen) (count : ℕ) (P : Type 0) → (P → ⊥) → Counts start seen count → CountsUnless start seen count P
unless_not start seen count P not counts = record { fault = λ p. absurd (not p); otherwise = λ _. counts }

pub unless_given_up : (start : ℕ) (seen : Seen) (count : ℕ) (P : Type 0) → P → GivesUp start seen → CountsUnless start seen count P
unless_given_up start seen count P is up = record { fault = λ _. up; otherwise = λ not. absurd (not is) }

-- the count ends with this answer
pub reported_unless : (start : ℕ) (seen : Seen) (count : ℕ) (P Q : Type 0) → CountsUnless start seen count Q → (P → Q) → (Q → P) → ReportsFault start seen P
reported_unless start seen count P Q unless to from = record {
  fault = λ p. unless.fault (to p);
  otherwise = λ not. lasts start seen count (unless.otherwise (λ q. not (from q)));
}
