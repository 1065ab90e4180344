-- What the end of sending says of the program's ending.
use Rattle.std.proofs.Common.{◌≡◌, ℕ, Bool, true, false, cond, eqb, List, Option, Result, Ok, Err, IfOk, IfErr, refl, ap, arith}
use Rattle.std.specs.Prelude.{IsErrOf}
use Rattle.std.proofs.lemmas.Bool.{eqb-true, eqb-false}
use Rattle.droid_client.specs.Cores.{Core}
use Rattle.droid_cmd_serve.specs.declared.exit.Ending.TheVariants.{Done, BadLine, Send}
use Rattle.droid_cmd_serve.specs.Sends.{SendEndsAs, sending_end_of}
use Rattle.droid_lines.specs.declared.send_fault.SendFault.{SendFault}
use Rattle.droid_lines.specs.declared.tally.Tally.{Tally}
use Rattle.droid_frame.specs.Seen.{ReportsFault}
use Rattle.droid_lines.specs.Sending.{SendsAll, SendsFront}
use Rattle.droid_frame.specs.declared.io.stream_record.Seen.{Seen}

done_or_bad : (b : Bool) (core after : Core) (tally : Tally) (script input left old_frames new_frames old_text new_text : Option (List ℕ)) → eqb tally.bad 0 ≡ b
    → SendsAll core script input left old_frames new_frames old_text new_text after tally
    → SendEndsAs core (cond b Done BadLine) script input left old_frames new_frames old_text new_text
done_or_bad true core after tally script input left old_frames new_frames old_text new_text e all =
    record { after = after; tally = tally; all = all; bad = eqb-true tally.bad 0 e }
done_or_bad false core after tally script input left old_frames new_frames old_text new_text e all =
    let some : tally.bad ≡ 0 → ⊥ = eqb-false tally.bad 0 e in
    record { after = after; tally = tally; all = all; bad = omega (arith, some) }

pub send_ends : (core after : Core) (r : Result Tally SendFault) (script input left old_frames new_frames old_text new_text : Option (List ℕ))
    → IfOk r (λ tally. SendsAll core script input left old_frames new_frames old_text new_text after tally)
    → IfErr r (λ fault. SendsFront fault core script input left old_frames new_frames old_text new_text after)
    → SendEndsAs core (sending_end_of r) script input left old_frames new_frames old_text new_text
send_ends core after (Ok tally) script input left old_frames new_frames old_text new_text all front =
    done_or_bad (eqb tally.bad 0) core after tally script input left old_frames new_frames old_text new_text refl all
send_ends core after (Err fault) script input left old_frames new_frames old_text new_text all front = record { after = after; front = front }

not_sent : (b : Bool) (fault : SendFault) → cond b Done BadLine ≡ Send fault → ⊥
not_sent true fault is = absurd cc
not_sent false fault is = absurd cc

-- ---- a fault ends the program as that fault, and no other end does

pub of_end : (r : Result Tally SendFault) (fault : SendFault) → sending_end_of r ≡ Send fault → IsErrOf r fault
of_end (Ok tally) fault is = absurd (not_sent (eqb tally.bad 0) fault is)
of_end (Err other) fault is = let same : other ≡ fault = cc in ap (λ (e : SendFault). Err e) same

pub to_end : (r : Result Tally SendFault) (fault : SendFault) → IsErrOf r fault → sending_end_of r ≡ Send fault
to_end (Ok tally) fault is = absurd cc
to_end (Err other) fault is = let same : other ≡ fault = cc in ap (λ (e : SendFault). Send e) same

pub reported_end : (start : ℕ) (seen : Seen) (r : Result Tally SendFault) (fault : SendFault) → ReportsFault start seen (IsErrOf r fault) → ReportsFault start seen (sending_end_of r ≡ Send fault)
reported_end start seen r fault reported = record { fault = λ is. reported.fault (of_end r fault is); otherwise = λ not. reported.otherwise (λ is. not (to_end r fault is)) }
