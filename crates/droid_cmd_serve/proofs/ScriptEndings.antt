-- What the end of a script says of the program's ending.
use Rattle.std.proofs.Common.{◌≡◌, ℕ, Bool, true, false, cond, eqb, List, [], length, Option, Some, None, Result, Ok, Err, OnOk, IfOk, IfErr, IfSome, refl, sym, ap, ◌∙◌, subst, arith}
use Rattle.std.specs.Prelude.{IsErrOf}
use Rattle.std.specs.Io.KnownBytes.{Keeps}
use Rattle.std.proofs.KnownBytes.{Keeps-refl}
use Rattle.std.proofs.lemmas.Bool.{eqb-true, eqb-false}
use Rattle.droid_cmd_serve.specs.declared.exit.Ending.{Ending}
use Rattle.droid_cmd_serve.specs.declared.exit.Ending.TheVariants.{Done, Registry, NoService, Script, Stream, Send, Socket, Journal, BadLine}
use Rattle.droid_script.specs.declared.script_fault.ScriptFault.{ScriptFault}
use Rattle.droid_script.specs.declared.script_fault.ScriptFault.TheVariants.{TooLong, Read, Memory, Write}
use Rattle.droid_lines.specs.Tallies.{Counts}
use Rattle.droid_lines.specs.declared.tally.Tally.{Tally}
use Rattle.droid_core.specs.declared.service.Service.{Service}
use Rattle.droid_core_spec.specs.Setting.{Setting}
use Rattle.droid_cmd_serve.specs.Endings.{ending_of, EndsAs, EndsOver, PrintsAll, RunsWith}
use Rattle.droid_cmd_serve.specs.Fresh.{IsNotMadeOf}
use Rattle.droid_lines.specs.Lines.{lines_of}
use Rattle.droid_script.specs.Scripts.{RunsAll, RunsFront, IsOfReading, IsOfHandling, IsTooLong, WritesAnswer, is_bad}
use Rattle.droid_pronom.specs.declared.registry.fault.RegistryFault.{RegistryFault}
use Rattle.droid_frame.specs.Seen.{IsSound, ReportsFault}
use Rattle.droid_frame.specs.declared.io.stream_record.Seen.{Seen}
use Rattle.droid_frame.specs.InTurn.{AtMost, ReportsFaultInTurn}
use Rattle.droid_frame.proofs.InTurn.{over_none, reported_idle}
use Rattle.droid_frame.proofs.Scopes.{counts_none, reported_none}

pub keeps_same : (old new : Option (List ℕ)) → new ≡ old → Keeps old new
keeps_same old new e = subst (Keeps old) (sym e) (Keeps-refl old)

pub if_err_then : {T E : Type 0} (r : Result T E) (P Q : E → Type 0) → IfErr r P → ((e : E) → P e → Q e) → IfErr r Q
if_err_then (Ok x) P Q p then = tt
if_err_then (Err e) P Q p then = then e p

done_or_bad : (b : Bool) (setting : Setting) (tally : Tally) (input : List ℕ) (old new : Option (List ℕ)) → eqb tally.bad 0 ≡ b
    → PrintsAll setting input old new → Counts is_bad tally (lines_of input) → EndsAs setting (cond b Done BadLine) input old new
done_or_bad true setting tally input old new e prints counts =
    let none : tally.bad ≡ 0 = eqb-true tally.bad 0 e in
    (prints, sym counts.bad_are ∙ none)
done_or_bad false setting tally input old new e prints counts =
    let some : tally.bad ≡ 0 → ⊥ = eqb-false tally.bad 0 e in
    (prints, omega (arith, counts.bad_are, some))

pub ends : (known : Option (List ℕ)) (r : Result Tally ScriptFault) (setting : Setting) (after : Service) (old new : Option (List ℕ))
    → OnOk r (IfSome known (λ input. RunsAll setting [] (lines_of input) after old new))
    → IfOk r (λ tally. IfSome known (λ input. Counts is_bad tally (lines_of input)))
    → IfErr r (λ fault. IsOfHandling fault → IfSome known (λ input. RunsFront setting [] (lines_of input) after old new))
    → IfErr r (λ fault. IsOfReading fault → Keeps old new)
    → (IsErrOf r TooLong → IfSome known IsTooLong)
    → IfSome known (λ input. EndsAs setting (ending_of r) input old new)
ends None r setting after old new all tally front before too_long = tt
ends (Some input) (Ok counted) setting after old new all tally front before too_long =
    done_or_bad (eqb counted.bad 0) setting counted input old new refl (after, all) tally
ends (Some input) (Err TooLong) setting after old new all tally front before too_long = (before tt, too_long refl)
ends (Some input) (Err Read) setting after old new all tally front before too_long = before tt
ends (Some input) (Err Memory) setting after old new all tally front before too_long = (after, front tt)
ends (Some input) (Err Write) setting after old new all tally front before too_long = (after, front tt)

-- ---- a fault ends the program as that fault, and no other end does

not_script : (b : Bool) (fault : ScriptFault) → cond b Done BadLine ≡ Script fault → ⊥
not_script true fault is = absurd cc
not_script false fault is = absurd cc

pub of_end : (r : Result Tally ScriptFault) (fault : ScriptFault) → ending_of r ≡ Script fault → IsErrOf r fault
of_end (Ok tally) fault is = absurd (not_script (eqb tally.bad 0) fault is)
of_end (Err other) fault is = let same : other ≡ fault = cc in ap (λ (e : ScriptFault). Err e) same

pub to_end : (r : Result Tally ScriptFault) (fault : ScriptFault) → IsErrOf r fault → ending_of r ≡ Script fault
to_end (Ok tally) fault is = absurd cc
to_end (Err other) fault is = let same : other ≡ fault = cc in ap (λ (e : ScriptFault). Script e) same

none_yet : (known : Option (List ℕ)) → AtMost known (λ script. length (lines_of script)) 0
none_yet None = tt
none_yet (Some script) = omega arith

-- nothing was asked of the writer
pub unwritten : {S : Type 0} (seen : S → Seen) (contents : S → Option (List ℕ)) (known : Option (List ℕ)) (writer : S) (P : Type 0) → IsSound (seen writer) → (P → ⊥)
    → ReportsFaultInTurn seen (WritesAnswer contents) (AtMost known (λ script. length (lines_of script))) writer writer P
unwritten {S} seen contents known writer P sound not =
    reported_idle seen (WritesAnswer contents) (AtMost known (λ script. length (lines_of script))) writer writer 0 P (over_none seen (WritesAnswer contents) writer 0 refl sound) (none_yet known) not

-- ---- a script over a registry file

-- the script ran, and its ending is of no registry
pub ends_over : (file : Option (List ℕ)) (ending : Ending) (input old new : Option (List ℕ)) → ((fault : RegistryFault) → ending ≡ Registry fault → ⊥)
    → RunsWith file ending input old new → EndsOver file ending input old new
ends_over file (Registry fault) input old new not runs = absurd (not fault refl)
ends_over file Done input old new not runs = runs
ends_over file BadLine input old new not runs = runs
ends_over file (NoService fault) input old new not runs = runs
ends_over file (Script fault) input old new not runs = runs
ends_over file (Stream fault) input old new not runs = runs
ends_over file (Send fault) input old new not runs = runs
ends_over file Socket input old new not runs = runs
ends_over file (Journal fault) input old new not runs = runs

all_inputs : (input : Option (List ℕ)) (P : Type 0) → P → IfSome input (λ _. P)
all_inputs None P p = tt
all_inputs (Some bytes) P p = p

-- no service was made, and nothing was written
pub ends_unmade : (file : Option (List ℕ)) (ending : Ending) (input old : Option (List ℕ)) → IsNotMadeOf file ending → EndsOver file ending input old old
ends_unmade file (Registry fault) input old not = (not, Keeps-refl old)
ends_unmade file (NoService fault) input old not = record { registry = not.1; is_read = not.2; ends = λ setting program. all_inputs input (Keeps old old) (Keeps-refl old) }
ends_unmade file Done input old not = absurd not.0
ends_unmade file BadLine input old not = absurd not.0
ends_unmade file (Script fault) input old not = absurd not.0
ends_unmade file (Stream fault) input old not = absurd not.0
ends_unmade file (Send fault) input old not = absurd not.0
ends_unmade file Socket input old not = absurd not.0
ends_unmade file (Journal fault) input old not = absurd not.0

pub unmade_by_no_script : (file : Option (List ℕ)) (ending : Ending) (fault : ScriptFault) → IsNotMadeOf file ending → ending ≡ Script fault → ⊥
unmade_by_no_script file ending fault not is = (subst (λ (e : Ending). IsNotMadeOf file e) is not).0

-- nothing was asked of the reader
pub unread : (seen : Seen) (P : Type 0) → IsSound seen → (P → ⊥) → ReportsFault seen.interruptions seen P
unread seen P sound not = reported_none seen.interruptions seen 0 P not (counts_none seen sound)
