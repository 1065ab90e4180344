use Rattle.std.proofs.Common.{◌≡◌, [], ◌∷◌, refl, sym, subst, ◌∙◌, inl, inr, rules}
use Rattle.std.specs.Io.KnownBytes.{Appends}
use Rattle.droid_core.specs.declared.service.Service.{Service}
use Rattle.droid_lines.specs.Printed.{answer_line}
use Rattle.droid_script.specs.Scripts.{RunsFront, WritesFront}
use Rattle.droid_script.proofs.Runs.{line_runs, line_runs_front, writes_nothing, runs_nothing}
use Rattle.droid_script.proofs.Writes.{front_written, of_memory, on_err, part_written}
use Rattle.droid_frame.specs.Seen.{Counts}
use Rattle.droid_frame.proofs.Scopes.{counts_none, is_error, lasts, reported_fault}
use Rattle.droid_frame.proofs.Stopping.{given_up_only, room_stays}
use Rattle.droid_script.specs.declared.script_fault.ScriptFault.TheVariants.{Write}
use Rattle.droid_script.proofs.run.run_line.Goals as goal

pub returns-in_err-answer-clause-front : goal.returns-in_err-answer-clause-front
returns-in_err-answer-clause-front g c = λ setting history stands.
    let bytes = g.W.Write.contents c.args.writer.now in
    on_err _ _ (subst (λ (s : Service). RunsFront setting history (c.args.line.now ∷ []) s bytes bytes) (sym c.in_err-answer.ensures.err)
    (runs_nothing setting history (c.args.line.now ∷ []) c.args.service.now bytes stands))

pub returns-in_err-printed-clause-front : goal.returns-in_err-printed-clause-front
returns-in_err-printed-clause-front g c = λ setting history stands.
    let answer = c.in_ok-answer.answer in
    let bytes = g.W.Write.contents c.args.writer.now in
    on_err _ _ (line_runs_front setting history c.args.line.now answer c.handle_line.new.service bytes bytes
    (c.in_ok-answer.ensures.ok setting history stands) (writes_nothing bytes (answer_line answer)))

pub returns-in_err-write_all-clause-front : goal.returns-in_err-write_all-clause-front
returns-in_err-write_all-clause-front g c = λ setting history stands.
    let answer = c.in_ok-answer.answer in
    let old = g.W.Write.contents c.args.writer.now in
    let new = g.W.Write.contents c.write_all.new.writer in
    let text : c.as_slice.result.now ≡ answer_line answer = c.as_slice.ensures.value ∙ c.in_ok-printed.ensures in
    on_err _ _ (line_runs_front setting history c.args.line.now answer c.handle_line.new.service old new
    (c.in_ok-answer.ensures.ok setting history stands) (subst (WritesFront old new) text (front_written _ _ _ _ _ c.in_err-write_all.ensures.err)))

pub returns-clause-all : goal.returns-clause-all
returns-clause-all g c = λ setting history stands.
    let answer = c.in_ok-answer.answer in
    let old = g.W.Write.contents c.args.writer.now in
    let new = g.W.Write.contents c.write_all.new.writer in
    let text : c.as_slice.result.now ≡ answer_line answer = c.as_slice.ensures.value ∙ c.in_ok-printed.ensures in
    line_runs setting history c.args.line.now answer c.handle_line.new.service old new
    (c.in_ok-answer.ensures.ok setting history stands) (subst (Appends old new) text c.in_ok-write_all.ensures.ok)

pub returns-in_err-answer-clause-reported : goal.returns-in_err-answer-clause-reported
returns-in_err-answer-clause-reported g c = λ sound endless. (inr (inl (refl, of_memory _ c.from_residual.ensures.1)), endless)

pub returns-in_err-printed-clause-reported : goal.returns-in_err-printed-clause-reported
returns-in_err-printed-clause-reported g c = λ sound endless. (inr (inl (refl, of_memory _ c.from_residual-in_err-printed.ensures.1)), endless)

pub returns-in_err-write_all-clause-reported : goal.returns-in_err-write_all-clause-reported
returns-in_err-write_all-clause-reported g c = λ sound endless.
    let old = g.W.SteadyWrite.seen c.args.writer.now in
    let new = g.W.SteadyWrite.seen c.write_all.new.writer in
    let counts : Counts old.interruptions old c.new.result.retries = rw c.new.ensures.retries (counts_none old sound) in
    let stops = c.in_err-write_all.ensures.counts old.interruptions counts in
    let none = room_stays _ _ (rw endless at c.in_err-write_all.ensures.room_err) in
    let answer = c.in_ok-answer.answer in
    let text : c.as_slice.result.now ≡ answer_line answer = c.as_slice.ensures.value ∙ c.in_ok-printed.ensures in (
      inr (inr (
        (answer, _, part_written _ _ _ _ _ _ text c.in_err-write_all.ensures.err),
        reported_fault old.interruptions new _ (is_error _ Write (search rules)) (given_up_only old.interruptions new _ stops none),
      )),
      none,
    )

pub returns-clause-reported : goal.returns-clause-reported
returns-clause-reported g c = λ sound endless.
    let old = g.W.SteadyWrite.seen c.args.writer.now in
    let counts : Counts old.interruptions old c.new.result.retries = rw c.new.ensures.retries (counts_none old sound) in
    let still = c.in_ok-write_all.ensures.counts old.interruptions counts in
    let none = room_stays _ _ (rw endless at c.in_ok-write_all.ensures.room_ok) in
    let answer = c.in_ok-answer.answer in
    let text : c.as_slice.result.now ≡ answer_line answer = c.as_slice.ensures.value ∙ c.in_ok-printed.ensures in
    let written = subst (Appends (g.W.Write.contents c.args.writer.now) (g.W.Write.contents c.write_all.new.writer)) text c.in_ok-write_all.ensures.ok in
    (inl (answer, written, lasts old.interruptions _ _ still, λ e. absurd cc), none)

pub returns-clause-wrote : goal.returns-clause-wrote
returns-clause-wrote g c =
    let answer = c.in_ok-answer.answer in
    let old = g.W.Write.contents c.args.writer.now in
    let new = g.W.Write.contents c.write_all.new.writer in
    let text : c.as_slice.result.now ≡ answer_line answer = c.as_slice.ensures.value ∙ c.in_ok-printed.ensures in
    (answer, subst (Appends old new) text c.in_ok-write_all.ensures.ok)
