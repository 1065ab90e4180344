use Rattle.std.proofs.Common.{rules, ℕ, ◌≡◌, ◌≤◌, ◌∙◌, Bool, ap, length, refl, subst, sym}
use Rattle.droid_script.specs.Scripts.{WritesAnswer, is_bad}
use Rattle.droid_lines.specs.Lines.{lines_of}
use Rattle.droid_lines.specs.Tallies.{with_one_more}
use Rattle.droid_lines.specs.declared.tally.Tally.{Tally}
use Rattle.droid_frame.proofs.InTurn.{lasts_in_one, over_next, over_none, reported_idle, reported_next}
use Rattle.droid_script.proofs.Runs.{Progress, start, step, stop, line_is_left, lines_are_within}
use Rattle.droid_script.proofs.Writes.{on_err}
use Rattle.droid_script.proofs.run.run_lines.Goals as goal

pub loop-line-init : goal.loop-line-init
loop-line-init g c = record {
  progress = start c.args.service.now c.args.input.now _ (g.W.Write.contents c.args.writer.now) refl refl;
  lasts = λ sound endless. (over_none g.W.SteadyWrite.seen (WritesAnswer g.W.Write.contents) c.args.writer.now _ refl sound, endless);
}

pub returns-in_err-is_bad-clause-front : goal.returns-in_err-is_bad-clause-front
returns-in_err-is_bad-clause-front g c = λ setting history stands.
    on_err _ _ (stop c.args.service.now c.loop-line.service c.run_line.new.service c.args.input.now c.loop-line.rest.now c.in-Some.line.now c.in-Some.after.now c.loop-line.tally
    (g.W.Write.contents c.args.writer.now) (g.W.Write.contents c.loop-line.writer) (g.W.Write.contents c.run_line.new.writer)
    c.loop-line.invariant.progress c.in-Some.ensures.line c.in_err-is_bad.ensures.front setting history stands)

pub loop-line-preserved : goal.loop-line-preserved
loop-line-preserved g c =
    let counted : c.count.new.self ≡ with_one_more (is_bad c.in-Some.line.now) c.loop-line.tally =
    c.count.ensures ∙ ap (λ (bad : Bool). with_one_more bad c.loop-line.tally) c.in_ok-is_bad.ensures.bad in
    record {
      progress = subst (λ (tally : Tally). Progress c.args.service.now c.run_line.new.service c.args.input.now c.in-Some.after.now tally (g.W.Write.contents c.args.writer.now) (g.W.Write.contents c.run_line.new.writer)) (sym counted)
          (step c.args.service.now c.loop-line.service c.run_line.new.service c.args.input.now c.loop-line.rest.now c.in-Some.line.now c.in-Some.after.now c.loop-line.tally
          (g.W.Write.contents c.args.writer.now) (g.W.Write.contents c.loop-line.writer) (g.W.Write.contents c.run_line.new.writer)
          c.loop-line.invariant.progress c.in-Some.ensures.line c.in-Some.ensures.shorter c.in_ok-is_bad.ensures.all c.in_ok-is_bad.ensures.limits c.in_ok-is_bad.ensures.registry);
      lasts = λ sound endless.
          let now = c.loop-line.invariant.lasts sound endless in
          let reported = c.in_ok-is_bad.ensures.reported now.0.sound now.1 in
          let wrote = c.in_ok-is_bad.ensures.wrote in (
            over_next g.W.SteadyWrite.seen (WritesAnswer g.W.Write.contents) c.args.writer.now c.loop-line.writer c.run_line.new.writer c.loop-line.tally.lines _ wrote.0 (ap (λ (t : Tally). t.lines) counted) now.0 wrote.1
                (lasts_in_one g.W.SteadyWrite.seen (WritesAnswer g.W.Write.contents) c.loop-line.writer c.run_line.new.writer _ now.0.sound reported.0 (λ e. absurd cc)),
            reported.1,
          );
    }

pub returns-in_err-is_bad-clause-reported : goal.returns-in_err-is_bad-clause-reported
returns-in_err-is_bad-clause-reported g c = λ sound endless.
    let now = c.loop-line.invariant.lasts sound endless in
    let reported = (c.in_err-is_bad.ensures.reported now.0.sound now.1).0 in
    let MayBe = λ (count : ℕ). count ≤ length (lines_of c.args.input.now) in
    reported_next g.W.SteadyWrite.seen (WritesAnswer g.W.Write.contents) MayBe c.args.writer.now c.loop-line.writer c.run_line.new.writer c.loop-line.tally.lines _ _
    now.0 (lines_are_within _ _ _ _ _ _ _ c.loop-line.invariant.progress) (line_is_left c.args.service.now c.loop-line.service c.args.input.now c.loop-line.rest.now c.in-Some.line.now c.in-Some.after.now c.loop-line.tally
    (g.W.Write.contents c.args.writer.now) (g.W.Write.contents c.loop-line.writer) c.loop-line.invariant.progress c.in-Some.ensures.line) reported (λ e. search rules) (λ e. search rules)

pub returns-clause-reported : goal.returns-clause-reported
returns-clause-reported g c = λ sound endless.
    let now = c.loop-line.invariant.lasts sound endless in
    let MayBe = λ (count : ℕ). count ≤ length (lines_of c.args.input.now) in
    reported_idle g.W.SteadyWrite.seen (WritesAnswer g.W.Write.contents) MayBe c.args.writer.now c.loop-line.writer c.loop-line.tally.lines _ now.0
    (lines_are_within _ _ _ _ _ _ _ c.loop-line.invariant.progress) (λ e. absurd cc)
