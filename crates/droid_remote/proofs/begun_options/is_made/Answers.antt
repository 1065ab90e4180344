use Rattle.std.proofs.Common.{ℕ, List, ap, subst, ◌∙◌}
use Rattle.droid_frame.specs.declared.frame.Frame.{Frame}
use Rattle.droid_remote.specs.Probes.{AnswersHere, StaysHere, profile_frame}
use Rattle.droid_remote.proofs.Probing.{stays_none}
use Rattle.droid_remote.proofs.begun_options.is_made.Goals as goal

pub returns-in_err-frame-clause-stays : goal.returns-in_err-frame-clause-stays
returns-in_err-frame-clause-stays g c = λ known facts stands. stays_none g.C.Connection.does known _ facts c.args.sender.now.in_flight stands

pub returns-in_err-reply-clause-stays : goal.returns-in_err-reply-clause-stays
returns-in_err-reply-clause-stays g c = λ known facts stands.
    subst (λ (f : Frame). StaysHere g.C.Connection.does known f facts c.args.sender.now.in_flight c.ask_here.new.in_flight) (c.in_ok-frame.ensures ∙ ap (λ (n : List ℕ). profile_frame c.args.sender.now.client n c.args.options) c.as_str.ensures.value) (c.ask_here.ensures.stays known facts stands)

pub returns-in_err-made-clause-stays : goal.returns-in_err-made-clause-stays
returns-in_err-made-clause-stays g c = λ known facts stands.
    subst (λ (f : Frame). StaysHere g.C.Connection.does known f facts c.args.sender.now.in_flight c.ask_here.new.in_flight) (c.in_ok-frame.ensures ∙ ap (λ (n : List ℕ). profile_frame c.args.sender.now.client n c.args.options) c.as_str.ensures.value) (c.ask_here.ensures.stays known facts stands)

pub returns-clause-asked : goal.returns-clause-asked
returns-clause-asked g c = λ known facts stands. record {
  reply = c.in_ok-reply.reply;
  verdict = c.in_ok-made.ensures;
  answers = subst (λ (f : Frame). AnswersHere g.C.Connection.does known f c.in_ok-reply.reply facts c.args.sender.now.in_flight c.ask_here.new.in_flight) (c.in_ok-frame.ensures ∙ ap (λ (n : List ℕ). profile_frame c.args.sender.now.client n c.args.options) c.as_str.ensures.value) (c.in_ok-reply.ensures.answered known facts stands);
}

pub returns-clause-stays : goal.returns-clause-stays
returns-clause-stays g c = λ known facts stands.
    subst (λ (f : Frame). StaysHere g.C.Connection.does known f facts c.args.sender.now.in_flight c.ask_here.new.in_flight) (c.in_ok-frame.ensures ∙ ap (λ (n : List ℕ). profile_frame c.args.sender.now.client n c.args.options) c.as_str.ensures.value) (c.ask_here.ensures.stays known facts stands)
