use Rattle.std.proofs.Common.{inr, refl, sym, ap, ◌∙◌}
use Rattle.droid_frame.specs.declared.reply.Reply.{Reply}
use Rattle.droid_client.specs.declared.heard.Heard.TheVariants as heard
use Rattle.droid_lines.specs.Printed.{answer_line}
use Rattle.std.specs.Prelude.{Some}
use Rattle.droid_lines.specs.declared.send_fault.SendFault.TheVariants.{Memory}
use Rattle.droid_lines.specs.Steps.{TakesNone}
use Rattle.droid_lines.proofs.Holding.{answer_now, refusal_now, some_of, took}
use Rattle.droid_lines.proofs.Passing.{if_err_same}
use Rattle.droid_lines.proofs.reply_text.hear.Goals as goal

pub returns-in_err-print_held-in-Answered-clause-none : goal.returns-in_err-print_held-in-Answered-clause-none
returns-in_err-print_held-in-Answered-clause-none c =
    let e = c.in_ok-on_reply.ensures in
    let reply = e.spelled.0 in
    let is = sym (e.heard reply e.spelled.1) ∙ c.in-Answered.is in
    if_err_same _ Memory (λ fault. TakesNone fault c.args.client.now c.args.frame _) c.from_residual-in_err-print_held-in-Answered.ensures.1
    (inr (answer_line (Some reply), took c.args.client.now c.args.frame _ reply heard.Answered _ e.spelled.1 is tt (e.after reply e.spelled.1) refl))

pub print_refusal-requires : goal.print_refusal-requires
print_refusal-requires c =
    let e = c.in_ok-on_reply.ensures in
    let reply = e.spelled.0 in
    let is = sym (e.heard reply e.spelled.1) ∙ c.in-Refused.is in
    let now = refusal_now c.args.client.now c.on_reply.new.self c.args.frame.version c.args.frame.client c.args.frame.number reply is (e.after reply e.spelled.1) in
    some_of _ now.0 now.2

pub returns-in_err-print_refusal-in-Refused-clause-none : goal.returns-in_err-print_refusal-in-Refused-clause-none
returns-in_err-print_refusal-in-Refused-clause-none c =
    let e = c.in_ok-on_reply.ensures in
    let reply = e.spelled.0 in
    let is = sym (e.heard reply e.spelled.1) ∙ c.in-Refused.is in
    if_err_same _ Memory (λ fault. TakesNone fault c.args.client.now c.args.frame _) c.from_residual-in_err-print_refusal-in-Refused.ensures.1
    (inr (answer_line (Some reply), took c.args.client.now c.args.frame _ reply heard.Refused _ e.spelled.1 is tt (e.after reply e.spelled.1) refl))

pub returns-in_ok-print_held-in-Answered-clause-takes : goal.returns-in_ok-print_held-in-Answered-clause-takes
returns-in_ok-print_held-in-Answered-clause-takes c =
    let e = c.in_ok-on_reply.ensures in
    let reply = e.spelled.0 in
    let is = sym (e.heard reply e.spelled.1) ∙ c.in-Answered.is in
    let now = answer_now c.args.client.now c.on_reply.new.self c.args.frame.version c.args.frame.client c.args.frame.number reply is (e.after reply e.spelled.1) in
    took c.args.client.now c.args.frame _ reply heard.Answered _ e.spelled.1 is tt (e.after reply e.spelled.1) (c.in_ok-print_held-in-Answered.ensures reply now)

pub returns-in_ok-print_refusal-in-Refused-clause-takes : goal.returns-in_ok-print_refusal-in-Refused-clause-takes
returns-in_ok-print_refusal-in-Refused-clause-takes c =
    let e = c.in_ok-on_reply.ensures in
    let reply = e.spelled.0 in
    let is = sym (e.heard reply e.spelled.1) ∙ c.in-Refused.is in
    let now = refusal_now c.args.client.now c.on_reply.new.self c.args.frame.version c.args.frame.client c.args.frame.number reply is (e.after reply e.spelled.1) in
    took c.args.client.now c.args.frame _ reply heard.Refused _ e.spelled.1 is tt (e.after reply e.spelled.1)
    (c.in_ok-print_refusal-in-Refused.ensures now.0 now.2 ∙ ap (λ (r : Reply). answer_line (Some r)) (sym now.1))
