use Rattle.std.proofs.Common.{◌∙◌, ℕ, ap, refl, sym, subst}
use Rattle.droid_frame.specs.Limits.{puid_limit}
use Rattle.droid_frame.specs.Outcomes.{Fails}
use Rattle.droid_frame.specs.ReplySteps.{ArePuids}
use Rattle.droid_frame.specs.TextListFields.{texts_at}
use Rattle.droid_frame.proofs.FinishedAnswers.{HasHead, no_head, no_puids, is_finished, fault_is}
use Rattle.droid_frame.proofs.reading.replies.finished.finished.Goals as goal

pub returns-in_default : goal.returns-in_default
returns-in_default c = no_head c.args.version c.args.body.now (sym c.in_default.ensures)

pub returns-then-not-are_puids : goal.returns-then-not-are_puids
returns-then-not-are_puids c =
    let has : HasHead c.args.version c.args.body.now c.in-Some.head c.in-Some.rest.now = record { head_is = sym c.in-Some.ensures } in
    let tested = c.if-not-are_puids.ensures in
    no_puids c.args.version c.args.body.now c.in-Some.head c.in-Some.rest.now has (λ (are : ArePuids c.in-Some.head.count c.in-Some.rest.now). let impossible = tested.1 are in cc)

pub returns-in-Ok : goal.returns-in-Ok
returns-in-Ok c =
    let has : HasHead c.args.version c.args.body.now c.in-Some.head c.in-Some.rest.now = record { head_is = sym c.in-Some.ensures } in
    let tested = c.if-not-are_puids.ensures in
    let read = ap (λ (n : ℕ). texts_at n 1 puid_limit c.in-Some.rest.now) (sym c.from.ensures) ∙ c.in-Ok.ensures in
    is_finished c.args.version c.args.body.now c.in-Some.head c.in-Some.rest.now c.in-Ok.puids c.in-Ok.field-0-1.now has (tested.0 refl) read

pub returns-in-Err : goal.returns-in-Err
returns-in-Err c =
    let has : HasHead c.args.version c.args.body.now c.in-Some.head c.in-Some.rest.now = record { head_is = sym c.in-Some.ensures } in
    let tested = c.if-not-are_puids.ensures in
    let read = subst (λ (n : ℕ). Fails c.in-Err.fault (texts_at n 1 puid_limit c.in-Some.rest.now)) c.from.ensures c.in-Err.ensures in
    fault_is c.args.version c.args.body.now c.in-Some.head c.in-Some.rest.now c.in-Err.fault has (tested.0 refl) read
