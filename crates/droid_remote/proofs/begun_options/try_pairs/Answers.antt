use Rattle.std.proofs.Common.{arith, Bool, Some, ap, refl, subst, sym}
use Rattle.droid_remote.specs.Events.{facts_after}
use Rattle.droid_upload.specs.declared.tree_submission.Options.{Options}
use Rattle.droid_remote.specs.Probes.{AnswersHere, Finds, IsVerdict, StaysHere, profile_frame}
use Rattle.droid_remote.proofs.Handing.{same_on}
use Rattle.droid_remote.proofs.Probing.{finds_made, finds_none, its_answers, its_stays, refuses_more, refuses_none, tries_on}
use Rattle.droid_remote.proofs.begun_options.try_pairs.Goals as goal

pub loop-turn-init : goal.loop-turn-init
loop-turn-init g c = record {
  same = refl;
  refuses = λ known facts stands. refuses_none c.args.sender.now.client c.args.sender.now.name c.args.options g.C.Connection.does known facts c.args.sender.now.in_flight stands;
}

pub returns-in_err-made-clause-tries : goal.returns-in_err-made-clause-tries
returns-in_err-made-clause-tries g c = λ known facts stands.
    let does = g.C.Connection.does in
    let old = c.args.sender.now in
    let now = c.loop-turn.sender in
    let new = c.is_made.new.sender in
    let same = c.loop-turn.invariant.same in
    let before = c.loop-turn.invariant.refuses known facts stands in
    let then = facts_after facts before.tries.goes.events in
    let stays = its_stays does known then old.client now.client old.name now.name c.with_pair-tried.result now.in_flight new.in_flight (ap (λ s. s.client) same) (ap (λ s. s.name) same)
    (c.is_made.ensures.stays known then before.tries.stands_on) in
    tries_on old.client old.name c.args.options does known facts c.loop-turn.turn old.in_flight now.in_flight new.in_flight before
    (subst (λ (o : Options). StaysHere does known (profile_frame old.client old.name o) then now.in_flight new.in_flight) c.with_pair-tried.ensures stays)

pub returns-in_err-made-clause-same : goal.returns-in_err-made-clause-same
returns-in_err-made-clause-same g c = same_on c.args.sender.now c.loop-turn.sender c.is_made.new.sender c.loop-turn.invariant.same c.is_made.ensures.same

pub returns-then-made-clause-found : goal.returns-then-made-clause-found
returns-then-made-clause-found g c = λ known facts stands.
    let does = g.C.Connection.does in
    let old = c.args.sender.now in
    let now = c.loop-turn.sender in
    let new = c.is_made.new.sender in
    let same = c.loop-turn.invariant.same in
    let before = c.loop-turn.invariant.refuses known facts stands in
    let then = facts_after facts before.tries.goes.events in
    let asked = c.in_ok-made.ensures.asked known then before.tries.stands_on in
    let answers = its_answers does known then old.client now.client old.name now.name c.with_pair-tried.result asked.reply now.in_flight new.in_flight (ap (λ s. s.client) same) (ap (λ s. s.name) same) asked.answers in
    let its = subst (λ (o : Options). AnswersHere does known (profile_frame old.client old.name o) asked.reply then now.in_flight new.in_flight) c.with_pair-tried.ensures answers in
    let verdict = subst (λ (b : Bool). IsVerdict b asked.reply) c.if-made.true asked.verdict in
    subst (λ (o : Options). Finds old.client old.name c.args.options does (Some o) known facts old.in_flight new.in_flight) (sym c.with_pair-tried.ensures)
    (finds_made old.client old.name c.args.options does known facts c.loop-turn.turn old.in_flight now.in_flight new.in_flight before asked.reply its verdict.0 verdict.1)

pub returns-then-made-clause-tries : goal.returns-then-made-clause-tries
returns-then-made-clause-tries g c = λ known facts stands.
    let does = g.C.Connection.does in
    let old = c.args.sender.now in
    let now = c.loop-turn.sender in
    let new = c.is_made.new.sender in
    let same = c.loop-turn.invariant.same in
    let before = c.loop-turn.invariant.refuses known facts stands in
    let then = facts_after facts before.tries.goes.events in
    let stays = its_stays does known then old.client now.client old.name now.name c.with_pair-tried.result now.in_flight new.in_flight (ap (λ s. s.client) same) (ap (λ s. s.name) same)
    (c.is_made.ensures.stays known then before.tries.stands_on) in
    tries_on old.client old.name c.args.options does known facts c.loop-turn.turn old.in_flight now.in_flight new.in_flight before
    (subst (λ (o : Options). StaysHere does known (profile_frame old.client old.name o) then now.in_flight new.in_flight) c.with_pair-tried.ensures stays)

pub returns-then-made-clause-same : goal.returns-then-made-clause-same
returns-then-made-clause-same g c = same_on c.args.sender.now c.loop-turn.sender c.is_made.new.sender c.loop-turn.invariant.same c.is_made.ensures.same

pub loop-turn-preserved : goal.loop-turn-preserved
loop-turn-preserved g c = record {
  same = same_on c.args.sender.now c.loop-turn.sender c.is_made.new.sender c.loop-turn.invariant.same c.is_made.ensures.same;
  refuses = λ known facts stands.
      let does = g.C.Connection.does in
      let old = c.args.sender.now in
      let now = c.loop-turn.sender in
      let new = c.is_made.new.sender in
      let same = c.loop-turn.invariant.same in
      let before = c.loop-turn.invariant.refuses known facts stands in
      let then = facts_after facts before.tries.goes.events in
      let asked = c.in_ok-made.ensures.asked known then before.tries.stands_on in
      let answers = its_answers does known then old.client now.client old.name now.name c.with_pair-tried.result asked.reply now.in_flight new.in_flight (ap (λ s. s.client) same) (ap (λ s. s.name) same) asked.answers in
      let its = subst (λ (o : Options). AnswersHere does known (profile_frame old.client old.name o) asked.reply then now.in_flight new.in_flight) c.with_pair-tried.ensures answers in
      refuses_more old.client old.name c.args.options does known facts c.loop-turn.turn old.in_flight now.in_flight new.in_flight before asked.reply its
      (subst (λ (b : Bool). IsVerdict b asked.reply) c.if-made.false asked.verdict);
}

pub returns-clause-found : goal.returns-clause-found
returns-clause-found g c = λ known facts stands.
    finds_none c.args.sender.now.client c.args.sender.now.name c.args.options g.C.Connection.does known facts c.loop-turn.turn c.args.sender.now.in_flight c.loop-turn.sender.in_flight (omega (arith, c.loop-turn-test.false))
    (c.loop-turn.invariant.refuses known facts stands)

pub returns-clause-tries : goal.returns-clause-tries
returns-clause-tries g c = λ known facts stands. let refuses = c.loop-turn.invariant.refuses known facts stands in refuses.tries
