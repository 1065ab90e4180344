use Rattle.std.proofs.Common.{◌<◌, Some, arith, refl, subst, sym}
use Rattle.droid_turns.specs.Departures.{frames_bound}
use Rattle.droid_turns.specs.Peers.{IsCounted}
use Rattle.droid_turns.specs.declared.departure.Departure.TheVariants as departures
use Rattle.droid_turns.proofs.ReadSteps.{answers_lost, answers_one, counted_behind}
use Rattle.droid_turns.proofs.peer.Peer.answer.Goals as goal

pub returns-in-Ok-clause-answers : goal.returns-in-Ok-clause-answers
returns-in-Ok-clause-answers g c =
    let old = c.args.self.now in
    let reply = c.handle-reply.result in
    let new = record old { queue = c.push.new.self; frames = c.saturating_add-self.result; leaving = c.leaving_behind-self.result } in (
      reply,
      c.handle-reply.ensures.handles,
      λ now steps lends.
          answers_one old new now steps c.args.frame reply lends c.handle-reply.ensures.spelled c.requires.few c.push.ensures.small refl c.in-Ok.ensures.ok c.leaving_behind-self.ensures refl,
    )

pub returns-clause-answers : goal.returns-clause-answers
returns-clause-answers g c =
    let old = c.args.self.now in
    let reply = c.handle-reply.result in
    let new = record old { queue = c.push.new.self; frames = c.saturating_add-self.result; leaving = Some departures.Memory } in (
      reply,
      c.handle-reply.ensures.handles,
      λ now steps lends.
          answers_lost old new now steps c.args.frame reply lends c.handle-reply.ensures.spelled c.requires.few c.push.ensures.small c.in-Err.ensures.err refl refl,
    )

-- it had not had enough before
pub returns-in-Ok-clause-whole : goal.returns-in-Ok-clause-whole
returns-in-Ok-clause-whole g c =
    let whole = c.requires.whole in
    let few : c.args.self.now.frames < frames_bound = subst (IsCounted c.args.self.now.frames) c.requires.stays whole.counts in
    record {
      ordered = whole.ordered;
      within = whole.within;
      sized = whole.sized;
      fed = whole.fed;
      no_frame = whole.no_frame;
      counts = subst (IsCounted c.saturating_add-self.result) (sym c.leaving_behind-self.ensures) (counted_behind c.saturating_add-self.result (omega (arith, few, c.saturating_add-self.ensures)));
    }

pub returns-clause-whole : goal.returns-clause-whole
returns-clause-whole g c =
    let whole = c.requires.whole in
    let few : c.args.self.now.frames < frames_bound = subst (IsCounted c.args.self.now.frames) c.requires.stays whole.counts in
    record {
      ordered = whole.ordered;
      within = whole.within;
      sized = whole.sized;
      fed = whole.fed;
      no_frame = whole.no_frame;
      counts = omega (arith, few, c.saturating_add-self.ensures);
    }

pub returns-in-Ok-clause-counted : goal.returns-in-Ok-clause-counted
returns-in-Ok-clause-counted g c =
    let few : c.args.self.now.frames < frames_bound = subst (IsCounted c.args.self.now.frames) c.requires.stays c.requires.whole.counts in
    omega (arith, few, c.saturating_add-self.ensures)

pub returns-clause-counted : goal.returns-clause-counted
returns-clause-counted g c =
    let few : c.args.self.now.frames < frames_bound = subst (IsCounted c.args.self.now.frames) c.requires.stays c.requires.whole.counts in
    omega (arith, few, c.saturating_add-self.ensures)
