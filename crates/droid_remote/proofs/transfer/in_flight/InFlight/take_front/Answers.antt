use Rattle.std.proofs.Common.{◌≡◌, ◌∷◌, [], List, Contains, length, ◌<◌, refl, sym, ap, subst, ◌∙◌, arith}
use Rattle.std.proofs.lemmas.List.Elements.{Contains-append_right}
use Rattle.std.proofs.lemmas.Bool.{false≢true}
use Rattle.droid_frame.specs.declared.frame.Frame.{Frame}
use Rattle.droid_remote.specs.Stages.{AreIn}
use Rattle.droid_remote.specs.declared.transfer.known_requests.Known.{Known}
use Rattle.droid_remote.proofs.Waiting.{takes_counts, takes_goes}
use Rattle.droid_remote.proofs.transfer.in_flight.InFlight.take_front.Goals as goal

pub returns-clause-first : goal.returns-clause-first
returns-clause-first g c = sym c.receive.ensures.same ∙ c.in-Some.ensures.items

pub returns-clause-taken : goal.returns-clause-taken
returns-clause-taken g c = λ known facts on.
    let old = c.args.self.now in
    let answer : Known = record { request = c.in-Some.oldest; reply = c.in_ok-came.came } in
    let rest = c.pop_front.new.self.items in
    let hears = c.in_ok-came.ensures.heard known facts on in
    let first : old.waiting.items ≡ c.in-Some.oldest ∷ rest = sym c.receive.ensures.same ∙ c.in-Some.ensures.items in
    let within : AreIn rest old.waiting.items = λ frame there. subst (λ (l : List Frame). Contains l frame) (sym first) (Contains-append_right (c.in-Some.oldest ∷ []) rest frame there) in
    record {
      goes = takes_goes g.C.Connection.does known facts answer rest old _ hears;
      before = hears.ahead.goes.events;
      cut = refl;
      was_written = hears.ahead.counts.written c.in-Some.oldest (hears.first hears.stands c.in-Some.oldest rest first);
      vouched = hears.ahead.counts.vouched hears.stands;
      stands_on = record { same = hears.same_known; counts = takes_counts g.C.Connection.does known facts answer rest old _ hears within };
    }

pub returns-in_default-clause-stopped : goal.returns-in_default-clause-stopped
returns-in_default-clause-stopped g c = λ known facts on.
    let heard = c.receive.new.self.waiting in
    let some : 0 < heard.len = omega (arith, heard.ok.0, ap (λ (l : List Frame). length l) c.receive.ensures.same, c.requires) in
    absurd (false≢true (c.in_default.ensures.variant.1 some))

pub returns-then-not-is_to-clause-stopped : goal.returns-then-not-is_to-clause-stopped
returns-then-not-is_to-clause-stopped g c = λ known facts on.
    let old = c.args.self.now in
    let answer : Known = record { request = c.in-Some.oldest; reply = c.in_ok-came.came } in
    let rest = c.pop_front.new.self.items in
    let hears = c.in_ok-came.ensures.heard known facts on in
    let first : old.waiting.items ≡ c.in-Some.oldest ∷ rest = sym c.receive.ensures.same ∙ c.in-Some.ensures.items in
    record {
      goes = takes_goes g.C.Connection.does known facts answer rest old _ hears;
      explained = record {
        frame = c.in-Some.oldest;
        came = c.in_ok-came.came;
        is = subst (λ (l : List Frame). Contains l c.in-Some.oldest) (sym first) (0, omega arith, refl);
        last = (hears.ahead.goes.events, refl);
        no_reply = λ reply is. absurd (false≢true (sym c.if-not-is_to.true ∙ c.is_to.ensures.1 is.to));
      };
    }
