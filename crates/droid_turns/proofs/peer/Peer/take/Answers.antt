use Rattle.std.proofs.Common.{◌≡◌, ◌-◌, ◌≤◌, None, List, ℕ, MatchOption, drop, length, subst, take}
use Rattle.droid_turns.specs.Feeding.{Brings, Fails, Waits}
use Rattle.droid_turns.proofs.ReadSteps.{all_fed, counted_fault, none_left, some_stays, stops_on, takes_on, whole_fed}
use Rattle.droid_turns.proofs.peer.Peer.take.Goals as goal

pub returns-in-Ok-clause-whole : goal.returns-in-Ok-clause-whole
returns-in-Ok-clause-whole c =
    let old = c.args.self.now in
    whole_fed old c.take.new.self c.in-Ok.fed.taken c.requires.whole
    (subst (λ (l : List ℕ). c.in-Ok.fed.taken ≤ length (take (old.end - old.start) (drop old.start l))) c.deref.ensures.value c.in-Ok.ensures.bound) c.take.ensures.limit c.take.ensures.rest

pub returns-in-Ok-clause-takes : goal.returns-in-Ok-clause-takes
returns-in-Ok-clause-takes c = λ now.
    let old = c.args.self.now in
    let feed = c.take.new.self in
    let fed = c.in-Ok.fed in
    takes_on old feed now fed.taken fed.frame c.requires.whole c.requires.stays
    (subst (λ (l : List ℕ). fed.taken ≤ length (take (old.end - old.start) (drop old.start l))) c.deref.ensures.value c.in-Ok.ensures.bound)
    (subst (λ (l : List ℕ). MatchOption fed.frame (Waits old.feed.bytes (take (old.end - old.start) (drop old.start l)) feed.bytes fed.taken) (Brings old.feed.bytes (take (old.end - old.start) (drop old.start l)) feed.bytes fed.taken))
    c.deref.ensures.value c.in-Ok.ensures.frame)

pub returns-in-Ok-clause-all : goal.returns-in-Ok-clause-all
returns-in-Ok-clause-all c =
    let old = c.args.self.now in
    let feed = c.take.new.self in
    let fed = c.in-Ok.fed in
    all_fed fed.frame _ (old.leaving ≡ None) (none_left old feed fed.taken fed.frame c.requires.whole
    (subst (λ (l : List ℕ). MatchOption fed.frame (Waits old.feed.bytes (take (old.end - old.start) (drop old.start l)) feed.bytes fed.taken) (Brings old.feed.bytes (take (old.end - old.start) (drop old.start l)) feed.bytes fed.taken))
    c.deref.ensures.value c.in-Ok.ensures.frame))

pub returns-in-Ok-clause-stays : goal.returns-in-Ok-clause-stays
returns-in-Ok-clause-stays c = some_stays c.in-Ok.fed.frame (c.args.self.now.leaving ≡ None) c.requires.stays

pub returns-in-Err-clause-takes : goal.returns-in-Err-clause-takes
returns-in-Err-clause-takes c = λ now.
    let old = c.args.self.now in
    stops_on old c.take.new.self now c.in-Err.fault c.requires.stays
    (subst (λ (l : List ℕ). Fails old.feed.bytes (take (old.end - old.start) (drop old.start l)) c.take.new.self.bytes c.in-Err.fault) c.deref.ensures.value c.in-Err.ensures.fault)

pub returns-in-Err-clause-whole : goal.returns-in-Err-clause-whole
returns-in-Err-clause-whole c = record { ordered = c.requires.whole.ordered; within = c.requires.whole.within; sized = c.requires.whole.sized; fed = c.take.ensures.limit; no_frame = c.take.ensures.rest; counts = counted_fault c.args.self.now.frames c.args.self.now.leaving c.in-Err.fault c.requires.stays c.requires.whole.counts }
