use Rattle.std.proofs.Common.{◌≡◌, ◌+◌, ◌-◌, ◌≤◌, ◌∷◌, [], ℕ, Some, length, take, sym, ap, ◌∙◌, refl, subst, arith}
use Rattle.std.proofs.lemmas.Bool.{false≢true}
use Rattle.std.proofs.lemmas.List.{length-take}
use Rattle.droid_frame.specs.declared.streams.fault.FrameFault.TheVariants as faults
use Rattle.droid_turns.specs.Events.{Ended, Read, Unread}
use Rattle.droid_turns.specs.Peers.{ByDrought, ByLeaving, Turns}
use Rattle.droid_turns.specs.Steps.{Happens}
use Rattle.droid_turns.specs.declared.departure.Departure.TheVariants as departures
use Rattle.droid_turns.proofs.ConnectionSteps.{turns_read, turns_still}
use Rattle.droid_turns.proofs.ReadSteps.{counted_end, counted_fault, nothing_read, reads_broken, reads_end, reads_some, whole_lent}
use Rattle.droid_turns.proofs.Moments.{moves_one}
use Rattle.droid_turns.proofs.peer.Peer.receive.Goals as goal

-- nothing came: no bytes
pub returns-then-count-eq0-clause-whole : goal.returns-then-count-eq0-clause-whole
returns-then-count-eq0-clause-whole g c =
    let whole = whole_lent c.args.self.now c.read_into.new.buffer c.requires.whole c.read_into.ensures.size in
    record { ordered = whole.ordered; within = whole.within; sized = whole.sized; fed = whole.fed; no_frame = whole.no_frame; counts = whole.counts }

pub returns-then-count-eq0-clause-moves : goal.returns-then-count-eq0-clause-moves
returns-then-count-eq0-clause-moves g c =
    let old = c.args.self.now in
    let buffer = c.read_into.new.buffer in
    let came = subst (λ n. g.C.Connections.does c.args.connections.now (Read old.id (take n buffer.items)) c.read_into.new.connections) c.if-count-eq0.true c.in-Bytes.ensures.came in
    moves_one g.C.Connections.does c.args.connections.now c.read_into.new.connections (Read old.id []) _ came
    (nothing_read old buffer c.args.now c.requires.whole c.requires.none)

pub returns-then-count-eq0-clause-rests : goal.returns-then-count-eq0-clause-rests
returns-then-count-eq0-clause-rests g c = λ is share count. ByDrought refl

-- some bytes came
pub returns-else-count-eq0-clause-whole : goal.returns-else-count-eq0-clause-whole
returns-else-count-eq0-clause-whole g c = record {
  ordered = omega arith;
  within = c.in-Bytes.ensures.bound;
  sized = c.read_into.ensures.size ∙ c.requires.whole.sized;
  fed = c.requires.whole.fed;
  no_frame = c.requires.whole.no_frame;
  counts = c.requires.whole.counts;
}

pub returns-else-count-eq0-clause-moves : goal.returns-else-count-eq0-clause-moves
returns-else-count-eq0-clause-moves g c =
    let old = c.args.self.now in
    let buffer = c.read_into.new.buffer in
    let count = c.in-Bytes.count in
    let bytes = take count buffer.items in
    let size : length bytes ≡ count = omega (arith, length-take count buffer.items, c.in-Bytes.ensures.bound) in
    let new = record old { buffer = buffer; start = 0; end = count; active = c.args.now; read = old.read + count } in
    let whole = c.requires.whole in
    let all : old.read + length bytes ≡ old.read + count = omega (arith, size) in
    let unread_is : take (count - 0) buffer.items ≡ bytes = let same : count - 0 ≡ count = omega arith in ap (λ (n : ℕ). take n buffer.items) same in
    moves_one g.C.Connections.does c.args.connections.now c.read_into.new.connections (Read old.id bytes) _ c.in-Bytes.ensures.came (
      reads_some old buffer c.args.now count whole c.requires.stays c.requires.none (omega (arith, c.if-count-eq0.false)) c.in-Bytes.ensures.bound c.read_into.ensures.size new refl unread_is refl c.requires.stays refl,
      subst (λ (r : ℕ). Turns old.id old.read r 0 (Happens (Read old.id bytes) ∷ [])) all (turns_read old.id old.read bytes),
      λ is. absurd (false≢true (sym c.requires.awake ∙ is)),
    )

pub returns-else-count-eq0-clause-goes_on : goal.returns-else-count-eq0-clause-goes_on
returns-else-count-eq0-clause-goes_on g c = λ is. (c.requires.stays, c.requires.awake, omega (arith, c.if-count-eq0.false), omega (arith, c.if-count-eq0.false))

pub returns-else-count-eq0-clause-rests : goal.returns-else-count-eq0-clause-rests
returns-else-count-eq0-clause-rests g c = λ is. absurd (false≢true (sym is))

-- nothing is there yet
pub returns-in-Nothing-clause-whole : goal.returns-in-Nothing-clause-whole
returns-in-Nothing-clause-whole g c =
    let whole = whole_lent c.args.self.now c.read_into.new.buffer c.requires.whole c.read_into.ensures.size in
    record { ordered = whole.ordered; within = whole.within; sized = whole.sized; fed = whole.fed; no_frame = whole.no_frame; counts = whole.counts }

pub returns-in-Nothing-clause-moves : goal.returns-in-Nothing-clause-moves
returns-in-Nothing-clause-moves g c =
    moves_one g.C.Connections.does c.args.connections.now c.read_into.new.connections (Read c.args.self.now.id []) _ c.in-Nothing.ensures.came
    (nothing_read c.args.self.now c.read_into.new.buffer c.args.now c.requires.whole c.requires.none)

pub returns-in-Nothing-clause-rests : goal.returns-in-Nothing-clause-rests
returns-in-Nothing-clause-rests g c = λ is share count. ByDrought refl

-- the input ended
pub returns-in-End-clause-whole : goal.returns-in-End-clause-whole
returns-in-End-clause-whole g c =
    let whole = whole_lent c.args.self.now c.read_into.new.buffer c.requires.whole c.read_into.ensures.size in
    record { ordered = whole.ordered; within = whole.within; sized = whole.sized; fed = whole.fed; no_frame = whole.no_frame; counts = counted_end c.args.self.now.frames c.args.self.now.leaving c.args.self.now.feed.bytes c.end_of.result c.requires.stays whole.counts c.end_of.ensures }

pub returns-in-End-clause-moves : goal.returns-in-End-clause-moves
returns-in-End-clause-moves g c =
    let old = c.args.self.now in
    let why = c.end_of.result in
    let new = record old { buffer = c.read_into.new.buffer; leaving = Some why } in
    moves_one g.C.Connections.does c.args.connections.now c.read_into.new.connections (Ended old.id) _ c.in-End.ensures.came (
      reads_end old new c.args.now why c.requires.stays c.requires.none c.end_of.ensures refl refl refl,
      turns_still old.id old.read (Happens (Ended old.id)) refl refl tt,
      λ is. absurd (false≢true (sym c.requires.awake ∙ is)),
    )

pub returns-in-End-clause-rests : goal.returns-in-End-clause-rests
returns-in-End-clause-rests g c = λ is share count. ByLeaving refl

-- it is broken
pub returns-in-Broken-clause-whole : goal.returns-in-Broken-clause-whole
returns-in-Broken-clause-whole g c =
    let whole = whole_lent c.args.self.now c.read_into.new.buffer c.requires.whole c.read_into.ensures.size in
    record { ordered = whole.ordered; within = whole.within; sized = whole.sized; fed = whole.fed; no_frame = whole.no_frame; counts = counted_fault c.args.self.now.frames c.args.self.now.leaving faults.Read c.requires.stays whole.counts }

pub returns-in-Broken-clause-moves : goal.returns-in-Broken-clause-moves
returns-in-Broken-clause-moves g c =
    let old = c.args.self.now in
    let new = record old { buffer = c.read_into.new.buffer; leaving = Some (departures.Frame faults.Read) } in
    moves_one g.C.Connections.does c.args.connections.now c.read_into.new.connections (Unread old.id) _ c.in-Broken.ensures.came (
      reads_broken old new c.args.now c.requires.stays c.requires.none refl refl refl,
      turns_still old.id old.read (Happens (Unread old.id)) refl refl tt,
      λ is. absurd (false≢true (sym c.requires.awake ∙ is)),
    )

pub returns-in-Broken-clause-rests : goal.returns-in-Broken-clause-rests
returns-in-Broken-clause-rests g c = λ is share count. ByLeaving refl

-- no more than the buffer has
pub returns-else-count-eq0-clause-bound : goal.returns-else-count-eq0-clause-bound
returns-else-count-eq0-clause-bound g c = omega (arith, c.in-Bytes.ensures.bound, c.read_into.ensures.size, c.requires.whole.sized)
