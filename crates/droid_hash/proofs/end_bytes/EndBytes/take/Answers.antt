use Rattle.std.proofs.Common.{ℕ, List, ◌++◌, take, drop, ap, ◌∙◌, arith}
use Rattle.droid_hash.specs.Ends.{Came}
use Rattle.droid_hash.proofs.Growing.{more_came}
use Rattle.droid_hash.proofs.end_bytes.EndBytes.take.Goals as goal

pub append-requires : goal.append-requires
append-requires c =
    let room = c.self.invariant in
    omega (arith, room.first_room, room.first_len, c.front-early.ensures.len, c.within-2.ensures, c.saturating_sub-first_left.ensures, c.width_of-width.ensures)

pub append-requires-2 : goal.append-requires-2
append-requires-2 c =
    let room = c.self.invariant in
    omega (arith, room.last_room, room.last_len, room.counted, c.rest-late.ensures.len, c.within-3.ensures, c.saturating_sub-last_left.ensures, c.width_of-width.ensures, c.front-fresh.ensures.len, c.within.ensures)

pub invariant_of-self : goal.invariant_of-self
invariant_of-self c =
    let room = c.self.invariant in
    record {
      first_room = omega (arith, room.first_room, c.append.ensures.capacity);
      last_room = omega (arith, room.last_room, c.append-2.ensures.capacity);
      counted = omega (arith, room.counted, c.front-fresh.ensures.len, c.within.ensures);
      first_len = omega (arith, room.first_len, c.append.ensures.len, c.front-early.ensures.len, c.within-2.ensures, c.saturating_sub-first_left.ensures, c.width_of-width.ensures);
      last_len = omega (arith, room.last_len, room.counted, c.append-2.ensures.len, c.rest-late.ensures.len, c.within-3.ensures, c.saturating_sub-last_left.ensures, c.width_of-width.ensures);
    }

pub returns-clause-came : goal.returns-clause-came
unfolding Came
returns-clause-came c = rw (← c.self.view_is) (λ bytes ends.
    let kept = c.self.inside in
    let fresh = c.front-fresh.ensures in
    more_came kept.limit kept.size kept.count kept.first.items kept.last.items bytes c.args.piece.now
    c.within.result c.within-2.result c.within-3.result _ _ _ ends c.within.ensures
    (omega (arith, c.within-2.ensures, c.saturating_sub-first_left.ensures, c.width_of-width.ensures, fresh.len, c.within.ensures))
    (omega (arith, c.within-3.ensures, c.saturating_sub-last_left.ensures, c.width_of-width.ensures, fresh.len, c.within.ensures))
    (omega (arith, fresh.len, c.within.ensures))
    (c.append.ensures.items ∙ ap (λ (x : List ℕ). kept.first.items ++ x) (c.front-early.ensures.value ∙ ap (take c.within-2.result) fresh.value))
    (c.append-2.ensures.items ∙ ap (λ (x : List ℕ). kept.last.items ++ x) (c.rest-late.ensures.value ∙ ap (drop c.within-3.result) fresh.value)))
