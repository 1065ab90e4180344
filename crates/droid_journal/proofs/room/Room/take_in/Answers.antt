use Rattle.std.proofs.Common.{◌∙◌, ◌++◌, ℕ, List, ap, arith}
use Rattle.droid_journal.proofs.room.Room.take_in.Goals as goal

pub put-requires : goal.put-requires
put-requires c = omega (arith, c.self.invariant, c.split_at.ensures.front_len, c.smaller_of-count.ensures)

pub invariant_of-self : goal.invariant_of-self
invariant_of-self c = omega (arith, c.self.invariant, c.put.ensures.len, c.put.ensures.capacity, c.split_at.ensures.front_len, c.smaller_of-count.ensures)

pub returns-clause-items : goal.returns-clause-items
returns-clause-items c = rw (← c.self.view_is) (c.put.ensures.items ∙ ap (λ (t : List ℕ). c.self.inside.bytes.items ++ t) c.split_at.ensures.front)
