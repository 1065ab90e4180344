use Rattle.std.proofs.Common.{◌≡◌, ℕ, Some, refl, ap, arith}
use Rattle.droid_journal.proofs.room.RoomSteadyWrite.write_on.Goals as goal

pub returns-clause-adds : goal.returns-clause-adds
returns-clause-adds c = λ sound. record {
  taken = λ some. refl;
  nothing = λ none. refl;
  full = λ full. refl;
  failure = λ none some room.
      let full = c.take_in-count.ensures.full (omega (arith, none, some)) in
      let left : c.args.self.now.left ≡ 0 = omega (arith, c.take_in-count.ensures.left, full, none) in
      absurd (room (ap (λ (n : ℕ). Some n) left));
}
