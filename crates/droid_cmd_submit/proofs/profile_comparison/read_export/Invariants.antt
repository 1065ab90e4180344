use Rattle.std.proofs.Common.{◌≡◌, []}
use Rattle.droid_remote.specs.Calls.{Wherever}
use Rattle.droid_cmd_submit.specs.ProfileComparisons.{HasBegun}
use Rattle.droid_cmd_submit.proofs.profile_comparison.read_export.Given as goal

abbrev pub invariant-loop : goal.invariant-loop
invariant-loop g l = record {
  same : l.sender ≡ record l.fn.sender { in_flight = l.sender.in_flight };
  begun : l.fn.sender.in_flight.waiting.items ≡ [] → Wherever l.fn.sender.in_flight (λ known facts.
      HasBegun g.C.Connection.does l.fn.sender.client l.fn.sender.name l.profile known l.counter facts l.fn.sender.in_flight l.sender.in_flight);
}
