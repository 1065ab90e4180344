use Rattle.std.proofs.Common.{◌≡◌, ◌+◌, ◌*◌, ◌≤◌, min, [], length}
use Rattle.droid_remote.specs.Calls.{Wherever}
use Rattle.droid_remote.specs.Exports.{ExportsFront}
use Rattle.droid_remote.proofs.remote_export.download.Given as goal

abbrev pub invariant-loop : goal.invariant-loop
invariant-loop g l = record {
  same : l.sender ≡ record l.fn.sender { in_flight = l.sender.in_flight };
  place : l.from ≡ min l.first.total ((l.counter + 1) * 1048576);
  within : l.first.total ≤ 1073741824;
  long : length l.text.items ≡ length l.fn.text.items + l.from;
  front : l.fn.sender.in_flight.waiting.items ≡ [] → Wherever l.fn.sender.in_flight (λ known facts.
      ExportsFront l.fn.sender.client l.fn.sender.name l.profile g.C.Connection.does l.first.as_of l.first.total l.from known facts l.fn.sender.in_flight l.sender.in_flight l.fn.text.items l.text.items);
}
