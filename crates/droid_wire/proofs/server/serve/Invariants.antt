-- The frames so far were handled, their replies were written, and both streams lasted.
use Rattle.std.proofs.Common.{◌≡◌, ◌*◌, ◌≤◌, None, IfSome}
use Rattle.droid_frame.specs.Seen.{IsSound}
use Rattle.droid_core.specs.Standing.{StandsFor, limits_of, registry_of}
use Rattle.droid_core_spec.specs.Histories.{History}
use Rattle.droid_core_spec.specs.Setting.{Setting}
use Rattle.droid_wire.specs.Turns.{ReadsFrame, WritesReply}
use Rattle.droid_wire.specs.Serving.{GoesOnFrom}
use Rattle.droid_frame.proofs.InTurn.{OverItems}
use Rattle.droid_wire.proofs.SoFar.{SoFar}
use Rattle.droid_wire.proofs.server.serve.Given as goal

abbrev pub invariant-loop : goal.invariant-loop
invariant-loop g l = record {
  so_far : (setting : Setting) (history : History) → StandsFor setting l.fn.service history → IfSome (g.R.Read.remaining l.fn.reader) (λ input.
      SoFar setting history input (g.R.Read.remaining l.reader) (g.W.Write.contents l.fn.writer) (g.W.Write.contents l.writer) l.service l.counter l.written);
  room : l.written ≤ l.counter * 1048658;
  within : l.counter ≤ l.fn.turns;
  reads : IsSound (g.R.SteadyRead.seen l.fn.reader) → OverItems g.R.SteadyRead.seen (ReadsFrame g.R.Read.remaining) l.fn.reader l.reader l.counter;
  writes : IsSound (g.W.SteadyWrite.seen l.fn.writer) → g.W.SteadyWrite.room l.fn.writer ≡ None →
      OverItems g.W.SteadyWrite.seen (WritesReply g.W.Write.contents) l.fn.writer l.writer l.counter × (g.W.SteadyWrite.room l.writer ≡ None);
  goes_on : (setting : Setting) (history : History) → StandsFor setting l.fn.service history → GoesOnFrom setting history l.counter l.service;
  limits : limits_of l.service ≡ limits_of l.fn.service;
  registry : registry_of l.service ≡ registry_of l.fn.service;
}
