use Rattle.std.proofs.Common.{refl}
use Rattle.droid_turns.specs.Halls.{ClosesSome, Stops}
use Rattle.droid_turns.specs.declared.departure.Departure.TheVariants as departures
use Rattle.droid_turns.proofs.Moments.{moves_as}
use Rattle.droid_turns.proofs.HallSteps.{stops_all}
use Rattle.droid_turns.proofs.hall.Hall.stop.Goals as goal

pub returns : goal.returns
returns g c =
    let old = c.args.self.now in
    let new = record old { waiting = c.close_all.new.peers } in
    record {
      moves = λ rules. moves_as g.C.Connections.does c.args.connections.now c.close_all.new.connections (ClosesSome departures.Stopped old.waiting.items new.waiting.items) (Stops rules old new)
          (λ steps closes. stops_all rules old new steps c.requires.first c.close_all.ensures.none refl refl closes) c.close_all.ensures.moves;
    }
