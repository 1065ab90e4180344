use Rattle.std.proofs.Common.{ℕ, List, length, refl, ap, arith}
use Rattle.std.proofs.lemmas.Result.{on_err_weaker, on_ok_weaker}
use Rattle.droid_profile.proofs.Stopping.{breaks_on_err}
use Rattle.droid_profile.proofs.Takings.{list_goes-none}
use Rattle.droid_profile.proofs.csv_recipient.CsvRecipient.write_rows.Goals as goal

pub returns-clause-err : goal.returns-clause-err
returns-clause-err g c =
    let old = c.args.self.now in
    on_err_weaker c.write_to.result
    (λ stopped. record { registry = refl {a = old.registry.now}; csv = stopped; list = list_goes-none g.M.Write.contents g.M.SteadyWrite.seen old.manifest old.lines.items })
    (breaks_on_err g.O.Write.contents g.O.SteadyWrite.seen g.O.SteadyWrite.room c.write_to.result old.csv c.write_to.new.writer old.rows c.write_to.ensures.err c.write_to.ensures.stopped)

pub returns-clause-few : goal.returns-clause-few
returns-clause-few g c = on_ok_weaker c.write_to.result (λ none. omega (arith, ap (λ (l : List ℕ). length l) none)) c.write_to.ensures.emptied
