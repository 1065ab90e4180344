use Rattle.std.proofs.Common.{ℕ, List, length, ap, arith}
use Rattle.std.proofs.lemmas.Result.{on_ok_weaker}
use Rattle.droid_profile.proofs.Stopping.{breaks_on_err}
use Rattle.droid_profile.proofs.csv_recipient.CsvRecipient.write_list.Goals as goal

pub returns-in-Some-clause-err : goal.returns-in-Some-clause-err
returns-in-Some-clause-err g c =
    let old = c.args.self.now in
    rw c.in-Some.is (breaks_on_err g.M.Write.contents g.M.SteadyWrite.seen g.M.SteadyWrite.room c.write_lines.result c.in-Some.writer c.write_lines.new.writer old.lines.items c.write_lines.ensures.err c.write_lines.ensures.stopped)

pub returns-in-Some-clause-few : goal.returns-in-Some-clause-few
returns-in-Some-clause-few g c = on_ok_weaker c.write_lines.result (λ none. omega (arith, ap (λ (l : List ℕ). length l) none)) c.write_lines.ensures.emptied
