use Rattle.std.proofs.Common.{ℕ, List, [], length, ap, arith}
use Rattle.std.proofs.lemmas.Result.{on_ok_weaker}
use Rattle.droid_profile.proofs.Takings.{on-list_stopped, on-more}
use Rattle.droid_profile.proofs.csv_recipient.CsvRecipient.write_full.Goals as goal

pub returns-clause-ok : goal.returns-clause-ok
returns-clause-ok g c =
    on_ok_weaker c.write_full_lines.result
    (λ more. on-more g.O.Write.contents g.O.SteadyWrite.seen g.M.Write.contents g.M.SteadyWrite.seen c.args.self.now c.write_full_rows.new.self c.write_full_lines.new.self [] [] [] [] c.in_ok-write_full_rows.ensures.ok more)
    c.write_full_lines.ensures.ok

pub returns-clause-err : goal.returns-clause-err
returns-clause-err g c =
    on-list_stopped g.O.Write.contents g.O.SteadyWrite.seen g.M.Write.contents g.M.SteadyWrite.seen g.O.SteadyWrite.room g.M.SteadyWrite.room c.args.self.now c.write_full_rows.new.self c.write_full_lines.new.self c.write_full_lines.result
    c.in_ok-write_full_rows.ensures.ok c.write_full_lines.ensures.err c.write_full_lines.ensures.flag

pub returns-clause-few : goal.returns-clause-few
returns-clause-few g c =
    on_ok_weaker c.write_full_lines.result
    (λ few. record { rows = omega (arith, ap (λ (l : List ℕ). length l) c.write_full_lines.ensures.rows, c.in_ok-write_full_rows.ensures.few); lines = few })
    c.write_full_lines.ensures.few
