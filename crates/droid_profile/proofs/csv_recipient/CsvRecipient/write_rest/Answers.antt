use Rattle.std.proofs.Common.{◌∙◌}
use Rattle.droid_profile.proofs.Takings.{list_stopped_after}
use Rattle.droid_profile.proofs.csv_recipient.CsvRecipient.write_rest.Goals as goal

pub returns-in-Err-write_list-clause-err : goal.returns-in-Err-write_list-clause-err
returns-in-Err-write_list-clause-err g c = (
  tt,
  record {
    breaks = list_stopped_after g.O.Write.contents g.O.SteadyWrite.seen g.M.Write.contents g.M.SteadyWrite.seen g.M.SteadyWrite.room c.args.self.now c.write_rows.new.self c.write_list.new.self
        c.in-Ok.ensures.ok c.in-Err-write_list.ensures.rows c.in-Err-write_list.ensures.err;
    emptied = c.in-Err-write_list.ensures.rows.1 ∙ c.in-Ok.ensures.emptied;
  },
)
