use Rattle.std.proofs.Common.{Ok, Err}
use Rattle.droid_report.proofs.Verifying.{own_paths, refuses, taken}
use Rattle.droid_report.proofs.report.read_report.Goals as goal

pub returns-in-Ok-count_rows : goal.returns-in-Ok-count_rows
returns-in-Ok-count_rows c = λ records are.
    let seen = c.in-Ok.ensures records are in
    let counted = c.in-Ok-count_rows.ensures records are in (
      counted.0,
      record { rows = taken records seen.0 (Ok counted.0) seen.1 counted.1; paths = own_paths records seen.0 seen.1 seen.2 },
      counted.2,
    )

pub returns-in-Err-count_rows : goal.returns-in-Err-count_rows
returns-in-Err-count_rows c = λ records are some.
    let seen = c.in-Ok.ensures records are in
    record { rows = taken records seen.0 (Err c.in-Err-count_rows.fault) seen.1 (c.in-Err-count_rows.ensures records are some); paths = own_paths records seen.0 seen.1 seen.2 }

pub returns-in-Err : goal.returns-in-Err
returns-in-Err c = λ records are. refuses records c.in-Err.fault (c.in-Err.ensures records are)
