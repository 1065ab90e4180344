-- Each way out.
use Rattle.std.proofs.Common.{refl}
use Rattle.droid_cmd_registry.specs.Runs.{All, NoNote, NoRegistry}
use Rattle.droid_cmd_registry.proofs.command.write_conversion.Goals as goal

pub returns-in-Err : goal.returns-in-Err
returns-in-Err g c = NoRegistry c.in-Err.why (rw c.as_slice.ensures.value at c.in-Err.ensures.none) refl

pub returns-in-Err-put : goal.returns-in-Err-put
returns-in-Err-put g c =
    NoNote c.in-Err-put.why c.put.new.self (rw c.as_slice.ensures.value at c.in-Ok.ensures.put) (rw c.as_bytes.ensures.value at c.in-Err-put.ensures.none) refl

pub returns : goal.returns
returns g c =
    All c.put.new.self c.put-2.new.self (rw c.as_slice.ensures.value at c.in-Ok.ensures.put) (rw c.as_bytes.ensures.value at c.in-Ok-put.ensures.put)
    (rw c.as_str.ensures.value at c.report.ensures) c.ending_of.ensures
