-- Each way out.
use Rattle.std.proofs.Common.{refl}
use Rattle.droid_cmd_registry.specs.Runs.{Converted, NoConversion, NoFile}
use Rattle.droid_cmd_registry.proofs.command.convert_file.Goals as goal

pub returns-in-Err : goal.returns-in-Err
returns-in-Err g c = NoFile c.in-Err.why c.in-Err.ensures.none refl

pub returns-in-Ok-conversion_of : goal.returns-in-Ok-conversion_of
returns-in-Ok-conversion_of g c =
    Converted c.in-Ok.bytes.items c.in-Ok-conversion_of.conversion c.read_file.new.self c.in-Ok.ensures.got (rw c.as_slice.ensures.value at c.in-Ok-conversion_of.ensures) c.write_conversion.ensures

pub returns : goal.returns
returns g c = NoConversion c.in-Ok.bytes.items c.in-Ok.ensures.got (rw c.as_slice.ensures.value at c.in-Err-conversion_of.ensures)
