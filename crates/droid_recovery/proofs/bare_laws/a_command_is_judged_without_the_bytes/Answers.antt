use Rattle.droid_recovery.proofs.BareVerdicts.{command_so}
use Rattle.droid_recovery.proofs.bare_laws.a_command_is_judged_without_the_bytes.Goals as goal

pub returns : goal.returns
returns c setting bare world version request command plain = command_so setting bare world version request command plain
