-- A run on this machine.
use Rattle.droid_cmd_registry.proofs.MachineRuns.{runs}
use Rattle.droid_cmd_registry.proofs.command.registry_command.Goals as goal

pub returns : goal.returns
returns g c = runs c.args.quiet c.convert_file.result _ _ c.convert_file.ensures
