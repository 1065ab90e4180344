use Rattle.droid_assembly.specs.Pieces.{file_bytes}
use Rattle.droid_assembly.specs.State.{count_of}
use Rattle.droid_core.proofs.Windows.{found_in_whole}
use Rattle.droid_core.proofs.unfinished.whole.find_in.Goals as goal

pub returns-clause-found : goal.returns-clause-found
returns-clause-found c = λ pieces stands size.
    found_in_whole c.identify.result c.args.registry.now c.args.name.now c.args.match_all (file_bytes (count_of c.args.file.now) pieces) c.args.file.now.scan_limit c.args.size c.windows-windows.result.first.now c.windows-windows.result.last.now size
    (c.windows-windows.ensures.first pieces stands) (c.windows-windows.ensures.last pieces stands) c.identify.ensures.found
