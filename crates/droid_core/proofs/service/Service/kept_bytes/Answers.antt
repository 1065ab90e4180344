use Rattle.droid_core_spec.specs.Histories.{world_of}
use Rattle.droid_core.proofs.SmallFiles.{bounded_there}
use Rattle.droid_core.proofs.service.Service.kept_bytes.Goals as goal

pub returns-clause-of_version_1 : goal.returns-clause-of_version_1
returns-clause-of_version_1 c = λ setting history stands small.
    bounded_there (world_of setting history) c.args.self.now.holdings.files c.args.profile c.args.file c.in_ok-place.place c.kept_bytes.result 16908288 stands.holdings.world.files c.in_ok-place.ensures.within
    c.in_ok-place.ensures.place c.kept_bytes.ensures.most_of_small small
