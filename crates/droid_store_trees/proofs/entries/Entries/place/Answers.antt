use Rattle.std.proofs.Common.{subst, sym}
use Rattle.sqlite_trees.specs.Probe.{IsCutBy, IsPlaceOf}
use Rattle.droid_store_trees.specs.Probe.{passes}
use Rattle.droid_store_trees.proofs.entries.Entries.place.Goals as goal

pub returns : goal.returns
returns c =
    let test = passes c.args.probe in
    subst (λ l. IsPlaceOf test l c.place.result) c.self.view_is (c.place.ensures.place (subst (IsCutBy test) (sym c.self.view_is) c.requires))
