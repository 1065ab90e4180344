use Rattle.std.proofs.Common.{refl, ap, ◌∙◌}
use Rattle.droid_core.specs.Files.{open_at}
use Rattle.droid_core.proofs.Keeping.{kept_removed}
use Rattle.droid_core.proofs.FilesLookedUp.{none_removed, others_removed}
use Rattle.droid_core.proofs.unfinished.files.UnfinishedFiles.remove.Goals as goal

pub invariant_of-self : goal.invariant_of-self
invariant_of-self c =
    kept_removed c.self.inside (record { files = c.remove.new.self; limit = c.self.inside.limit }) c.self.invariant c.args.place c.remove.ensures.items refl c.remove.ensures.len c.remove.ensures.capacity

pub returns-clause-gone : goal.returns-clause-gone
returns-clause-gone c =
    rw (← c.self.view_is) (λ file here. ap (open_at file.profile file.file) c.remove.ensures.items ∙ none_removed c.self.inside.files.items c.self.invariant.distinct c.args.place file here)

pub returns-clause-others : goal.returns-clause-others
returns-clause-others c =
    rw (← c.self.view_is) (λ file profile number here other. ap (open_at profile number) c.remove.ensures.items ∙ others_removed profile number c.self.inside.files.items c.args.place file here other)
