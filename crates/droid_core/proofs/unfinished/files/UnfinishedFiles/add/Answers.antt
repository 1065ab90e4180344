use Rattle.std.proofs.Common.{◌≡◌, ◌++◌, ◌∷◌, [], cond, is_ok, refl, ap, ◌∙◌, rules}
use Rattle.droid_core.specs.Files.{OpenFile}
use Rattle.droid_core.proofs.Keeping.{kept_added}
use Rattle.droid_core.proofs.unfinished.files.UnfinishedFiles.add.Goals as goal

pub invariant_of-self : goal.invariant_of-self
invariant_of-self c =
    let before = c.self.inside.files.items in
    let added : OpenFile = record { profile = c.args.profile; file = c.args.file; assembly = c.args.assembly } in
    let items : c.push.new.self.items ≡ before ++ added ∷ [] = c.push.ensures.items ∙ ap (λ result. cond (is_ok result) (before ++ added ∷ []) before) c.unwrap.ensures in
    kept_added c.self.inside (record { files = c.push.new.self; limit = c.self.inside.limit }) c.self.invariant added items refl (search rules) (search rules) (rw (← c.self.view_is) at c.requires.fresh) c.requires.narrow
