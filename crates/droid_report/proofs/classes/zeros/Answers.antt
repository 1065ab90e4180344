use Rattle.std.proofs.Common.{◌∙◌, ◌+◌, ℕ, replicate, ap, rules}
use Rattle.std.proofs.lemmas.Result.{IfOk-weaker}
use Rattle.droid_report.specs.Classes.{no_files}
use Rattle.droid_report.proofs.classes.zeros.Goals as goal

pub returns : goal.returns
unfolding no_files
returns c =
    IfOk-weaker c.vec.result _ _ (λ table h. h (λ y e. search rules) ∙ ap (λ (n : ℕ). replicate (n + 1) 0) c.last_class.ensures) c.vec.ensures.items_if_clones_equal
