use Rattle.std.proofs.Common.{◌≤◌, List, ℕ, length, sym, subst}
use Rattle.std.specs.List.{AllByRecursion}
use Rattle.droid_frame.specs.Replies.{IsPuidText}
use Rattle.droid_core.proofs.PuidTexts.{are_texts}
use Rattle.droid_core.proofs.commands.completion.finished_reply.Goals as goal

pub returns-clause-spelled : goal.returns-clause-spelled
returns-clause-spelled c = λ version hash. (
  hash,
  subst (λ (all : List (List ℕ)). length all ≤ 4096) (sym c.in_ok-puids.ensures) c.requires.well_formed.few,
  subst (λ (all : List (List ℕ)). AllByRecursion IsPuidText all) (sym c.in_ok-puids.ensures) (are_texts c.args.finding.now.found.puids c.requires.well_formed.puids),
)
