use Rattle.droid_lists.proofs.TextSteps.{all_wrong}
use Rattle.droid_lists.proofs.spelling.profile_text.read_text.Goals as goal

pub returns-in-Ok-clause-wrong : goal.returns-in-Ok-clause-wrong
returns-in-Ok-clause-wrong c =
    all_wrong c.args.hash c.args.text.now c.in-Ok.rest.now c.read_entries.result (rw c.in-Ok.is at c.in_ok-names.ensures) c.read_entries.ensures.wrong
