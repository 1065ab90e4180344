use Rattle.std.proofs.Common.{◌≡◌, length, rules}
use Rattle.droid_core.proofs.ShortRows.{entry_fits}
use Rattle.droid_core.proofs.replies.entry_of.Goals as goal

pub returns-clause-fits : goal.returns-clause-fits
returns-clause-fits c =
    let sixteen : length c.args.stamp.mark ≡ 16 = search rules in
    rw c.in_ok-body.ensures.spells.body_is (entry_fits c.args.stamp c.args.reply.now sixteen c.requires.spelling)
