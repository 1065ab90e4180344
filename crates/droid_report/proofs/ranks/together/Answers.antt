use Rattle.std.proofs.Common.{◌∙◌, [], get_or, ap}
use Rattle.droid_report.specs.Ranks.{with_group}
use Rattle.droid_report.specs.declared.ranks.Group.{Group}
use Rattle.droid_report.specs.declared.ranks.GroupsTotal.{GroupsTotal}
use Rattle.droid_report.proofs.Totalling.{together_more}
use Rattle.droid_report.proofs.ranks.together.Goals as goal

-- what stands past the last group
abbrev past : Group
past = record { key = record { ref_ptr = (0, 0); now = [] }; label = record { ref_ptr = (0, 0); now = [] }; count = 0; bytes = 0; saved = 0 }

pub loop-group-preserved : goal.loop-group-preserved
loop-group-preserved c =
    c.with_group-sum.ensures
    ∙ (ap (λ (sum : GroupsTotal). with_group sum (get_or c.args.groups.now c.loop-group.group-index past)) c.loop-group.invariant
    ∙ together_more c.args.groups.now c.loop-group.group-index past c.loop-group-test.true)
