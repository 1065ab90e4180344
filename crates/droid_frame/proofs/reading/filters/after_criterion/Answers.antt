use Rattle.std.proofs.Common.{sym, ◌∙◌}
use Rattle.droid_frame.proofs.FilterSteps.{rest_of_puid_in, rest_of_ext_in}
use Rattle.droid_frame.proofs.reading.filters.after_criterion.Goals as goal

pub returns-in-2 : goal.returns-in-2
returns-in-2 c = c.after_list.ensures ∙ sym (rest_of_puid_in c.args.bytes.now c.in_ok-tag.rest.now c.in_ok-tag.tag (sym c.in_ok-tag.ensures) c.in-2.is)

pub returns-in-3 : goal.returns-in-3
returns-in-3 c = c.after_list-in-3.ensures ∙ sym (rest_of_ext_in c.args.bytes.now c.in_ok-tag.rest.now c.in_ok-tag.tag (sym c.in_ok-tag.ensures) c.in-3.is)
