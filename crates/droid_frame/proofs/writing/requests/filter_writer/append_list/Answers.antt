use Rattle.droid_frame.proofs.FilterSteps.{list_spelled}
use Rattle.droid_frame.proofs.writing.requests.filter_writer.append_list.Goals as goal

pub returns-clause-spelled : goal.returns-clause-spelled
returns-clause-spelled c = list_spelled c.append_texts.result c.args.texts.now c.requires c.append_texts.ensures.utf8
