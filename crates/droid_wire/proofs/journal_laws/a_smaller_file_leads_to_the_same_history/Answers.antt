use Rattle.droid_recovery.proofs.SmallerFiles.{smaller_file}
use Rattle.droid_recovery.specs.SmallerFiles.{bare_after}
use Rattle.droid_wire.proofs.SmallHistories.{each_leads}
use Rattle.droid_wire.proofs.journal_laws.a_smaller_file_leads_to_the_same_history.Goals as goal

pub returns : goal.returns
returns c = λ header new file bytes setting base its read history behind whole shorter found.
    let lead = each_leads setting base its history behind in
    (bare_after lead.0 its, smaller_file setting lead.0 its history header new file bytes read whole lead.1 shorter found)
