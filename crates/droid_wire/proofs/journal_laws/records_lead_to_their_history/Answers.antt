use Rattle.droid_wire.proofs.SmallHistories.{each_leads, still_lead, whole_lead}
use Rattle.droid_wire.proofs.journal_laws.records_lead_to_their_history.Goals as goal

pub returns-clause-whole : goal.returns-clause-whole
returns-clause-whole c = whole_lead

pub returns-clause-behind : goal.returns-clause-behind
returns-clause-behind c = still_lead

pub returns-clause-each : goal.returns-clause-each
returns-clause-each c = each_leads
