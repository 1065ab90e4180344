use Rattle.droid_core_spec.proofs.Replied.{answer_no_memory_fault, answer_no_store}
use Rattle.droid_core_spec.proofs.laws.answers_are_no_memory_faults.Goals as goal

pub returns-clause-memory : goal.returns-clause-memory
returns-clause-memory c = answer_no_memory_fault

pub returns-clause-store : goal.returns-clause-store
returns-clause-store c = answer_no_store
