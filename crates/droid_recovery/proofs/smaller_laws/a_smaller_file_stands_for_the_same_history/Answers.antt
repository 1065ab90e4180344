use Rattle.droid_core_spec.specs.Histories.{world_of}
use Rattle.droid_recovery.proofs.EndedFiles.{have_ended}
use Rattle.droid_recovery.proofs.SmallerFiles.{smaller_file}
use Rattle.droid_recovery.proofs.smaller_laws.a_smaller_file_stands_for_the_same_history.Goals as goal

pub returns-clause-same : goal.returns-clause-same
returns-clause-same c = λ header new file bytes setting bare its read history whole stand is found. smaller_file setting bare its history header new file bytes read whole stand is found

pub returns-clause-service : goal.returns-clause-service
returns-clause-service c = λ setting bare its history stand. (stand.have, have_ended bare (world_of setting history) stand.ended)

pub returns-clause-whole : goal.returns-clause-whole
returns-clause-whole c = λ setting its history have. record { have = have; ended = λ profile file is. absurd cc }
