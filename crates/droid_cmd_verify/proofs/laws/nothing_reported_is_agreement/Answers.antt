use Rattle.droid_cmd_verify.specs.declared.measure.Measure.TheVariants.{Hashes}
use Rattle.droid_cmd_verify.proofs.Sameness.{each_found, each_listed, nothing}
use Rattle.droid_cmd_verify.proofs.laws.nothing_reported_is_agreement.Goals as goal

pub returns-clause-listed : goal.returns-clause-listed
returns-clause-listed c = λ listed found differences pairs unreadable changes report files are.
    each_listed listed found differences pairs unreadable report files (nothing Hashes listed found differences pairs unreadable changes are)

pub returns-clause-found : goal.returns-clause-found
returns-clause-found c = λ listed found differences pairs unreadable changes report files are.
    each_found listed found differences pairs unreadable report files (nothing Hashes listed found differences pairs unreadable changes are)

pub returns-clause-unreadable : goal.returns-clause-unreadable
returns-clause-unreadable c = λ how listed found differences pairs unreadable changes are. (nothing how listed found differences pairs unreadable changes are).no_entry
