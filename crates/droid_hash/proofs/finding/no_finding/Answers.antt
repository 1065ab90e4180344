use Rattle.std.proofs.Common.{false, [], ap}
use Rattle.droid_frame.specs.declared.hash_value.HashValue.{HashValue}
use Rattle.droid_frame.specs.declared.hash_value.HashValue.TheVariants as values
use Rattle.droid_frame.specs.declared.method.Method.TheVariants.{Unidentified}
use Rattle.droid_hash.proofs.finding.no_finding.Goals as goal

pub returns : goal.returns
returns c = ap (λ (d : HashValue). record { method = Unidentified; mismatch = false; hash = values.Nothing; formats = 0; puids = d }) (c.finish.ensures [] c.new.ensures)
