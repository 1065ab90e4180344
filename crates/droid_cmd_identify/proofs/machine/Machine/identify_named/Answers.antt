use Rattle.std.proofs.Common.{inl, inr}
use Rattle.droid_cmd_identify.specs.Telling.{written}
use Rattle.droid_cmd_identify.proofs.machine.Machine.identify_named.Goals as goal

-- what is kept is written behind what was said
pub returns : goal.returns
returns g c = elim c.in_ok-identify_what.ensures [ inl says ↦ inl (written says c.in_ok-flush.ensures) | inr recursive ↦ inr recursive ]
