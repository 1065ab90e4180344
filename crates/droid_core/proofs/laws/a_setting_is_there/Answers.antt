use Rattle.std.specs.Prelude.{refl}
use Rattle.droid_pronom.proofs.FoundTests.{found_is}
use Rattle.droid_core.proofs.laws.a_setting_is_there.Goals as goal

pub returns : goal.returns
returns c limits registry = record {
  identifies = λ name bytes scan_limit match_all. found_is registry name bytes scan_limit match_all;
  exports = λ records filter hash. refl;
}
