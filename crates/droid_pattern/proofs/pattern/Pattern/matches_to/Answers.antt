-- A match that ends with the bytes before this position.
use Rattle.std.proofs.lemmas.Result.{IfOk-weaker}
use Rattle.std.specs.Prelude.{take}
use Rattle.droid_pattern.proofs.PathLemmas.{ends_at}
use Rattle.droid_pattern.proofs.pattern.Pattern.matches_to.Goals as goal

-- nothing is cached yet
pub ends_with-requires : goal.ends_with-requires
ends_with-requires c = c.new-classes.ensures (take c.args.end c.args.bytes.now)

pub returns : goal.returns
returns c =
    let both = ends_at c.args.self.now c.args.bytes.now c.args.end c.requires in
    IfOk-weaker c.ends_with.result _ _ (λ found h. (λ t. both.0 (h.0 t), λ m. h.1 (both.1 m))) c.ends_with.ensures.found
