use Rattle.std.proofs.Common.{fold, lit<, ap, ◌∙◌}
use Rattle.sha2.specs.Sha256.{compress}
use Rattle.droid_hash.specs.Lanes.{lane8}
use Rattle.droid_hash.specs.Sha256.{state_of}
use Rattle.droid_hash.proofs.Four.{below_four}
use Rattle.droid_hash.proofs.sha256_lanes.Sha256Lanes.digests.Goals as goal

pub returns : goal.returns
returns c = below_four _
    (λ m held. c.digest_of.ensures ∙ c.ending-a.ensures.ends m (lane8 0 c.take_runs.new.state) held
    (c.take_runs.ensures 0 (lit< tt) ∙ ap (fold compress (lane8 0 (state_of c.args.self.now))) c.blocks_of.ensures))
    (λ m held. c.digest_of-2.ensures ∙ c.ending-b.ensures.ends m (lane8 1 c.take_runs.new.state) held
    (c.take_runs.ensures 1 (lit< tt) ∙ ap (fold compress (lane8 1 (state_of c.args.self.now))) c.blocks_of-2.ensures))
    (λ m held. c.digest_of-3.ensures ∙ c.ending-c.ensures.ends m (lane8 2 c.take_runs.new.state) held
    (c.take_runs.ensures 2 (lit< tt) ∙ ap (fold compress (lane8 2 (state_of c.args.self.now))) c.blocks_of-3.ensures))
    (λ m held. c.digest_of-4.ensures ∙ c.ending-d.ensures.ends m (lane8 3 c.take_runs.new.state) held
    (c.take_runs.ensures 3 (lit< tt) ∙ ap (fold compress (lane8 3 (state_of c.args.self.now))) c.blocks_of-4.ensures))
