use Rattle.std.proofs.Common.{fold, lit<, ap, ◌∙◌}
use Rattle.md5.specs.Md5.{compress}
use Rattle.droid_hash.specs.Lanes.{lane}
use Rattle.droid_hash.specs.Md5.{state_of}
use Rattle.droid_hash.proofs.Eight.{below_eight}
use Rattle.droid_hash.proofs.md5_lanes.Md5Lanes.digests.Goals as goal

pub returns : goal.returns
returns c = below_eight _
    (λ m held. c.digest_of.ensures ∙ c.ending-a.ensures.ends m (lane 0 c.take_runs.new.state) held
    (c.take_runs.ensures 0 (lit< tt) ∙ ap (fold compress (lane 0 (state_of c.args.self.now))) c.blocks_of.ensures))
    (λ m held. c.digest_of-2.ensures ∙ c.ending-b.ensures.ends m (lane 1 c.take_runs.new.state) held
    (c.take_runs.ensures 1 (lit< tt) ∙ ap (fold compress (lane 1 (state_of c.args.self.now))) c.blocks_of-2.ensures))
    (λ m held. c.digest_of-3.ensures ∙ c.ending-c.ensures.ends m (lane 2 c.take_runs.new.state) held
    (c.take_runs.ensures 2 (lit< tt) ∙ ap (fold compress (lane 2 (state_of c.args.self.now))) c.blocks_of-3.ensures))
    (λ m held. c.digest_of-4.ensures ∙ c.ending-d.ensures.ends m (lane 3 c.take_runs.new.state) held
    (c.take_runs.ensures 3 (lit< tt) ∙ ap (fold compress (lane 3 (state_of c.args.self.now))) c.blocks_of-4.ensures))
    (λ m held. c.digest_of-5.ensures ∙ c.ending-e.ensures.ends m (lane 4 c.take_runs.new.state) held
    (c.take_runs.ensures 4 (lit< tt) ∙ ap (fold compress (lane 4 (state_of c.args.self.now))) c.blocks_of-5.ensures))
    (λ m held. c.digest_of-6.ensures ∙ c.ending-f.ensures.ends m (lane 5 c.take_runs.new.state) held
    (c.take_runs.ensures 5 (lit< tt) ∙ ap (fold compress (lane 5 (state_of c.args.self.now))) c.blocks_of-6.ensures))
    (λ m held. c.digest_of-7.ensures ∙ c.ending-g.ensures.ends m (lane 6 c.take_runs.new.state) held
    (c.take_runs.ensures 6 (lit< tt) ∙ ap (fold compress (lane 6 (state_of c.args.self.now))) c.blocks_of-7.ensures))
    (λ m held. c.digest_of-8.ensures ∙ c.ending-h.ensures.ends m (lane 7 c.take_runs.new.state) held
    (c.take_runs.ensures 7 (lit< tt) ∙ ap (fold compress (lane 7 (state_of c.args.self.now))) c.blocks_of-8.ensures))
