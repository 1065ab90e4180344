use Rattle.std.proofs.Common.{List, ℕ, fold, ap, ◌∙◌}
use Rattle.sha2.specs.Sha256.{compress}
use Rattle.droid_hash.specs.Lanes.{lane8}
use Rattle.droid_hash.specs.Sha256.{state_of}
use Rattle.droid_hash.proofs.sha256_lanes.Sha256Lanes.end.Goals as goal

pub returns-clause-digest : goal.returns-clause-digest
returns-clause-digest c = λ m held.
    let old : List ℕ = lane8 c.args.index (state_of c.args.self.now) in
    c.bytes_of-digest.ensures ∙ c.ending-ending.ensures.ends m c.take_blocks.new.state held
    (c.take_blocks.ensures ∙ ap (λ v. fold compress v c.blocks_of.result.now) c.variables-v.ensures
    ∙ ap (fold compress old) c.blocks_of.ensures)
