use Rattle.std.proofs.Common.{List, ℕ, fold, ap, ◌∙◌}
use Rattle.md5.specs.Md5.{compress}
use Rattle.droid_hash.specs.Lanes.{lane}
use Rattle.droid_hash.specs.Md5.{state_of}
use Rattle.droid_hash.proofs.md5_lanes.Md5Lanes.end.Goals as goal

pub returns-clause-digest : goal.returns-clause-digest
returns-clause-digest c = λ m held.
    let old : List ℕ = lane c.args.index (state_of c.args.self.now) in
    c.bytes_of-digest.ensures ∙ c.ending-ending.ensures.ends m c.take_blocks.new.state held
    (c.take_blocks.ensures ∙ ap (λ v. fold compress v c.blocks_of.result.now) c.variables-v.ensures
    ∙ ap (fold compress old) c.blocks_of.ensures)
