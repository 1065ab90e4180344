use Rattle.std.proofs.Common.{◌∙◌, ℕ, take, drop, ap}
use Rattle.droid_compaction.proofs.Wholes.{header_seen, header_there}
use Rattle.droid_compaction.proofs.whole.is_header.Goals as goal

pub returns-clause-header : goal.returns-clause-header
returns-clause-header g c = λ s here.
    let seen = c.in-Ok.ensures.read s here ∙ ap (λ (n : ℕ). take n (drop 0 s)) c.requires.room in (
      λ reported. header_there c.args.header.now s _ seen (c.is_same.ensures.0 reported),
      λ has. c.is_same.ensures.1 (header_seen c.args.header.now s _ seen has),
    )
