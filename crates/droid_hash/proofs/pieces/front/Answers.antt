use Rattle.std.proofs.Common.{ℕ, take, ap, ◌∙◌}
use Rattle.std.proofs.lemmas.List.{take_min}
use Rattle.droid_hash.proofs.pieces.front.Goals as goal

pub returns-clause-value : goal.returns-clause-value
returns-clause-value c = ap (λ (n : ℕ). take n c.args.piece.now) c.min.ensures ∙ take_min c.args.count c.args.piece.now
