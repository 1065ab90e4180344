use Rattle.std.proofs.Common.{length, sym, ap}
use Rattle.std.proofs.Math.ListN.{get_or-map}
use Rattle.droid_hash.proofs.Four.{below_four}
use Rattle.droid_hash.proofs.four_tails.lens.Goals as goal

pub returns-clause-value : goal.returns-clause-value
returns-clause-value c = below_four _
    (ap (λ x. length x) (sym (get_or-map (λ x. x.now) c.args.pieces 0 _)))
    (ap (λ x. length x) (sym (get_or-map (λ x. x.now) c.args.pieces 1 _)))
    (ap (λ x. length x) (sym (get_or-map (λ x. x.now) c.args.pieces 2 _)))
    (ap (λ x. length x) (sym (get_or-map (λ x. x.now) c.args.pieces 3 _)))
