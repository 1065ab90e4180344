use Rattle.std.proofs.Common.{◌+◌, ◌%◌, ◌^◌, length, slice_index, sym, ap}
use Rattle.std.proofs.Math.ListN.{get_or-map}
use Rattle.droid_hash.proofs.Four.{below_four}
use Rattle.droid_hash.proofs.four_tails.longer.Goals as goal

pub returns : goal.returns
returns c = below_four _
    (ap (λ x. (slice_index c.args.totals.now 0 + length x) % 2 ^ 64) (sym (get_or-map (λ x. x.now) c.args.pieces 0 _)))
    (ap (λ x. (slice_index c.args.totals.now 1 + length x) % 2 ^ 64) (sym (get_or-map (λ x. x.now) c.args.pieces 1 _)))
    (ap (λ x. (slice_index c.args.totals.now 2 + length x) % 2 ^ 64) (sym (get_or-map (λ x. x.now) c.args.pieces 2 _)))
    (ap (λ x. (slice_index c.args.totals.now 3 + length x) % 2 ^ 64) (sym (get_or-map (λ x. x.now) c.args.pieces 3 _)))
