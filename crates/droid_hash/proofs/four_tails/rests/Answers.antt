use Rattle.std.proofs.Common.{◌≡◌, length, drop, slice_index, lit<}
use Rattle.droid_hash.specs.Tails.{joining}
use Rattle.droid_hash.proofs.Eight.{of_element}
use Rattle.droid_hash.proofs.Four.{below_four}
use Rattle.droid_hash.proofs.four_tails.rests.Goals as goal

pub rest-requires : goal.rest-requires
rest-requires c = c.requires 0 (lit< tt)

pub rest-requires-2 : goal.rest-requires-2
rest-requires-2 c = c.requires 1 (lit< tt)

pub rest-requires-3 : goal.rest-requires-3
rest-requires-3 c = c.requires 2 (lit< tt)

pub rest-requires-4 : goal.rest-requires-4
rest-requires-4 c = c.requires 3 (lit< tt)

pub returns : goal.returns
returns c = below_four _
    (of_element (λ x. x.now) (λ p. c.rest.result.now ≡ drop (joining (slice_index c.args.used 0) (length p)) p) c.args.pieces 0 _ c.rest.ensures)
    (of_element (λ x. x.now) (λ p. c.rest-2.result.now ≡ drop (joining (slice_index c.args.used 1) (length p)) p) c.args.pieces 1 _ c.rest-2.ensures)
    (of_element (λ x. x.now) (λ p. c.rest-3.result.now ≡ drop (joining (slice_index c.args.used 2) (length p)) p) c.args.pieces 2 _ c.rest-3.ensures)
    (of_element (λ x. x.now) (λ p. c.rest-4.result.now ≡ drop (joining (slice_index c.args.used 3) (length p)) p) c.args.pieces 3 _ c.rest-4.ensures)
