use Rattle.std.proofs.Common.{[], slice_index, slice_index_or, lit<}
use Rattle.droid_hash.specs.Tails.{IsJoined}
use Rattle.droid_hash.proofs.Eight.{of_element}
use Rattle.droid_hash.proofs.Four.{below_four}
use Rattle.droid_hash.proofs.four_tails.joined.Goals as goal

pub joined-requires : goal.joined-requires
joined-requires c = c.requires 0 (lit< tt)

pub joined-requires-2 : goal.joined-requires-2
joined-requires-2 c = c.requires 1 (lit< tt)

pub joined-requires-3 : goal.joined-requires-3
joined-requires-3 c = c.requires 2 (lit< tt)

pub joined-requires-4 : goal.joined-requires-4
joined-requires-4 c = c.requires 3 (lit< tt)

pub returns : goal.returns
returns c = below_four _
    (of_element (λ x. x.now) (λ p. IsJoined (slice_index_or c.args.blocks.now 0 []) (slice_index c.args.used 0) p c.joined.result) c.args.pieces 0 _ c.joined.ensures)
    (of_element (λ x. x.now) (λ p. IsJoined (slice_index_or c.args.blocks.now 1 []) (slice_index c.args.used 1) p c.joined-2.result) c.args.pieces 1 _ c.joined-2.ensures)
    (of_element (λ x. x.now) (λ p. IsJoined (slice_index_or c.args.blocks.now 2 []) (slice_index c.args.used 2) p c.joined-3.result) c.args.pieces 2 _ c.joined-3.ensures)
    (of_element (λ x. x.now) (λ p. IsJoined (slice_index_or c.args.blocks.now 3 []) (slice_index c.args.used 3) p c.joined-4.result) c.args.pieces 3 _ c.joined-4.ensures)
