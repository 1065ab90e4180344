use Rattle.std.proofs.Common.{◌≡◌, ◌++◌, ◌*◌, ◌/◌, ◌%◌, [], length, drop, slice_index_or}
use Rattle.droid_hash.proofs.Eight.{of_element}
use Rattle.droid_hash.proofs.Four.{below_four}
use Rattle.droid_hash.proofs.four_tails.kept.Goals as goal

pub returns : goal.returns
returns c = below_four _
    (of_element (λ x. x.now) (λ r. c.kept.result ≡ drop (length r / 64 * 64) r ++ drop (length r % 64) (slice_index_or c.args.blocks.now 0 [])) c.args.rests 0 _ c.kept.ensures)
    (of_element (λ x. x.now) (λ r. c.kept-2.result ≡ drop (length r / 64 * 64) r ++ drop (length r % 64) (slice_index_or c.args.blocks.now 1 [])) c.args.rests 1 _ c.kept-2.ensures)
    (of_element (λ x. x.now) (λ r. c.kept-3.result ≡ drop (length r / 64 * 64) r ++ drop (length r % 64) (slice_index_or c.args.blocks.now 2 [])) c.args.rests 2 _ c.kept-3.ensures)
    (of_element (λ x. x.now) (λ r. c.kept-4.result ≡ drop (length r / 64 * 64) r ++ drop (length r % 64) (slice_index_or c.args.blocks.now 3 [])) c.args.rests 3 _ c.kept-4.ensures)
