use Rattle.std.proofs.Common.{◌≡◌, ◌++◌, ◌*◌, ◌/◌, ◌%◌, [], length, drop, slice_index_or}
use Rattle.droid_hash.proofs.Eight.{below_eight, of_element}
use Rattle.droid_hash.proofs.eight_tails.kept.Goals as goal

pub returns : goal.returns
returns c = below_eight _
    (of_element (λ x. x.now) (λ r. c.kept.result ≡ drop (length r / 64 * 64) r ++ drop (length r % 64) (slice_index_or c.args.blocks.now 0 [])) c.args.rests 0 _ c.kept.ensures)
    (of_element (λ x. x.now) (λ r. c.kept-2.result ≡ drop (length r / 64 * 64) r ++ drop (length r % 64) (slice_index_or c.args.blocks.now 1 [])) c.args.rests 1 _ c.kept-2.ensures)
    (of_element (λ x. x.now) (λ r. c.kept-3.result ≡ drop (length r / 64 * 64) r ++ drop (length r % 64) (slice_index_or c.args.blocks.now 2 [])) c.args.rests 2 _ c.kept-3.ensures)
    (of_element (λ x. x.now) (λ r. c.kept-4.result ≡ drop (length r / 64 * 64) r ++ drop (length r % 64) (slice_index_or c.args.blocks.now 3 [])) c.args.rests 3 _ c.kept-4.ensures)
    (of_element (λ x. x.now) (λ r. c.kept-5.result ≡ drop (length r / 64 * 64) r ++ drop (length r % 64) (slice_index_or c.args.blocks.now 4 [])) c.args.rests 4 _ c.kept-5.ensures)
    (of_element (λ x. x.now) (λ r. c.kept-6.result ≡ drop (length r / 64 * 64) r ++ drop (length r % 64) (slice_index_or c.args.blocks.now 5 [])) c.args.rests 5 _ c.kept-6.ensures)
    (of_element (λ x. x.now) (λ r. c.kept-7.result ≡ drop (length r / 64 * 64) r ++ drop (length r % 64) (slice_index_or c.args.blocks.now 6 [])) c.args.rests 6 _ c.kept-7.ensures)
    (of_element (λ x. x.now) (λ r. c.kept-8.result ≡ drop (length r / 64 * 64) r ++ drop (length r % 64) (slice_index_or c.args.blocks.now 7 [])) c.args.rests 7 _ c.kept-8.ensures)
