use Rattle.std.proofs.Common.{◌≡◌, ◌≢◌, ◌+◌, [], ◌∷◌, length, slice_index, slice_index_or, lit<}
use Rattle.droid_hash.specs.Tails.{joining}
use Rattle.droid_hash.proofs.Eight.{of_element}
use Rattle.droid_hash.proofs.Four.{below_four}
use Rattle.droid_hash.proofs.four_tails.completed.Goals as goal

pub completed-requires : goal.completed-requires
completed-requires c = c.requires 0 (lit< tt)

pub completed-requires-2 : goal.completed-requires-2
completed-requires-2 c = c.requires 1 (lit< tt)

pub completed-requires-3 : goal.completed-requires-3
completed-requires-3 c = c.requires 2 (lit< tt)

pub completed-requires-4 : goal.completed-requires-4
completed-requires-4 c = c.requires 3 (lit< tt)

pub returns-clause-full : goal.returns-clause-full
returns-clause-full c = below_four _
    (of_element (λ x. x.now) (λ p. slice_index c.args.used 0 + joining (slice_index c.args.used 0) (length p) ≡ 64 → c.completed.result.now ≡ slice_index_or c.args.blocks.now 0 [] ∷ []) c.args.pieces 0 _ c.completed.ensures.full)
    (of_element (λ x. x.now) (λ p. slice_index c.args.used 1 + joining (slice_index c.args.used 1) (length p) ≡ 64 → c.completed-2.result.now ≡ slice_index_or c.args.blocks.now 1 [] ∷ []) c.args.pieces 1 _ c.completed-2.ensures.full)
    (of_element (λ x. x.now) (λ p. slice_index c.args.used 2 + joining (slice_index c.args.used 2) (length p) ≡ 64 → c.completed-3.result.now ≡ slice_index_or c.args.blocks.now 2 [] ∷ []) c.args.pieces 2 _ c.completed-3.ensures.full)
    (of_element (λ x. x.now) (λ p. slice_index c.args.used 3 + joining (slice_index c.args.used 3) (length p) ≡ 64 → c.completed-4.result.now ≡ slice_index_or c.args.blocks.now 3 [] ∷ []) c.args.pieces 3 _ c.completed-4.ensures.full)

pub returns-clause-none : goal.returns-clause-none
returns-clause-none c = below_four _
    (of_element (λ x. x.now) (λ p. slice_index c.args.used 0 + joining (slice_index c.args.used 0) (length p) ≢ 64 → c.completed.result.now ≡ []) c.args.pieces 0 _ c.completed.ensures.none)
    (of_element (λ x. x.now) (λ p. slice_index c.args.used 1 + joining (slice_index c.args.used 1) (length p) ≢ 64 → c.completed-2.result.now ≡ []) c.args.pieces 1 _ c.completed-2.ensures.none)
    (of_element (λ x. x.now) (λ p. slice_index c.args.used 2 + joining (slice_index c.args.used 2) (length p) ≢ 64 → c.completed-3.result.now ≡ []) c.args.pieces 2 _ c.completed-3.ensures.none)
    (of_element (λ x. x.now) (λ p. slice_index c.args.used 3 + joining (slice_index c.args.used 3) (length p) ≢ 64 → c.completed-4.result.now ≡ []) c.args.pieces 3 _ c.completed-4.ensures.none)
