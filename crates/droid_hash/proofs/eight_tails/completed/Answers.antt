use Rattle.std.proofs.Common.{◌≡◌, ◌≢◌, ◌+◌, [], ◌∷◌, length, slice_index, slice_index_or, lit<}
use Rattle.droid_hash.specs.Tails.{joining}
use Rattle.droid_hash.proofs.Eight.{below_eight, of_element}
use Rattle.droid_hash.proofs.eight_tails.completed.Goals as goal

pub completed-requires : goal.completed-requires
completed-requires c = c.requires 0 (lit< tt)

pub completed-requires-2 : goal.completed-requires-2
completed-requires-2 c = c.requires 1 (lit< tt)

pub completed-requires-3 : goal.completed-requires-3
completed-requires-3 c = c.requires 2 (lit< tt)

pub completed-requires-4 : goal.completed-requires-4
completed-requires-4 c = c.requires 3 (lit< tt)

pub completed-requires-5 : goal.completed-requires-5
completed-requires-5 c = c.requires 4 (lit< tt)

pub completed-requires-6 : goal.completed-requires-6
completed-requires-6 c = c.requires 5 (lit< tt)

pub completed-requires-7 : goal.completed-requires-7
completed-requires-7 c = c.requires 6 (lit< tt)

pub completed-requires-8 : goal.completed-requires-8
completed-requires-8 c = c.requires 7 (lit< tt)

pub returns-clause-full : goal.returns-clause-full
returns-clause-full c = below_eight _
    (of_element (λ x. x.now) (λ p. slice_index c.args.used 0 + joining (slice_index c.args.used 0) (length p) ≡ 64 → c.completed.result.now ≡ slice_index_or c.args.blocks.now 0 [] ∷ []) c.args.pieces 0 _ c.completed.ensures.full)
    (of_element (λ x. x.now) (λ p. slice_index c.args.used 1 + joining (slice_index c.args.used 1) (length p) ≡ 64 → c.completed-2.result.now ≡ slice_index_or c.args.blocks.now 1 [] ∷ []) c.args.pieces 1 _ c.completed-2.ensures.full)
    (of_element (λ x. x.now) (λ p. slice_index c.args.used 2 + joining (slice_index c.args.used 2) (length p) ≡ 64 → c.completed-3.result.now ≡ slice_index_or c.args.blocks.now 2 [] ∷ []) c.args.pieces 2 _ c.completed-3.ensures.full)
    (of_element (λ x. x.now) (λ p. slice_index c.args.used 3 + joining (slice_index c.args.used 3) (length p) ≡ 64 → c.completed-4.result.now ≡ slice_index_or c.args.blocks.now 3 [] ∷ []) c.args.pieces 3 _ c.completed-4.ensures.full)
    (of_element (λ x. x.now) (λ p. slice_index c.args.used 4 + joining (slice_index c.args.used 4) (length p) ≡ 64 → c.completed-5.result.now ≡ slice_index_or c.args.blocks.now 4 [] ∷ []) c.args.pieces 4 _ c.completed-5.ensures.full)
    (of_element (λ x. x.now) (λ p. slice_index c.args.used 5 + joining (slice_index c.args.used 5) (length p) ≡ 64 → c.completed-6.result.now ≡ slice_index_or c.args.blocks.now 5 [] ∷ []) c.args.pieces 5 _ c.completed-6.ensures.full)
    (of_element (λ x. x.now) (λ p. slice_index c.args.used 6 + joining (slice_index c.args.used 6) (length p) ≡ 64 → c.completed-7.result.now ≡ slice_index_or c.args.blocks.now 6 [] ∷ []) c.args.pieces 6 _ c.completed-7.ensures.full)
    (of_element (λ x. x.now) (λ p. slice_index c.args.used 7 + joining (slice_index c.args.used 7) (length p) ≡ 64 → c.completed-8.result.now ≡ slice_index_or c.args.blocks.now 7 [] ∷ []) c.args.pieces 7 _ c.completed-8.ensures.full)

pub returns-clause-none : goal.returns-clause-none
returns-clause-none c = below_eight _
    (of_element (λ x. x.now) (λ p. slice_index c.args.used 0 + joining (slice_index c.args.used 0) (length p) ≢ 64 → c.completed.result.now ≡ []) c.args.pieces 0 _ c.completed.ensures.none)
    (of_element (λ x. x.now) (λ p. slice_index c.args.used 1 + joining (slice_index c.args.used 1) (length p) ≢ 64 → c.completed-2.result.now ≡ []) c.args.pieces 1 _ c.completed-2.ensures.none)
    (of_element (λ x. x.now) (λ p. slice_index c.args.used 2 + joining (slice_index c.args.used 2) (length p) ≢ 64 → c.completed-3.result.now ≡ []) c.args.pieces 2 _ c.completed-3.ensures.none)
    (of_element (λ x. x.now) (λ p. slice_index c.args.used 3 + joining (slice_index c.args.used 3) (length p) ≢ 64 → c.completed-4.result.now ≡ []) c.args.pieces 3 _ c.completed-4.ensures.none)
    (of_element (λ x. x.now) (λ p. slice_index c.args.used 4 + joining (slice_index c.args.used 4) (length p) ≢ 64 → c.completed-5.result.now ≡ []) c.args.pieces 4 _ c.completed-5.ensures.none)
    (of_element (λ x. x.now) (λ p. slice_index c.args.used 5 + joining (slice_index c.args.used 5) (length p) ≢ 64 → c.completed-6.result.now ≡ []) c.args.pieces 5 _ c.completed-6.ensures.none)
    (of_element (λ x. x.now) (λ p. slice_index c.args.used 6 + joining (slice_index c.args.used 6) (length p) ≢ 64 → c.completed-7.result.now ≡ []) c.args.pieces 6 _ c.completed-7.ensures.none)
    (of_element (λ x. x.now) (λ p. slice_index c.args.used 7 + joining (slice_index c.args.used 7) (length p) ≢ 64 → c.completed-8.result.now ≡ []) c.args.pieces 7 _ c.completed-8.ensures.none)
