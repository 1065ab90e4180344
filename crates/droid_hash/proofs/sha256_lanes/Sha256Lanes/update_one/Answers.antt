use Rattle.std.proofs.Common.{ℕ, List, [], ◌<◌, fold, length, slice_index, slice_index_or, ◌∙◌, ap, arith}
use Rattle.std.proofs.lemmas.List.{get_or-set_same, get_or-set_other}
use Rattle.sha2.specs.Sha256.{compress}
use Rattle.droid_hash.specs.Lanes.{lane8}
use Rattle.droid_hash.specs.Sha256.{Holds, state_of}
use Rattle.droid_hash.proofs.Sha256Updating.{lane_updates}
use Rattle.droid_hash.proofs.sha256_lanes.Sha256Lanes.update_one.Goals as goal

pub returns-clause-taken : goal.returns-clause-taken
unfolding Holds
returns-clause-taken c = λ m held.
    let i : ℕ = c.args.index in
    let s = c.args.self.now in
    let counted : i < length s.totals = omega arith in
    let kept : i < length s.tails = omega arith in
    lane_updates (slice_index s.totals i) _ c.used_of-used.result (lane8 i (state_of s)) _ _ (slice_index_or s.tails i []) _ _ m c.args.piece.now _ _ _
    held.0 held.1 (get_or-set_same s.totals i _ 0 counted) c.used_of-used.ensures.value c.joined-block.ensures
    c.completed-first.ensures.full c.completed-first.ensures.none
    (c.take_blocks.ensures ∙ ap (λ v. fold compress v c.completed-first.result.now) c.variables-v.ensures)
    c.rest-rest.ensures c.chunks.ensures (c.with_variables.ensures.there ∙ c.take_blocks-2.ensures)
    (get_or-set_same s.tails i _ [] kept ∙ c.kept-tail.ensures)

pub returns-clause-others : goal.returns-clause-others
unfolding Holds
returns-clause-others c = λ j low other m held. (
  rw get_or-set_other held.0,
  (rw (c.with_variables.ensures.same j low other) held.1.0, rw get_or-set_other held.1.1),
)
