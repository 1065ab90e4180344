use Rattle.std.proofs.Common.{◌≡◌, ◌∙◌, [], ◌∷◌, None, append-nil, append_assoc, sym}
use Rattle.std.specs.List.{slice_get}
use Rattle.droid_fixity.specs.Pairing.{pair_of}
use Rattle.droid_fixity.proofs.Merging.{merge_ended, pair_taken}
use Rattle.droid_fixity.proofs.pair.pairs_of.Goals as goal

pub loop-pair-preserved : goal.loop-pair-preserved
loop-pair-preserved c =
    let inv = c.loop-pair.invariant in
    let t = pair_taken c.as_slice-listed.result.now c.as_slice-found.result.now c.loop-pair.listed_at c.loop-pair.found_at c.in-Some.pair (sym c.in-Some.ensures) inv.0 inv.1 in
    rw (c.listed_after-listed_at.ensures, c.found_after-found_at.ensures, c.in_ok-push.ensures.items)
    (t.0, t.1, λ rest merges. rw (append_assoc c.loop-pair.pairs.items (c.in-Some.pair ∷ []) rest) (inv.2 (c.in-Some.pair ∷ rest) (t.2 rest merges)))

pub returns : goal.returns
returns c =
    let none : pair_of (slice_get c.as_slice-listed.result.now c.loop-pair.listed_at) (slice_get c.as_slice-found.result.now c.loop-pair.found_at) c.loop-pair.listed_at c.loop-pair.found_at ≡ None = sym c.next_pair.ensures ∙ c.in_default.is in
    let whole = c.loop-pair.invariant.2 [] (merge_ended c.as_slice-listed.result.now c.as_slice-found.result.now c.loop-pair.listed_at c.loop-pair.found_at none) in
    rw (c.as_slice-listed.ensures.value, c.as_slice-found.ensures.value, append-nil c.loop-pair.pairs.items) at whole
