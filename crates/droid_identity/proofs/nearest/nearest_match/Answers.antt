use Rattle.droid_identity.proofs.MatchLemmas.{nearest_found}
use Rattle.droid_identity.proofs.SpanLemmas.{begins_beyond}
use Rattle.droid_identity.proofs.nearest.nearest_match.Goals as goal

pub least_reach-requires : goal.least_reach-requires
least_reach-requires c =
    let first = rw c.in-Some.is at c.in_ok-offset.ensures.first in
    let inside = rw c.in-Some.is at c.in_ok-offset.ensures.inside in
    rw c.beyond.ensures.bytes (begins_beyond c.args.sequence.now.offsets.anchor c.args.sequence.now.pattern c.args.window.now c.in-Some.offset inside first.there)

pub returns : goal.returns
returns c =
    let first = rw c.in-Some.is at c.in_ok-offset.ensures.first in
    let inside = rw c.in-Some.is at c.in_ok-offset.ensures.inside in
    nearest_found c.args.window.now c.args.sequence.now c.in-Some.offset c.in_ok-count.count inside first (rw c.beyond.ensures.bytes at c.in_ok-count.ensures)
