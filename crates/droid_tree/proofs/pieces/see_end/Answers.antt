use Rattle.std.proofs.Common.{◌≡◌, ◌<◌, ℕ, List, [], length, refl, subst}
use Rattle.std.specs.Prelude.{MatchResult}
use Rattle.droid_tree.specs.Observation.{BytesCame}
use Rattle.droid_tree.specs.Reading.{IsPastEnd}
use Rattle.droid_tree.specs.declared.skip_reason.Skipped.TheVariants as reasons
use Rattle.droid_tree.proofs.FileReads.{came_more, stops}
use Rattle.droid_tree.proofs.pieces.see_end.Goals as goal

pub returns-in-Ok-clause-observed : goal.returns-in-Ok-clause-observed
returns-in-Ok-clause-observed g c =
    let came : BytesCame g.T.Tree.observes c.args.tree.now c.args.path.now c.args.entry.now c.args.from 1 [] c.read.new.bytes.items c.read.new.self =
    subst (λ (l : List ℕ). BytesCame g.T.Tree.observes c.args.tree.now c.args.path.now c.args.entry.now c.args.from 1 l c.read.new.bytes.items c.read.new.self) c.new-more.ensures.items c.in-Ok.ensures.came in
    came_more g.T.Tree.observes c.args.path.now c.args.entry.now c.args.from c.read.new.bytes.items _ _ c.none_more.result came
    (subst (λ (l : List ℕ). MatchResult c.none_more.result (λ _. l ≡ []) (λ why. (why ≡ reasons.Changed) × (0 < length l))) c.as_slice.ensures.value c.none_more.ensures)

pub returns-clause-observed : goal.returns-clause-observed
returns-clause-observed g c = stops g.T.Tree.observes c.args.path.now c.args.entry.now c.args.from IsPastEnd 1 c.in-Err.fault c.in_ok-why-in-Err.why _ _ refl refl c.in_ok-why-in-Err.ensures.reason c.in-Err.ensures.unread c.in-Err.ensures.exchanged
