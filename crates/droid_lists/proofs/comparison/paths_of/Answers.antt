use Rattle.std.proofs.Common.{Bor, rules, ◌≡◌, ◌∙◌, ℕ, List, get_or, arith}
use Rattle.std.specs.BTreeMap as tree
use Rattle.std.specs.Cmp.Lexicographic.{slice_cmp}
use Rattle.std.specs.Ordering.{nat_cmp}
use Rattle.std.proofs.lemmas.Map.Text.{btree_map_updates_str}
use Rattle.droid_lists.proofs.MapSteps.{path_added}
use Rattle.droid_lists.proofs.comparison.paths_of.Goals as goal

pub loop-one-preserved : goal.loop-one-preserved
loop-one-preserved c =
    let here : c.one-item.result ≡ get_or c.args.known.now c.loop-one.one-index c.one-item.result = search rules in
    path_added (λ (path : List ℕ). tree.get_by (λ (key : Bor (List ℕ)). slice_cmp nat_cmp path key.now) c.loop-one.paths)
    (λ (path : List ℕ). tree.get_by (λ (key : Bor (List ℕ)). slice_cmp nat_cmp path key.now) c.insert.new.self)
    c.args.known.now c.loop-one.one-index c.one-item.result c.as_bytes.result.now (c.as_bytes.ensures.value ∙ c.as_str.ensures.value) (omega (arith, c.loop-one-test.true)) here
    (btree_map_updates_str c.as_bytes.result.now c.loop-one.paths c.insert.new.self _ c.in_ok-insert.ensures.updates) c.loop-one.invariant
