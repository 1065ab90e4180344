use Rattle.std.proofs.Common.{rules, ◌≡◌, ◌∷◌, ◌++◌, ◌+◌, ◌-◌, length, true, false, sym, subst}
use Rattle.sqlite_trees.specs.Probe.{IsCutBy, IsPlaceOf}
use Rattle.droid_store_trees.specs.Probe.{passes}
use Rattle.droid_store_trees.specs.Entries.{rows}
use Rattle.droid_store_trees.proofs.RowPlaces.{cut_left, cut_right, placed_left, placed_right}
use Rattle.droid_store_trees.proofs.node.Node.+place.Goals as goal

pub returns-then-passes-clause-place : goal.returns-then-passes-clause-place
returns-then-passes-clause-place t c cut =
    let test = passes c.args.probe in
    let fork = c.in-Fork.fork.value in
    let whole : rows c.args.self.now ≡ rows fork.left ++ fork.row.value ∷ rows fork.right = search rules in
    let here = subst (IsCutBy test) whole cut in
    let right : rows c.deref-then-passes-3.result.now.right ≡ rows fork.right = search rules in
    let place = subst (λ l. IsPlaceOf test l c.place.result) right (c.place.ensures.place (subst (IsCutBy test) (sym right) (cut_right test (rows fork.left) fork.row.value (rows fork.right) here))) in
    let passed : test fork.row.value ≡ true = search rules in
    let number : length (rows fork.left) + 1 + c.place.result ≡ c.deref-then-passes.result.now.len - c.len.result + c.place.result = search rules in
    subst (λ n. IsPlaceOf test (rows c.args.self.now) n) number
    (subst (λ l. IsPlaceOf test l (length (rows fork.left) + 1 + c.place.result)) (sym whole) (placed_right test (rows fork.left) fork.row.value (rows fork.right) here passed c.place.result place))

pub returns-else-passes-clause-place : goal.returns-else-passes-clause-place
returns-else-passes-clause-place t c cut =
    let test = passes c.args.probe in
    let fork = c.in-Fork.fork.value in
    let whole : rows c.args.self.now ≡ rows fork.left ++ fork.row.value ∷ rows fork.right = search rules in
    let here = subst (IsCutBy test) whole cut in
    let left : rows c.deref-else-passes.result.now.left ≡ rows fork.left = search rules in
    let place = subst (λ l. IsPlaceOf test l c.place-else-passes.result) left (c.place-else-passes.ensures.place (subst (IsCutBy test) (sym left) (cut_left test (rows fork.left) fork.row.value (rows fork.right) here))) in
    let failed : test fork.row.value ≡ false = search rules in
    subst (λ l. IsPlaceOf test l c.place-else-passes.result) (sym whole) (placed_left test (rows fork.left) fork.row.value (rows fork.right) here failed c.place-else-passes.result place)
