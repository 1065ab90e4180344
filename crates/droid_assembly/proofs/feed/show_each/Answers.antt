use Rattle.std.proofs.Common.{◌≡◌, ◌∙◌, ◌+◌, ◌<◌, ◌++◌, ℕ, List, Some, length, take, sym, ap, arith}
use Rattle.std.specs.List.{concat, slice_get}
use Rattle.std.specs.Option.{option_copied}
use Rattle.std.proofs.lemmas.List.{append_assoc}
use Rattle.droid_assembly.specs.Fronts.{FrontKnows}
use Rattle.droid_assembly.proofs.ShowingSeveral.{joined-more, joined-all, none-past}
use Rattle.droid_assembly.proofs.feed.show_each.Goals as goal
use Rattle.droid_assembly.proofs.feed.show_each.Goals.{in-Some, in_default}

pub loop-place-preserved : goal.loop-place-preserved
loop-place-preserved c =
    let now = c.loop-place in
    let several = c.args.several.now in
    let shown = concat (take now.place several) in
    let below : now.place < length several = omega (arith, c.loop-place-test.true, c.len-place-end.ensures) in
    elim c.match-get.branch [
      | in-Some w ↦
          let bytes = w.in-Some.bytes.now in
          let at : slice_get several now.place ≡ Some bytes = sym c.get.ensures ∙ ap option_copied w.in-Some.is in
          let more = joined-more several now.place bytes below at in
          let knows : (before : List ℕ) → FrontKnows c.args.front.now before → FrontKnows w.take.new.self (before ++ concat (take (now.place + 1) several)) =
          λ before known. rw (more, ← append_assoc before shown bytes, ← w.as_slice.ensures.value) (w.take.ensures.knows (before ++ shown) (now.invariant.knows before known)) in
          rw w.front-is (record { sound = w.take.ensures.sound; width = w.take.ensures.width ∙ now.invariant.width; kind = w.take.ensures.kind ∙ now.invariant.kind; knows = knows })
      | in_default w ↦ absurd (none-past several now.place below (sym c.get.ensures ∙ ap option_copied w.in_default.is))
    ]

pub returns-clause-knows : goal.returns-clause-knows
returns-clause-knows c before knows =
    let now = c.loop-place in
    let all = joined-all c.args.several.now now.place (omega (arith, c.loop-place-test.false, c.len-place-end.ensures)) in
    rw (← all) (now.invariant.knows before knows)
