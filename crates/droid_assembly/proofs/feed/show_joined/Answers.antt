use Rattle.std.proofs.Common.{◌≡◌, ◌∙◌, ◌+◌, ◌<◌, ◌++◌, Some, length, take, sym, ap, arith, length-append}
use Rattle.std.specs.List.{concat, slice_get}
use Rattle.std.specs.Option.{option_copied}
use Rattle.droid_assembly.proofs.ShowingSeveral.{joined-more, joined-within, none-past}
use Rattle.droid_assembly.proofs.feed.show_joined.Goals as goal
use Rattle.droid_assembly.proofs.feed.show_joined.Goals.{in-Some, in_default}

pub push-requires : goal.push-requires
push-requires c =
    let now = c.loop-place in
    let several = c.args.several.now in
    let bytes = c.in-Some.bytes.now in
    let shown = concat (take now.place several) in
    let below : now.place < length several = omega (arith, c.loop-place-test.true, c.len-place-end.ensures) in
    let at : slice_get several now.place ≡ Some bytes = sym c.get.ensures ∙ ap option_copied c.in-Some.is in
    let more = joined-more several now.place bytes below at in
    omega (arith, ap length now.invariant, ap length c.as_slice.ensures.value, ap length more, length-append shown bytes, joined-within several (now.place + 1), c.requires.fits)

pub loop-place-preserved : goal.loop-place-preserved
loop-place-preserved c =
    let now = c.loop-place in
    let several = c.args.several.now in
    let below : now.place < length several = omega (arith, c.loop-place-test.true, c.len-place-end.ensures) in
    elim c.match-get.branch [
      | in-Some w ↦
          let bytes = w.in-Some.bytes.now in
          let at : slice_get several now.place ≡ Some bytes = sym c.get.ensures ∙ ap option_copied w.in-Some.is in
          let more = joined-more several now.place bytes below at in
          w.joined-is ∙ w.push.ensures ∙ ap (λ joined. joined ++ w.as_slice.result.now) now.invariant
          ∙ ap (λ last. concat (take now.place several) ++ last) w.as_slice.ensures.value ∙ sym more
      | in_default w ↦ absurd (none-past several now.place below (sym c.get.ensures ∙ ap option_copied w.in_default.is))
    ]
