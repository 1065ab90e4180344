-- The pieces before the end tag.
use Rattle.std.proofs.Common.{ℕ, map, take, sym, ap, ◌∙◌}
use Rattle.std.specs.List.{take-map}
use Rattle.droid_xml.specs.Views.{part}
use Rattle.droid_signature_file.proofs.node.inside_of.Goals as goal

pub returns : goal.returns
returns c =
    let behind = c.args.behind.now in
    rw c.if-element.false (sym (take-map part c.inner_len.result behind) ∙ ap (λ (n : ℕ). take n (map part behind)) c.inner_len.ensures.value)
