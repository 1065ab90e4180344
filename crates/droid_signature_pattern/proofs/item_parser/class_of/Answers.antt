-- None of the four forms.
use Rattle.droid_signature_pattern.proofs.ItemFronts.{no_brackets}
use Rattle.droid_signature_pattern.proofs.item_parser.class_of.Goals as goal

pub returns-clause-bad : goal.returns-clause-bad
returns-clause-bad c = λ was a h.
    no_brackets c.args.body.now c.in_default.ensures c.in_default-range_of.ensures c.in_default-outside_of.ensures (c.several_of.ensures.bad was) a h
