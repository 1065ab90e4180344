use Rattle.std.proofs.lemmas.Iterator.{YieldsList-from_chars}
use Rattle.std.proofs.lemmas.Iterator.Consumers.{YieldsList-end}
use Rattle.std.specs.Str.{chars}
use Rattle.std.specs.String.{string_bytes}
use Rattle.droid_xml.specs.Drafts.{partial}
use Rattle.droid_xml.proofs.ValueLoops.{value_unended, value_whole, value_wrong}
use Rattle.droid_xml.proofs.values.value_of.Goals as goal

pub returns-then-not-is_right : goal.returns-then-not-is_right
returns-then-not-is_right c =
    let end = YieldsList-end (YieldsList-from_chars c.args.text.now c.utf8.text cc) c.loop-c.yielded _ c.loop-c.yielded_by _ _ c.in-None.is c.next.ensures.steps in
    value_wrong (chars c.args.text.now) c.loop-c.yielded c.loop-c.is_right (partial c.loop-c.draft) end.0 c.loop-c.invariant c.if-not-is_right.true

pub returns : goal.returns
returns c =
    let end = YieldsList-end (YieldsList-from_chars c.args.text.now c.utf8.text cc) c.loop-c.yielded _ c.loop-c.yielded_by _ _ c.in-None.is c.next.ensures.steps in
    value_whole (chars c.args.text.now) c.loop-c.yielded (string_bytes c.in-Some-finish.value) c.loop-c.is_right (partial c.loop-c.draft) end.0 c.loop-c.invariant c.if-not-is_right.false c.in-Some-finish.ensures

pub returns-in_default : goal.returns-in_default
returns-in_default c =
    let end = YieldsList-end (YieldsList-from_chars c.args.text.now c.utf8.text cc) c.loop-c.yielded _ c.loop-c.yielded_by _ _ c.in-None.is c.next.ensures.steps in
    value_unended (chars c.args.text.now) c.loop-c.yielded c.loop-c.is_right (partial c.loop-c.draft) end.0 c.loop-c.invariant c.if-not-is_right.false c.in_default.ensures
