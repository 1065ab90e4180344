use Rattle.std.proofs.Common.{List, ℕ, subst}
use Rattle.std.proofs.lemmas.Iterator.{YieldsList-from_chars}
use Rattle.std.proofs.lemmas.Iterator.Consumers.{YieldsList-end}
use Rattle.std.specs.Fmt.{HasWritten}
use Rattle.droid_cmd_identify.proofs.JsonLetters.{all_letters}
use Rattle.droid_cmd_identify.proofs.forms.json_text.write_escaped.Goals as goal

pub returns : goal.returns
returns g c = λ plain ok.
    let end = YieldsList-end (YieldsList-from_chars c.args.text.now c.utf8.text cc) c.loop-letter.yielded _ c.loop-letter.yielded_by _ _ c.in-None.is c.next.ensures.steps in
    subst (λ (text : List ℕ). HasWritten g.W.Write.write_str_gives c.args.f.now text c.loop-letter.f)
    (all_letters c.args.text.now c.loop-letter.yielded end.0) (c.loop-letter.invariant plain)
