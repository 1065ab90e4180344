use Rattle.std.proofs.Common.{sym, subst, ◌∙◌, List, ℕ}
use Rattle.std.specs.Io.KnownBytes.{Appends}
use Rattle.droid_lines.proofs.LineParts.{good_done}
use Rattle.droid_lines.proofs.sender.send_line.Goals as goal

pub returns-clause-done : goal.returns-clause-done
returns-clause-done g c =
    let old = g.T.Write.contents c.args.text.now in
    let new = g.T.Write.contents c.write_text-2.new.text in
    good_done c.args.client.now c.args.line.now c.in-Some.asked _ _ _ _ old new c.exchange.new.client c.in_ok-printed-2.printed.items
    (sym c.in_ok-asked.ensures.value ∙ c.in-Some.is) c.in_ok-printed-2.ensures.exchanged
    (subst (λ (l : List ℕ). Appends old new l) c.as_slice-2.ensures.value c.in_ok-write_text-2.ensures.ok)
