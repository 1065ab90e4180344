use Rattle.std.proofs.Common.{◌≡◌, ℕ, List, ◌++◌, length, codes, ap, sym, ◌∙◌}
use Rattle.droid_lines.specs.Printed.{after_commas, puids_text}
use Rattle.droid_lines.proofs.Printing.{no_puids, some_puids}
use Rattle.droid_lines.proofs.printer.puids_text.Goals as goal

pub returns-in_default : goal.returns-in_default
returns-in_default c =
    let none : puids_text c.args.puids.now ≡ codes "-" = no_puids c.args.puids.now (ap length (sym c.as_slice.ensures) ∙ c.in_default.ensures.cases) in
    rw none c.from_str.ensures.ok

pub returns : goal.returns
returns c =
    c.in_ok-append_after_commas.ensures
    ∙ (ap (λ (l : List ℕ). l ++ after_commas c.in-Some.others.now) (c.in_ok-text.ensures.ok ∙ c.as_str.ensures.value)
    ∙ sym (some_puids c.args.puids.now c.in-Some.first.now c.in-Some.others.now (sym c.as_slice.ensures ∙ c.in-Some.ensures.cases.0)))
