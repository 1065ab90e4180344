use Rattle.std.proofs.Common.{rules, ◌≡◌, ◌++◌, ℕ, List, length, ap, ◌∙◌}
use Rattle.droid_journal.specs.Chains.{checked}
use Rattle.droid_cmd_serve.proofs.header.new_header.Goals as goal

pub returns : goal.returns
returns c =
    let full : length c.args.random.now ≡ 16 = search rules in
    (c.args.random.now, full, c.in_ok-whole.ensures ∙ ap checked (c.in_ok-extend_from_slice.ensures.items ∙ ap (λ (t : List ℕ). t ++ c.args.random.now) c.in_ok-front.ensures.text))
