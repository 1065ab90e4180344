-- Alternatives that are runs of bytes, and others.
use Rattle.std.proofs.Common.{sym, ◌∙◌, map}
use Rattle.droid_signature_pattern.specs.Items.{items_of}
use Rattle.droid_signature_pattern.proofs.TermLevels.{all_runs_map, choice_of_each, choice_of_runs}
use Rattle.droid_signature_pattern.proofs.term_texts.choice_texts.Goals as goal

pub returns-then-are_all_runs-clause-ok : goal.returns-then-are_all_runs-clause-ok
returns-then-are_all_runs-clause-ok c =
    c.in_ok-texts.ensures ∙ sym (choice_of_runs (map items_of c.args.alternatives.now) (sym (c.if-are_all_runs.ensures ∙ all_runs_map c.args.alternatives.now)))

pub returns-clause-ok : goal.returns-clause-ok
returns-clause-ok c =
    c.in_ok-texts-2.ensures.ok ∙ sym (choice_of_each (map items_of c.args.alternatives.now) (sym (c.if-are_all_runs.ensures ∙ all_runs_map c.args.alternatives.now)))
