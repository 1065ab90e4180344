use Rattle.std.proofs.Common.{rules}
use Rattle.std.proofs.lemmas.Cmp.{nat_list_cmp_total}
use Rattle.std.proofs.lemmas.List.Sorted.{answers_always, ranks_by}
use Rattle.droid_fixity.specs.Inventories.{is_before}
use Rattle.droid_cmd_verify.proofs.finding.findings_of.Goals as goal

pub returns : goal.returns
returns c =
    let sorted = c.sort_unstable_by.ensures.sorted (λ a b. is_before a.path b.path) (ranks_by nat_list_cmp_total (λ finding. finding.path)) (answers_always _ _ _ (λ f a r g h. search rules)) in
    record {
      same = rw (c.as_slice-listed.ensures.value, c.as_slice-found.ensures.value, c.as_slice.ensures.value, c.as_slice-files.ensures.value, c.new-findings.ensures.items) at (rw (c.in_ok-add_changes.ensures, c.in_ok-add_unreadable.ensures, c.in_ok-add_unchecked.ensures, c.in_ok-add_differences.ensures) at c.sort_unstable_by.ensures.permutation);
      in_order = sorted;
    }
