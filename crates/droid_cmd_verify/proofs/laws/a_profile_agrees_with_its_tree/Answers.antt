use Rattle.std.proofs.Common.{Ok, filter, subst}
use Rattle.droid_export.specs.Filters.{meets}
use Rattle.droid_export.specs.Text.{text}
use Rattle.droid_lists.specs.Listings.{Says}
use Rattle.droid_lists.specs.Exports.{items_of}
use Rattle.droid_lists.specs.declared.list_form.ListForm.{ListForm}
use Rattle.droid_cmd_verify.proofs.Agreement.{no_difference, of_records, profile_form}
use Rattle.droid_cmd_verify.proofs.Hashed.{items_hashed, pairs_hashed}
use Rattle.droid_cmd_verify.proofs.laws.a_profile_agrees_with_its_tree.Goals as goal

pub returns-clause-form : goal.returns-clause-form
returns-clause-form c = profile_form

pub returns-clause-agrees : goal.returns-clause-agrees
returns-clause-agrees c = λ registry criteria hash nodes in_bag formats listed checked are says readable found report.
    let bytes = text registry criteria hash nodes in
    no_difference c.the_items_of_the_list_agree.ensures bytes formats (filter (meets criteria) nodes) listed.items checked (c.export_lists_its_records.ensures registry criteria hash nodes are)
    (subst (λ (form : ListForm). Says form formats bytes (Ok listed.items)) (profile_form registry criteria hash nodes in_bag) says.1) readable found report

pub returns-clause-hashed : goal.returns-clause-hashed
returns-clause-hashed c = λ registry criteria hash nodes in_bag formats listed checked are some says readable found files.
    let bytes = text registry criteria hash nodes in
    let shown = filter (meets criteria) nodes in
    let both = of_records bytes formats shown listed.items checked (c.export_lists_its_records.ensures registry criteria hash nodes are)
    (subst (λ (form : ListForm). Says form formats bytes (Ok listed.items)) (profile_form registry criteria hash nodes in_bag) says.1) readable found in
    pairs_hashed hash (items_of shown) checked.listed checked.found checked.files.items (items_hashed hash (meets criteria) nodes are.each some) both.listed_are both.found_are files.right
