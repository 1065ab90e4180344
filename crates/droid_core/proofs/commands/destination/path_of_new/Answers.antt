use Rattle.std.proofs.Common.{sym, ap, ◌∙◌, ℕ, List, ◌∷◌, ◌++◌}
use Rattle.std.proofs.lemmas.Result.{err_from_is_err_and}
use Rattle.droid_core.proofs.LookUps.{child_found}
use Rattle.droid_core.proofs.ShortRows.{place_is_short}
use Rattle.droid_store.specs.Rows.{child_at}
use Rattle.droid_core.proofs.PlaceChecks.{child_reported, no_child, folder_refused, bad_name, too_deep, taken, allowed}
use Rattle.droid_core.proofs.commands.destination.path_of_new.Goals as goal

pub returns-in_err-folder-clause-found : goal.returns-in_err-folder-clause-found
returns-in_err-folder-clause-found c = λ setting world profile keeps sound found.
    let refused = folder_refused profile c.args.parent c.args.name.now _ (c.in_err-folder.ensures.found setting world profile keeps found) in
    let failed = err_from_is_err_and c.from_residual.result c.from_residual.ensures.1 in
    rw (failed.1, failed.2) refused

pub returns-then-is_bad_name-clause-found : goal.returns-then-is_bad_name-clause-found
returns-then-is_bad_name-clause-found c = λ setting world profile keeps sound found.
    let folder = c.in_ok-folder.ensures.found setting world profile keeps found in
    bad_name profile c.args.parent c.args.name.now c.in_ok-folder.folder folder (sym c.if-is_bad_name.ensures)

pub returns-then-is_too_deep_below-clause-found : goal.returns-then-is_too_deep_below-clause-found
returns-then-is_too_deep_below-clause-found c = λ setting world profile keeps sound found.
    let folder = c.in_ok-folder.ensures.found setting world profile keeps found in
    let deep = rw c.as_str.ensures.value at c.if-is_too_deep_below.ensures in
    too_deep profile c.args.parent c.args.name.now c.in_ok-folder.folder folder (sym c.if-is_bad_name.ensures) (sym deep)

pub returns-then-branch-clause-found : goal.returns-then-branch-clause-found
returns-then-branch-clause-found c = λ setting world profile keeps sound found.
    let folder = c.in_ok-folder.ensures.found setting world profile keeps found in
    let short = rw c.as_str.ensures.value at c.if-is_too_deep_below.ensures in
    let there = rw c.folder_path.ensures.same at (child_reported c.child.result (child_at c.args.profile c.args.parent c.args.name.now c.folder_path.new.store) _ c.child.ensures.found c.in_ok-is_taken.ensures.reported) in
    taken profile c.args.parent c.args.name.now c.in_ok-folder.folder folder (sym c.if-is_bad_name.ensures) (sym short)
    (sym (child_found setting world c.args.store.now c.args.profile c.args.parent c.args.name.now profile keeps.nodes found) ∙ sym there ∙ c.if-branch.true)

pub returns-clause-free : goal.returns-clause-free
returns-clause-free c =
    let there = rw c.folder_path.ensures.same at (child_reported c.child.result (child_at c.args.profile c.args.parent c.args.name.now c.folder_path.new.store) _ c.child.ensures.found c.in_ok-is_taken.ensures.reported) in
    no_child (child_at c.args.profile c.args.parent c.args.name.now c.args.store.now) (sym there ∙ c.if-branch.false)

pub returns-clause-short : goal.returns-clause-short
returns-clause-short c =
    let short = rw c.as_str.ensures.value at c.if-is_too_deep_below.ensures in
    place_is_short c.in_ok-folder.folder c.args.name.now c.in_ok-new_path.field-0 (sym c.if-is_bad_name.ensures) (sym short) (rw c.as_str-2.ensures.value at c.in_ok-new_path.ensures)

pub returns-clause-found : goal.returns-clause-found
returns-clause-found c = λ setting world profile keeps sound found.
    let folder = c.in_ok-folder.ensures.found setting world profile keeps found in
    let short = rw c.as_str.ensures.value at c.if-is_too_deep_below.ensures in
    let there = rw c.folder_path.ensures.same at (child_reported c.child.result (child_at c.args.profile c.args.parent c.args.name.now c.folder_path.new.store) _ c.child.ensures.found c.in_ok-is_taken.ensures.reported) in
    let way = rw c.as_str-2.ensures.value at c.in_ok-new_path.ensures in (
      allowed profile c.args.parent c.args.name.now c.in_ok-folder.folder folder (sym c.if-is_bad_name.ensures) (sym short)
          (sym (child_found setting world c.args.store.now c.args.profile c.args.parent c.args.name.now profile keeps.nodes found) ∙ sym there ∙ c.if-branch.false),
      way ∙ ap (λ (above : List ℕ). above ++ 47 ∷ c.args.name.now) folder.path_is,
    )
