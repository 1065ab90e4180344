use Rattle.std.proofs.Common.{sym, subst}
use Rattle.std.proofs.lemmas.Result.{err_from_is_err_and}
use Rattle.droid_core.specs.Rows.{KeepsWorld}
use Rattle.droid_core.proofs.FilesFound.{nowhere_found, no_node_there, node_there, no_node_found, folder_found, file_found}
use Rattle.droid_core.proofs.file_rows.file_of.Goals as goal

pub returns-in_err-row-clause-found : goal.returns-in_err-row-clause-found
returns-in_err-row-clause-found c = λ setting world keeps.
    let fault = err_from_is_err_and c.from_residual.result c.from_residual.ensures.1 in
    rw (fault.1, fault.2) (nowhere_found world c.args.profile c.args.file _ (c.in_err-row.ensures.found setting world c.args.profile c.args.store.now keeps c.profile.ensures.found))

pub returns-in_err-node-clause-found : goal.returns-in_err-node-clause-found
returns-in_err-node-clause-found c = λ setting world keeps.
    let fault = err_from_is_err_and c.from_residual-in_err-node.result c.from_residual-in_err-node.ensures.1 in
    rw (fault.1, fault.2) (no_node_found setting world c.profile.new.self c.args.profile c.args.file c.in_ok-row.row (subst (KeepsWorld setting world) (sym c.profile.ensures.same) keeps)
    (c.in_ok-row.ensures.found setting world c.args.profile c.args.store.now keeps c.profile.ensures.found) _ (no_node_there c.args.profile c.args.file c.profile.new.self c.node.result c.in_err-node.field-0.0 c.node.ensures.found c.in_err-node.ensures.none))

pub returns-in-Folder-clause-found : goal.returns-in-Folder-clause-found
returns-in-Folder-clause-found c = λ setting world keeps.
    folder_found setting world c.profile.new.self c.args.profile c.args.file c.in_ok-row.row (subst (KeepsWorld setting world) (sym c.profile.ensures.same) keeps)
    (c.in_ok-row.ensures.found setting world c.args.profile c.args.store.now keeps c.profile.ensures.found) c.in_ok-node.node (node_there c.args.profile c.args.file c.profile.new.self c.node.result c.in_ok-node.node c.node.ensures.found c.in_ok-node.ensures.found) c.in-Folder.is

pub returns-in-Unfinished-clause-found : goal.returns-in-Unfinished-clause-found
returns-in-Unfinished-clause-found c = λ setting world keeps.
    file_found setting world c.profile.new.self c.args.profile c.args.file c.in_ok-row.row (subst (KeepsWorld setting world) (sym c.profile.ensures.same) keeps)
    (c.in_ok-row.ensures.found setting world c.args.profile c.args.store.now keeps c.profile.ensures.found) c.in_ok-node.node (node_there c.args.profile c.args.file c.profile.new.self c.node.result c.in_ok-node.node c.node.ensures.found c.in_ok-node.ensures.found) (λ folder. absurd (let it = c.in-Unfinished.is in cc))

pub returns-in-Finished-clause-found : goal.returns-in-Finished-clause-found
returns-in-Finished-clause-found c = λ setting world keeps.
    file_found setting world c.profile.new.self c.args.profile c.args.file c.in_ok-row.row (subst (KeepsWorld setting world) (sym c.profile.ensures.same) keeps)
    (c.in_ok-row.ensures.found setting world c.args.profile c.args.store.now keeps c.profile.ensures.found) c.in_ok-node.node (node_there c.args.profile c.args.file c.profile.new.self c.node.result c.in_ok-node.node c.node.ensures.found c.in_ok-node.ensures.found) (λ folder. absurd (let it = c.in-Finished.is in cc))
