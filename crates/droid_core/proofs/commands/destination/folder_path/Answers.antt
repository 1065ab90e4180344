use Rattle.std.proofs.Common.{sym, ◌∙◌}
use Rattle.std.proofs.lemmas.Result.{err_from_is_err_and}
use Rattle.droid_core.proofs.FilesFound.{no_node_there, node_there}
use Rattle.droid_core.proofs.FolderRows.{top_found, row_finds, nothing_finds}
use Rattle.droid_core.proofs.commands.destination.folder_path.Goals as goal

pub returns-then-parent-eq0-clause-found : goal.returns-then-parent-eq0-clause-found
returns-then-parent-eq0-clause-found c = λ setting world profile keeps found.
    top_found profile c.args.parent c.from.result c.if-parent-eq0.true (c.from.ensures ∙ c.new.ensures.bytes)

pub returns-in_err-row-clause-found : goal.returns-in_err-row-clause-found
returns-in_err-row-clause-found c = λ setting world profile keeps found.
    let fault = err_from_is_err_and c.from_residual.result c.from_residual.ensures.1 in
    rw (fault.1, fault.2) (nothing_finds setting world c.args.store.now c.args.profile profile keeps found c.args.parent _ c.if-parent-eq0.false
    (no_node_there c.args.profile c.args.parent c.args.store.now c.node.result c.in_err-row.field-0.0 c.node.ensures.found c.in_err-row.ensures.none))

pub returns-clause-found : goal.returns-clause-found
returns-clause-found c = λ setting world profile keeps found.
    row_finds setting world c.args.store.now c.args.profile profile keeps found c.args.parent c.in_ok-row.row c.path_of.result c.if-parent-eq0.false
    (sym (node_there c.args.profile c.args.parent c.args.store.now c.node.result c.in_ok-row.row c.node.ensures.found c.in_ok-row.ensures.found)) c.path_of.ensures.folder c.path_of.ensures.file
