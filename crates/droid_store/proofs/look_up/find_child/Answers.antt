use Rattle.std.proofs.Common.{refl, subst, [], ◌∷◌}
use Rattle.sqlite.specs.declared.types.Value.TheVariants.{Text}
use Rattle.sqlite.specs.Held.{state}
use Rattle.droid_store_trees.specs.Over.{over_trees}
use Rattle.droid_store.proofs.Clean.{trees_are_clean}
use Rattle.droid_store.specs.Kept.{kept}
use Rattle.droid_store.specs.Rows.{child_at}
use Rattle.droid_store.specs.Shown.{shown_id}
use Rattle.droid_store.proofs.Closed.{kept_is, kept_still}
use Rattle.droid_store.proofs.FoundRows.{found_is}
use Rattle.droid_store.proofs.FindsNodes.{finds_child}
use Rattle.sqlite.specs.State.{QueriesRow}
use Rattle.droid_store.proofs.MemoryFaults.{in_memory}
use Rattle.droid_store.specs.declared.statements.TheConstants.{FIND_CHILD}
use Rattle.droid_store.proofs.MemoryFaultsOfLookUps.{row_or_none, child_runs_out}
use Rattle.droid_store.specs.Encoded.{number}
use Rattle.droid_store.proofs.look_up.find_child.Goals as goal

pub returns-clause-same : goal.returns-clause-same
returns-clause-same c =
    let rows = kept c.args.conn.now in
    let old = state over_trees c.args.conn.now in
    let new = state over_trees c.query_row-answer.new.self in
    let ran = rw (c.params-to_sql.ensures, c.params-to_sql-2.ensures, c.params-to_sql-3.ensures) at (c.query_row-answer.ensures.row (trees_are_clean c.query_row-answer.new.self)) in
    let it = finds_child old new c.args.profile c.args.parent c.args.name.now rows c.query_row-answer.result refl c.requires.holds c.requires.apart ran in
    kept_is c.query_row-answer.new.self rows it.0

pub returns-clause-holds : goal.returns-clause-holds
returns-clause-holds c =
    let rows = kept c.args.conn.now in
    let old = state over_trees c.args.conn.now in
    let new = state over_trees c.query_row-answer.new.self in
    let ran = rw (c.params-to_sql.ensures, c.params-to_sql-2.ensures, c.params-to_sql-3.ensures) at (c.query_row-answer.ensures.row (trees_are_clean c.query_row-answer.new.self)) in
    let it = finds_child old new c.args.profile c.args.parent c.args.name.now rows c.query_row-answer.result refl c.requires.holds c.requires.apart ran in
    kept_still c.query_row-answer.new.self rows it.0

pub returns-clause-found : goal.returns-clause-found
returns-clause-found c =
    let rows = kept c.args.conn.now in
    let old = state over_trees c.args.conn.now in
    let new = state over_trees c.query_row-answer.new.self in
    let ran = rw (c.params-to_sql.ensures, c.params-to_sql-2.ensures, c.params-to_sql-3.ensures) at (c.query_row-answer.ensures.row (trees_are_clean c.query_row-answer.new.self)) in
    let it = finds_child old new c.args.profile c.args.parent c.args.name.now rows c.query_row-answer.result refl c.requires.holds c.requires.apart ran in
    found_is c.query_row-answer.result c.or_none.result shown_id (child_at c.args.profile c.args.parent c.args.name.now rows) c.or_none.ensures.found it.1 it.2

pub returns-clause-limit : goal.returns-clause-limit
returns-clause-limit c = c.query_row-answer.ensures.survives.limit

pub returns-clause-failure : goal.returns-clause-failure
returns-clause-failure c none =
    let rows = kept c.args.conn.now in
    let old = state over_trees c.args.conn.now in
    let new = state over_trees c.query_row-answer.new.self in
    let ran = rw (c.params-to_sql.ensures, c.params-to_sql-2.ensures, c.params-to_sql-3.ensures) at (c.query_row-answer.ensures.row (trees_are_clean c.query_row-answer.new.self)) in
    row_or_none c.query_row-answer.result c.or_none.result c.or_none.ensures.err
    (λ e other is. child_runs_out old new c.args.profile c.args.parent c.args.name.now rows e (in_memory c.args.conn.now c.query_row-answer.new.self none) c.requires.holds.holds other (subst (QueriesRow FIND_CHILD.now (number c.args.profile ∷ number c.args.parent ∷ Text c.args.name.now ∷ []) old new) is ran))
