-- The rows that were given so far were read.
use Rattle.std.proofs.Common.{◌≡◌}
use Rattle.droid_store.proofs.GivenRows.{HaveRead}
use Rattle.droid_store.proofs.record_list.list_records.Given as goal

abbrev pub invariant-rows : goal.invariant-rows
invariant-rows l = (l.rows.conn.ghost_name ≡ l.initial.rows.conn.ghost_name) × HaveRead l.fn.conn l.rows.conn.now l.fn.profile l.records.items
