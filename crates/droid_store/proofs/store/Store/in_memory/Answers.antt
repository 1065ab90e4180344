use Rattle.std.proofs.Common.{refl, arith, ◌∙◌}
use Rattle.droid_store.specs.Rows.{no_rows}
use Rattle.droid_store.proofs.Closed.{kept_is, closed}
use Rattle.droid_store.proofs.ReadableAfter.{nothing_read}
use Rattle.droid_store.proofs.ReportedFaults.{reported_memory}
use Rattle.droid_store.proofs.store.Store.in_memory.Goals as goal

pub invariant_of-result : goal.invariant_of-result
invariant_of-result c =
    closed c.make_tables.new.conn no_rows _ c.in_ok-make_tables.ensures.made
    (record { replies = λ client number. omega arith; children = λ profile parent name. omega arith; numbers = tt; accepted = tt }) refl (c.make_tables.ensures.limit ∙ c.in_ok-conn.ensures.limit) nothing_read

pub returns-clause-empty : goal.returns-clause-empty
returns-clause-empty c = kept_is c.make_tables.new.conn no_rows c.in_ok-make_tables.ensures.made

pub returns-in_err-make_tables-clause-memory : goal.returns-in_err-make_tables-clause-memory
returns-in_err-make_tables-clause-memory c = reported_memory c.from_residual-in_err-make_tables.result _ c.from_residual-in_err-make_tables.ensures.1 (c.in_err-make_tables.ensures.failure c.in_ok-conn.ensures.limit)
