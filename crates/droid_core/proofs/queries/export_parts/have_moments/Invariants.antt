use Rattle.std.proofs.Common.{drop}
use Rattle.droid_export.specs.Text.{HaveMoments}
use Rattle.droid_core.proofs.queries.export_parts.have_moments.Given as goal

-- the records before this one have moments
abbrev pub invariant-loop-node : goal.invariant-loop-node
invariant-loop-node l = HaveMoments (drop l.node-index l.records) → HaveMoments l.records
