use Rattle.std.proofs.Common.{◌≡◌, ◌++◌, ◌∙◌}
use Rattle.std.proofs.lemmas.Result.{on_ok_weaker}
use Rattle.sqlite_record.specs.Record.{decode}
use Rattle.sqlite_record.specs.Affinity.{widen}
use Rattle.sqlite_record.proofs.AffinityLemmas.{widen-zero}
use Rattle.droid_store_trees.proofs.packed_row.PackedRow.copy_into.Goals as goal

pub returns-else-is_err-clause-ok : goal.returns-else-is_err-clause-ok
returns-else-is_err-clause-ok c =
    let all : c.clear.new.self ++ widen 0 (decode c.as_slice.result.now) ≡ c.args.self.now = rw (c.clear.ensures, c.as_slice.ensures.value, widen-zero) c.self.view_is in
    on_ok_weaker c.decode_into-written.result (λ e. e ∙ all) c.decode_into-written.ensures
