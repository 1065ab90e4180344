use Rattle.std.proofs.Common.{arith}
use Rattle.droid_pronom.proofs.registry.draft.Draft.records.Goals as goal

pub overflow_add-result-3 : goal.overflow_add-result-3
overflow_add-result-3 c = omega (arith, c.len.ensures.rules.few)
