-- A byte that isn't found isn't there.
use Rattle.memchr.specs.Find.{is_byte}
use Rattle.droid_pattern.proofs.HeadLemmas.{not_found}
use Rattle.droid_pattern.proofs.class_set.lacks.Goals as goal

pub returns-in-Byte : goal.returns-in-Byte
returns-in-Byte c = rw c.in-Byte.is (λ none i small inside passes.
    let (k, below, same) = c.next_bytes.ensures i small inside in
    not_found (is_byte c.in-Byte.wanted) c.next_bytes.result.now c.memchr.result c.is_none.result c.is_none.ensures none c.memchr.ensures k below (rw same passes))
