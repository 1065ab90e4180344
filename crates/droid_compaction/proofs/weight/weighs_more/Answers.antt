use Rattle.std.proofs.Common.{refl, sym}
use Rattle.droid_compaction.proofs.weight.weighs_more.Goals as goal

pub returns-in-Ok-clause-more : goal.returns-in-Ok-clause-more
returns-in-Ok-clause-more g c = λ s ended here files.
    let all = c.in-Ok.ensures.whole s here in
    let weighed = all.2 ended (record { files_are = files; bytes_are = refl }) in (
      all.0,
      all.1,
      rw (sym weighed.bytes_are, sym all.3.bytes_are) c.is_more_than_half.ensures,
    )
