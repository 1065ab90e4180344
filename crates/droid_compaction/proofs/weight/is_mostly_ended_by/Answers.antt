use Rattle.std.proofs.Common.{◌≡◌, ◌<◌, ◌*◌, ℕ, List, [], length, refl, subst}
use Rattle.std.specs.Prelude.{IsTrue, ◌↔◌}
use Rattle.std.specs.List.{sum_by}
use Rattle.droid_journal.specs.Records.{Record}
use Rattle.droid_compaction.specs.Numbers.{has_number}
use Rattle.droid_compaction.specs.Shortening.{has_ended, once}
use Rattle.droid_compaction.specs.Sizes.{piece_bytes}
use Rattle.droid_compaction.proofs.Weighing.{weights_same}
use Rattle.droid_compaction.proofs.weight.is_mostly_ended_by.Goals as goal

pub returns-in-Ok-weighs_more-clause-mostly : goal.returns-in-Ok-weighs_more-clause-mostly
returns-in-Ok-weighs_more-clause-mostly g c = λ s here.
    let ended = has_number c.in-Ok.ended in
    let all = c.in-Ok-weighs_more.ensures.more s ended here (λ it. refl) in
    let its : List Record = all.0 in
    let same : sum_by (piece_bytes ended) its ≡ sum_by (piece_bytes (has_ended (once [] its))) its = weights_same ended (has_ended (once [] its)) its (c.in-Ok.ensures.ended s its here all.1) in
    (its, all.1, subst (λ (n : ℕ). IsTrue c.in-Ok-weighs_more.mostly ↔ (length s < 2 * n)) same all.2)
