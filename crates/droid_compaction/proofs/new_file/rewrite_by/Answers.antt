use Rattle.std.proofs.Common.{◌≡◌, List, [], refl, subst}
use Rattle.droid_journal.specs.Chains.{marked_bytes}
use Rattle.droid_journal.specs.Records.{AllFit, Record}
use Rattle.droid_compaction.specs.Numbers.{has_number}
use Rattle.droid_compaction.specs.Shortening.{has_ended, once, shortened, smaller_by}
use Rattle.droid_compaction.specs.Sizes.{IsSizeOf}
use Rattle.droid_compaction.proofs.Shortening.{smaller_by_same}
use Rattle.droid_compaction.proofs.new_file.rewrite_by.Goals as goal

pub returns-in-Ok-write_anew-clause-rewritten : goal.returns-in-Ok-write_anew-clause-rewritten
returns-in-Ok-write_anew-clause-rewritten g c = λ s here empty.
    let new = c.args.new_header.now in
    let ended = has_number c.in-Ok.ended in
    let all = c.in-Ok-write_anew.ensures.written s ended here empty (λ file. refl) in
    let its : List Record = all.0 in
    let same : smaller_by ended its ≡ shortened its = smaller_by_same ended (has_ended (once [] its)) its (c.in-Ok.ensures.ended s its here all.1) in (
      marked_bytes new (shortened its),
      (its, all.1, subst AllFit same all.2, refl),
      subst (λ (xs : List Record). g.N.LogFile.has c.in-Ok-write_anew.smaller.file (marked_bytes new xs)) same all.3,
    )

pub returns-in-Ok-write_anew-clause-sizes : goal.returns-in-Ok-write_anew-clause-sizes
returns-in-Ok-write_anew-clause-sizes g c = λ s here empty.
    let new = c.args.new_header.now in
    let ended = has_number c.in-Ok.ended in
    let all = c.in-Ok-write_anew.ensures.written s ended here empty (λ file. refl) in
    let its : List Record = all.0 in
    let same : smaller_by ended its ≡ shortened its = smaller_by_same ended (has_ended (once [] its)) its (c.in-Ok.ensures.ended s its here all.1) in (
      its,
      all.1,
      all.4,
      subst (λ (xs : List Record). IsSizeOf (marked_bytes new xs) xs c.in-Ok-write_anew.smaller.after) same all.5,
    )
