use Rattle.std.proofs.Common.{rules, ◌≡◌, ◌+◌, ◌∙◌, ◌++◌, ℕ, List, take, drop, sym, ap, subst, arith}
use Rattle.std.proofs.lemmas.List.{take-append-drop}
use Rattle.droid_journal.proofs.Parts.{nothing_more, written_on}
use Rattle.droid_journal.proofs.disk.disk_log.write_all.Goals as goal

pub returns-in-Ok-eq0-clause-part : goal.returns-in-Ok-eq0-clause-part
returns-in-Ok-eq0-clause-part g c = λ s here.
    let bytes = c.args.bytes.now in
    let written = c.loop-written.written in
    let so_far : List ℕ = s ++ take written bytes in
    let none : c.in-Ok-eq0.field-0 ≡ 0 = search rules in (
      take written bytes,
      subst (g.D.Drive.has c.write_some.new.self) (nothing_more so_far c.split_at.result.1.now c.in-Ok-eq0.field-0 none) (c.in-Ok-eq0.ensures.written so_far (c.loop-written.invariant.has s here)),
      (drop written bytes, sym (take-append-drop written bytes)),
    )

pub loop-written-preserved : goal.loop-written-preserved
loop-written-preserved g c =
    let bytes = c.args.bytes.now in
    let written = c.loop-written.written in
    let rest = c.split_at.result.1.now in
    record {
      within = omega (arith, c.in-Ok.ensures.bound, c.split_at.ensures.back_len);
      has = λ s here.
          let so_far : List ℕ = s ++ take written bytes in
          let same : so_far ++ take c.in-Ok.count rest ≡ s ++ take (written + c.in-Ok.count) bytes =
          ap (λ (t : List ℕ). so_far ++ take c.in-Ok.count t) c.split_at.ensures.back ∙ written_on s bytes written c.in-Ok.count in
          subst (g.D.Drive.has c.write_some.new.self) same (c.in-Ok.ensures.written so_far (c.loop-written.invariant.has s here));
      kept = c.write_some.ensures.kept ∙ c.loop-written.invariant.kept;
      stays = λ failed. c.write_some.ensures.stays (c.loop-written.invariant.stays failed);
    }

pub returns-in-Err-clause-part : goal.returns-in-Err-clause-part
returns-in-Err-clause-part g c = λ s here.
    let bytes = c.args.bytes.now in
    let written = c.loop-written.written in (
      take written bytes,
      c.in-Err.ensures.unwritten (s ++ take written bytes) (c.loop-written.invariant.has s here),
      (drop written bytes, sym (take-append-drop written bytes)),
    )
