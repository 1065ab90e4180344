use Rattle.std.proofs.Common.{◌∙◌, ◌++◌, List, ℕ, length, refl, ap, subst, arith}
use Rattle.std.proofs.lemmas.List.{length-append}
use Rattle.droid_journal.specs.declared.records.place.Place.{Place}
use Rattle.droid_journal.proofs.Chains.{last_count}
use Rattle.droid_compaction.specs.Aims.{Aim}
use Rattle.droid_compaction.specs.Shortening.{smaller_by}
use Rattle.droid_compaction.proofs.Writing.{begun, ended_by}
use Rattle.droid_compaction.proofs.new_file.write_anew.Goals as goal

pub returns-in-Ok-flush-clause-written : goal.returns-in-Ok-flush-clause-written
returns-in-Ok-flush-clause-written g c = λ s have_ended here empty ended.
    let new = c.args.new_header.now in
    let aim : Aim = record { header = new; ended = have_ended } in
    let all = c.in-Ok.ensures.whole s here in
    let st = all.2 aim (begun g.N.LogFile.has aim _ empty c.in_ok-out.ensures.items c.key_of.ensures c.first_place.ensures ended c.new-stamps.ensures refl) in
    let out : List ℕ = c.take_whole.new.taker.out.items in
    let mark : List ℕ = c.turn_mark-mark.result in
    let joined = ap (λ (t : List ℕ). st.written ++ t) c.in_ok-extend_from_slice.ensures.items ∙ ended_by g.N.LogFile.has aim c.take_whole.new.taker all.0 st mark c.turn_mark-mark.ensures in (
      all.0,
      all.1,
      st.fit,
      subst (g.N.LogFile.has _) joined (c.in-Ok-flush.ensures.written st.written st.there),
      all.3,
      record {
        records_are = ap (λ (p : Place). p.records) st.place_is ∙ last_count new (smaller_by have_ended all.0);
        bytes_are = omega (arith, c.in-Ok-flush.ensures.bytes, st.bytes_are, ap length joined, length-append st.written c.extend_from_slice.new.self.items);
      },
    )
