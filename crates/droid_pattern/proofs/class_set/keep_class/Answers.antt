-- The places that are also in the set of the class.
use Rattle.std.proofs.Common.{◌∙◌, arith}
use Rattle.std.proofs.lemmas.List.{get_or-set_same}
use Rattle.droid_pattern.proofs.BitLemmas.{place_below}
use Rattle.droid_pattern.proofs.ClassLemmas.{kept_by}
use Rattle.droid_pattern.proofs.class_set.keep_class.Goals as goal

pub returns-clause-kept : goal.returns-clause-kept
returns-clause-kept c =
    let same = c.index.ensures ∙ get_or-set_same c.fill_slots.new.sets.items c.slot-slot.result c.prepare.new.self _ (omega (arith, c.in_ok-fill_slots.ensures.count)) in
    kept_by c.args.direction c.args.bytes.now c.prepare.new.self.class c.args.class c.args.bits.now c.prepare.new.self.bits _
    c.in_ok-prepare.ensures.class (omega (arith, c.in_ok-prepare.ensures.count, c.len.ensures)) c.prepare.ensures.bits
    (place_below c.args.bits.now) (rw same at c.keep.ensures)
