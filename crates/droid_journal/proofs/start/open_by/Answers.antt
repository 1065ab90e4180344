use Rattle.std.proofs.Common.{◌≡◌, Err, ap}
use Rattle.droid_journal.specs.declared.journal_fault.Fault.TheVariants as faults
use Rattle.droid_journal.proofs.Openings.{no_begun}
use Rattle.droid_journal.proofs.start.open_by.Goals as goal

pub open_whole-requires-clause-begins : goal.open_whole-requires-clause-begins
open_whole-requires-clause-begins g c = λ s here. rw c.in-Whole.is at (c.in-Ok.ensures.begins s here)

pub open_whole-requires-clause-kept : goal.open_whole-requires-clause-kept
open_whole-requires-clause-kept g c = λ s here. c.requires.kept s here (rw c.in-Whole.is at (c.in-Ok.ensures.begins s here))

pub open_begun-requires-clause-begins : goal.open_begun-requires-clause-begins
open_begun-requires-clause-begins g c = λ s here. rw c.in-Part.is at (c.in-Ok.ensures.begins s here)

pub open_begun-requires-clause-count : goal.open_begun-requires-clause-count
open_begun-requires-clause-count g c = rw c.in-Part.is at c.in-Ok.ensures.part

pub returns-in-Err-clause-damage : goal.returns-in-Err-clause-damage
returns-in-Err-clause-damage g c = λ n reported s here.
    let same : c.in-Err.fault ≡ faults.Damage n = cc in
    absurd ((c.in-Err.ensures.others n).0 (ap Err same))

pub returns-in-Err-clause-refuted : goal.returns-in-Err-clause-refuted
returns-in-Err-clause-refuted g c = λ n reported setting s here st.
    let same : c.in-Err.fault ≡ faults.Record n = cc in
    absurd ((c.in-Err.ensures.others n).1 (ap Err same))

pub returns-in-Err-clause-other_header : goal.returns-in-Err-clause-other_header
returns-in-Err-clause-other_header g c = λ reported s here.
    let same : c.in-Err.fault ≡ faults.Header = cc in
    c.in-Err.ensures.other (ap Err same) s here

pub returns-in-Whole-clause-other_header : goal.returns-in-Whole-clause-other_header
returns-in-Whole-clause-other_header g c = λ reported s here. absurd (c.open_whole.ensures.others reported)

pub returns-in-Ok-open_begun-clause-stays : goal.returns-in-Ok-open_begun-clause-stays
returns-in-Ok-open_begun-clause-stays g c = λ s here its form fits whole. absurd (no_begun c.args.header.now s its c.in-Part.count (rw c.in-Part.is at (c.in-Ok.ensures.begins s here)) whole)
