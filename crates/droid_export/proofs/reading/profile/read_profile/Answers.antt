use Rattle.std.proofs.Common.{◌∙◌, ◌++◌, Bool, inl, ap}
use Rattle.csv.specs.Records.{fields_of}
use Rattle.droid_export.specs.ReadingCalls.{draft_of}
use Rattle.droid_export.specs.FormatRows.{format_rows, rows_added, rows_if}
use Rattle.droid_export.specs.Profiles.{profile_of}
use Rattle.droid_export.proofs.RecordReading.{next_read}
use Rattle.droid_export.proofs.ProfileReading.{finished_gives, left_end, left_fault, left_more}
use Rattle.droid_export.proofs.reading.profile.read_profile.Goals as goal

pub loop-preserved : goal.loop-preserved
loop-preserved c =
    let inv = c.loop.invariant in
    let read = rw c.in-Ok-true.field-0-test at (c.in-Ok-true.ensures.reads inv.0 inv.1) in
    let fields = fields_of c.read_byte_record.new.row in
    let n = next_read c.loop.reader c.read_byte_record.new.self inv.5 fields inv.2 inv.6 read in
    let adds = c.in_default-take.ensures.formats in
    let kept = c.loop.draft.formats.rows.items in
    let grown = adds.added ∙ ap (λ (all : Bool). kept ++ rows_added all (draft_of c.loop.draft).stage fields) inv.4 in (
      read.3 ∙ inv.0,
      inl (c.in-Ok-true.ensures.ready inv.0),
      read.2 ∙ inv.2,
      c.in-Ok-true.ensures.flexible ∙ inv.3,
      adds.kept ∙ inv.4,
      n.rest,
      n.source,
      λ records are.
          left_more c.loop.reader c.read_byte_record.new.self inv.5 fields n (draft_of c.loop.draft) (draft_of c.take.new.self) c.args.formats kept c.take.new.self.formats.rows.items
          (profile_of c.args.formats records) (rows_if c.args.formats (format_rows records)) c.in_default-take.ensures.draft grown (inv.7 records are),
    )

pub returns-in-Ok-false : goal.returns-in-Ok-false
returns-in-Ok-false c = λ records are.
    let inv = c.loop.invariant in
    let read = rw c.in-Ok-false.field-0-test at (c.in-Ok-false.ensures.reads inv.0 inv.1) in
    let ends = left_end c.loop.reader c.read_byte_record.new.self inv.5 (fields_of c.read_byte_record.new.row) (draft_of c.loop.draft) c.args.formats c.loop.draft.formats.rows.items
    (profile_of c.args.formats records) (rows_if c.args.formats (format_rows records)) inv.2 inv.6 read (inv.7 records are) in
    finished_gives c.args.formats records (draft_of c.loop.draft) c.loop.draft.formats.rows c.finish.result c.finish.ensures.items c.finish.ensures.formats ends.0 ends.1

pub returns-in-Err-take : goal.returns-in-Err-take
returns-in-Err-take c = λ records are some.
    let inv = c.loop.invariant in
    let read = rw c.in-Ok-true.field-0-test at (c.in-Ok-true.ensures.reads inv.0 inv.1) in
    let fields = fields_of c.read_byte_record.new.row in
    let n = next_read c.loop.reader c.read_byte_record.new.self inv.5 fields inv.2 inv.6 read in
    left_fault c.loop.reader c.read_byte_record.new.self inv.5 fields n (draft_of c.loop.draft) c.args.formats c.loop.draft.formats.rows.items c.in-Err-take.fault
    (profile_of c.args.formats records) (rows_if c.args.formats (format_rows records)) (c.in-Err-take.ensures.draft some) (inv.7 records are)
