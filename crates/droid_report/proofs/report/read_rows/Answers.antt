use Rattle.std.proofs.Common.{◌∙◌, [], refl, inl, inr}
use Rattle.csv.specs.Reading.{error_kind, strip_bom}
use Rattle.csv.specs.Records.{fields_of}
use Rattle.droid_report.specs.Rows.{nothing_read, lines_of}
use Rattle.droid_export.proofs.RecordReading.{ends_reading, next_read}
use Rattle.droid_report.proofs.Reading.{left_end, left_fault, left_more}
use Rattle.droid_report.proofs.report.read_rows.Goals as goal

pub loop-row-init : goal.loop-row-init
loop-row-init c =
    let fr = c.from_reader-reader.ensures in
    let e = c.has_headers.ensures in
    let f = c.flexible.ensures in
    let start = c.into_iter-row-iterator.ensures.into_iter_gives ∙ refl in
    let rdr = c.into_byte_records-row-items.ensures.rdr in
    let left = c.into_byte_records-row-items.ensures.left in
    rw (start, rdr) (
      rw (f, e) at fr.trim ∙ c.new.ensures.trim,
      inr (inr (rw (f, e) at fr.has_headers, fr.headers)),
      left,
      rw (f, e) at fr.config ∙ c.new.ensures.config,
      rw f at fr.flexible,
      strip_bom c.args.text.now,
      fr.source,
      λ records are. rw fr.state (nothing_read, c.requires, (records, are, refl)),
    )

pub loop-row-preserved : goal.loop-row-preserved
loop-row-preserved c =
    let inv = c.loop-row.invariant in
    let s = rw (c.in-Some.is, c.in-Ok.is) at ((c.next.ensures.steps inv.2 inv.0).0 inv.1) in
    let n = next_read c.loop-row.row-iterator.rdr c.next.new.self.rdr inv.5 (fields_of c.in-Ok.row) inv.3 inv.6 s.0 in (
      s.0.3 ∙ inv.0,
      inl s.1,
      s.2,
      s.0.2 ∙ inv.3,
      rw (c.in-Some.is, c.in-Ok.is) at ((c.next.ensures.steps inv.2 inv.0).3) ∙ inv.4,
      n.rest,
      n.source,
      λ records are.
          let old = inv.7 records are in
          let step = c.in_default.ensures old.0 old.1 in
          (step.0, step.2, left_more c.loop-row.row-iterator.rdr c.next.new.self.rdr inv.5 (fields_of c.in-Ok.row) n old.0 step.0 (lines_of records) step.1 old.2),
    )

pub returns : goal.returns
returns c = λ records are.
    let inv = c.loop-row.invariant in
    let s = rw c.in-None.is at ((c.next.ensures.steps inv.2 inv.0).0 inv.1) in
    let old = inv.7 records are in
    let whole = left_end c.loop-row.row-iterator.rdr c.next.new.self.rdr inv.5 [] old.0 (lines_of records) inv.3 inv.6 s old.2 in
    rw whole (c.finish.ensures old.0 old.1)

pub returns-in-Err-take : goal.returns-in-Err-take
returns-in-Err-take c = λ records are some.
    let inv = c.loop-row.invariant in
    let s = rw (c.in-Some.is, c.in-Ok.is) at ((c.next.ensures.steps inv.2 inv.0).0 inv.1) in
    let n = next_read c.loop-row.row-iterator.rdr c.next.new.self.rdr inv.5 (fields_of c.in-Ok.row) inv.3 inv.6 s.0 in
    let old = inv.7 records are in
    left_fault c.loop-row.row-iterator.rdr c.next.new.self.rdr inv.5 (fields_of c.in-Ok.row) n old.0 c.in-Err-take.fault (lines_of records) (c.in-Err-take.ensures old.0 old.1 some) old.2

pub no_memory-requires : goal.no_memory-requires
no_memory-requires c =
    let inv = c.loop-row.invariant in
    ends_reading c.loop-row.row-iterator.rdr c.next.new.self.rdr (error_kind c.in-Err.error) inv.4 (rw (c.in-Some.is, c.in-Err.is) at ((c.next.ensures.steps inv.2 inv.0).0 inv.1))
