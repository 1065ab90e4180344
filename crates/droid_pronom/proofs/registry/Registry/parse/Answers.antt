use Rattle.std.proofs.Common.{◌∙◌, [], refl, inl, inr, arith}
use Rattle.csv.specs.Reading.{error_kind, strip_bom}
use Rattle.csv.specs.Records.{fields_of}
use Rattle.droid_pronom.specs.RegistryFile.{too_long, read}
use Rattle.droid_pronom.specs.RegistryCalls.{draft_of}
use Rattle.droid_pronom.proofs.RegistryReading.{ends_reading, next_read, outcome_taken, outcome_refused, outcome_end}
use Rattle.droid_pronom.proofs.registry.Registry.parse.Goals as goal

pub returns-then-bytes-gt-BYTES_LIMIT : goal.returns-then-bytes-gt-BYTES_LIMIT
returns-then-bytes-gt-BYTES_LIMIT c = λ _. too_long c.if-bytes-gt-BYTES_LIMIT.true

pub loop-row-init : goal.loop-row-init
loop-row-init c =
    let fr = c.from_reader-reader.ensures in
    let e = c.has_headers.ensures in
    let f = c.flexible.ensures in
    let start = c.into_iter-row-iterator.ensures.into_iter_gives ∙ refl in
    let rdr = c.into_byte_records-row-items.ensures.rdr in
    let left = c.into_byte_records-row-items.ensures.left in
    rw (start, rdr) (
      rw (f, e) at fr.trim ∙ c.new.ensures.trim,
      inr (inr (rw (f, e) at fr.has_headers, fr.headers)),
      left,
      rw (f, e) at fr.config ∙ c.new.ensures.config,
      rw f at fr.flexible,
      strip_bom c.args.bytes.now,
      fr.source,
      λ r o. rw (c.new-draft.ensures, fr.state) at o,
    )

pub overflow_add-at : goal.overflow_add-at
overflow_add-at c = omega (arith, c.records-at.ensures.small)

pub loop-row-preserved : goal.loop-row-preserved
loop-row-preserved c =
    let inv = c.loop-row.invariant in
    let s = rw (c.in-Some.is, c.in-Ok.is) at ((c.next.ensures.steps inv.2 inv.0).0 inv.1) in
    let n = next_read c.loop-row.row-iterator.rdr c.next.new.self.rdr inv.5 (fields_of c.in-Ok.row) inv.3 inv.6 s.0 in (
      s.0.3 ∙ inv.0,
      inl s.1,
      s.2,
      s.0.2 ∙ inv.3,
      rw (c.in-Some.is, c.in-Ok.is) at ((c.next.ensures.steps inv.2 inv.0).3) ∙ inv.4,
      n.rest,
      n.source,
      λ r o. inv.7 r (outcome_taken c.loop-row.row-iterator.rdr c.next.new.self.rdr inv.5 (fields_of c.in-Ok.row) n (draft_of c.loop-row.draft) (draft_of c.take.new.self) c.in_default.ensures r o),
    )

pub returns-in-Err-take : goal.returns-in-Err-take
returns-in-Err-take c =
    let inv = c.loop-row.invariant in
    let s = rw (c.in-Some.is, c.in-Ok.is) at ((c.next.ensures.steps inv.2 inv.0).0 inv.1) in
    let n = next_read c.loop-row.row-iterator.rdr c.next.new.self.rdr inv.5 (fields_of c.in-Ok.row) inv.3 inv.6 s.0 in
    rw (c.at.ensures, c.records-at.ensures.count) (
    λ some. read c.if-bytes-gt-BYTES_LIMIT.false (inv.7 _ (outcome_refused c.loop-row.row-iterator.rdr c.next.new.self.rdr inv.5 (fields_of c.in-Ok.row) n (draft_of c.loop-row.draft) (draft_of c.take.new.self) c.in-Err-take.refusal c.in-Err-take.ensures some)))

pub returns : goal.returns
returns c = λ _.
    let inv = c.loop-row.invariant in
    let s = rw c.in-None.is at ((c.next.ensures.steps inv.2 inv.0).0 inv.1) in
    read c.if-bytes-gt-BYTES_LIMIT.false (inv.7 _ (outcome_end c.loop-row.row-iterator.rdr c.next.new.self.rdr inv.5 [] (draft_of c.loop-row.draft) inv.3 inv.6 s))

pub csv_fault-requires : goal.csv_fault-requires
csv_fault-requires c =
    let inv = c.loop-row.invariant in
    ends_reading c.loop-row.row-iterator.rdr c.next.new.self.rdr (error_kind c.in-Err.error) inv.4 (rw (c.in-Some.is, c.in-Err.is) at ((c.next.ensures.steps inv.2 inv.0).0 inv.1))
