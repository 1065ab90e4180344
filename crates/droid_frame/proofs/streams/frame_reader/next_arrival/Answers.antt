use Rattle.std.proofs.Common.{Err, ap, sym}
use Rattle.droid_frame.specs.declared.streams.fault.FrameFault.{FrameFault}
use Rattle.droid_frame.proofs.StreamCounts.{counts_judged, counts_passed}
use Rattle.droid_frame.proofs.StreamArrivals.{header_fault, length_fault, body_fault, frame_came, good_is, passed_fault}
use Rattle.droid_frame.proofs.streams.frame_reader.next_arrival.Goals as goal

pub returns-in_err-header-clause-came : goal.returns-in_err-header-clause-came
returns-in_err-header-clause-came g c =
    let fault = c.in_err-header.field-0.0 in
    passed_fault _ _ c.from_residual.result fault c.from_residual.ensures.1 (header_fault _ _ fault c.in_err-header.ensures.came)

pub returns-in_err-length-clause-came : goal.returns-in_err-length-clause-came
returns-in_err-length-clause-came g c =
    let fault = c.in_err-length.field-0.0 in
    let came = rw c.in-Some.is at c.in_ok-header.ensures.came in
    passed_fault _ _ c.from_residual-in_err-length.result fault c.from_residual-in_err-length.ensures.1
    (length_fault _ _ c.in-Some.header fault came.0 came.1 (sym c.in_err-length.ensures.judged))

pub returns-in_err-body-clause-came : goal.returns-in_err-body-clause-came
returns-in_err-body-clause-came g c =
    let fault = c.in_err-body.field-0.0 in
    let came = rw c.in-Some.is at c.in_ok-header.ensures.came in
    passed_fault _ _ c.from_residual-in_err-body.result fault c.from_residual-in_err-body.ensures.1
    (body_fault _ _ _ c.in-Some.header c.in_ok-length.length fault (good_is c.in-Some.header c.in_ok-length.length came.0 (sym c.in_ok-length.ensures.judged)) came.1 c.in_err-body.ensures.came)

pub returns-clause-came : goal.returns-clause-came
returns-clause-came g c =
    let came = rw c.in-Some.is at c.in_ok-header.ensures.came in
    frame_came _ _ _ c.in-Some.header c.in_ok-length.length c.in_ok-body.body (good_is c.in-Some.header c.in_ok-length.length came.0 (sym c.in_ok-length.ensures.judged)) came.1 c.in_ok-body.ensures.came

pub returns-in_err-header-clause-counts : goal.returns-in_err-header-clause-counts
returns-in_err-header-clause-counts g c = λ start counts.
    counts_passed start _ _ c.in_err-header.field-0.0 c.from_residual.result c.from_residual.ensures.1 (c.in_err-header.ensures.counts start counts)

pub returns-in_err-length-clause-counts : goal.returns-in_err-length-clause-counts
returns-in_err-length-clause-counts g c = λ start counts.
    let fault = c.in_err-length.field-0.0 in
    counts_passed start _ _ fault c.from_residual-in_err-length.result c.from_residual-in_err-length.ensures.1
    (counts_judged start _ _ fault (λ e. c.in_err-length.ensures.fault (ap (λ (f : FrameFault). Err f) e)) (c.in_ok-header.ensures.counts start counts))

pub returns-in_err-body-clause-counts : goal.returns-in_err-body-clause-counts
returns-in_err-body-clause-counts g c = λ start counts.
    counts_passed start _ _ c.in_err-body.field-0.0 c.from_residual-in_err-body.result c.from_residual-in_err-body.ensures.1
    (c.in_err-body.ensures.counts start (c.in_ok-header.ensures.counts start counts))

pub returns-clause-counts : goal.returns-clause-counts
returns-clause-counts g c = λ start counts. c.in_ok-body.ensures.counts start (c.in_ok-header.ensures.counts start counts)
