use Rattle.droid_frame.specs.declared.streams.fault.FrameFault.TheVariants.{Read}
use Rattle.droid_frame.proofs.StreamCounts.{counts_passed}
use Rattle.droid_frame.proofs.streams.frame_reader.read_body.Goals as goal

pub returns-in_err-count-clause-counts : goal.returns-in_err-count-clause-counts
returns-in_err-count-clause-counts g c = λ start counts.
    counts_passed start _ _ Read c.from_residual-in_err-count.result c.from_residual-in_err-count.ensures.1 (c.in_err-count.ensures.counts start counts)
