use Rattle.droid_frame.specs.declared.streams.fault.FrameFault.TheVariants.{Read}
use Rattle.droid_frame.proofs.StreamCounts.{counts_passed}
use Rattle.droid_frame.proofs.streams.frame_reader.read_header.Goals as goal

pub returns-in_err-fill-clause-counts : goal.returns-in_err-fill-clause-counts
returns-in_err-fill-clause-counts g c = λ start counts. counts_passed start _ _ Read c.from_residual.result c.from_residual.ensures.1 (c.in_err-fill.ensures.counts start counts)
