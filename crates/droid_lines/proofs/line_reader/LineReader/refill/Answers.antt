use Rattle.droid_frame.proofs.Scopes.{given_up}
use Rattle.droid_lines.proofs.line_reader.LineReader.refill.Goals as goal

pub returns-in_err-self-inside-clause-counts : goal.returns-in_err-self-inside-clause-counts
returns-in_err-self-inside-clause-counts g c = λ start counts.
    given_up start _ _ c.from_residual.result _ c.from_residual.ensures.1 (c.in_err-self-inside.ensures.counts start counts)
