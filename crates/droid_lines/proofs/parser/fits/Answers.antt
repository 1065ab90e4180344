use Rattle.droid_lines.proofs.Fitting.{test_is}
use Rattle.droid_lines.proofs.parser.fits.Goals as goal

pub returns-clause-test : goal.returns-clause-test
returns-clause-test c = test_is c.fits.result c.args.version c.args.request.now c.fits.ensures.0 c.fits.ensures.1
