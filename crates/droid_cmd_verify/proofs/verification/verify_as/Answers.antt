use Rattle.std.proofs.Common.{◌∙◌, sym}
use Rattle.droid_cmd_verify.proofs.verification.verify_as.Goals as goal

pub returns-then-by_moments-clause-verified : goal.returns-then-by_moments-clause-verified
returns-then-by_moments-clause-verified g c =
    rw (sym c.by_moments.ensures ∙ c.if-by_moments.true) (rw (c.walk_options-walk.ensures.options, c.is_some.ensures) at c.list_files.ensures.verified)

pub returns-else-by_moments-clause-verified : goal.returns-else-by_moments-clause-verified
returns-else-by_moments-clause-verified g c =
    rw (sym c.by_moments.ensures ∙ c.if-by_moments.false) (rw (c.walk_options-walk.ensures.options, c.is_some.ensures) at c.read_files.ensures.verified)
