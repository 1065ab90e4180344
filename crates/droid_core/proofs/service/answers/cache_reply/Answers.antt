use Rattle.std.proofs.Common.{sym, ◌∙◌}
use Rattle.droid_core.proofs.service.answers.cache_reply.Goals as goal

pub returns-clause-kept : goal.returns-clause-kept
returns-clause-kept c = λ history all its.
    let unrefused = sym c.is_refused.ensures ∙ c.if-is_refused.false in
    c.put_reply.ensures.kept history all (its c.if-not-commands.false unrefused)
