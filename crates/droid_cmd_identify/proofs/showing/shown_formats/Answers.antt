use Rattle.std.proofs.lemmas.Result.{IfOk-weaker}
use Rattle.droid_cmd_identify.proofs.ShownLemmas.{named_known}
use Rattle.droid_cmd_identify.proofs.showing.shown_formats.Goals as goal

pub returns-in-Extension : goal.returns-in-Extension
returns-in-Extension c =
    IfOk-weaker c.shown_by_extension.result _ _ (λ shown are file limit match_all is.
    let known = named_known c.args.registry.now c.len.ensures.rules c.args.name.now file limit match_all c.args.identity.now.found is.found c.in-Extension.is in
    rw c.in-Extension.is ((rw (c.as_slice-puids.ensures, c.extension.ensures) at are) known)) c.shown_by_extension.ensures
