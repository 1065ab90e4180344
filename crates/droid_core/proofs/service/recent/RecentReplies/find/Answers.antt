use Rattle.std.proofs.Common.{sym, ap, ◌∙◌, option_copied}
use Rattle.droid_core.specs.Recent.{is_same}
use Rattle.droid_core.proofs.RecentRows.{found_kept, copied_kept, promoted_kept}
use Rattle.droid_core.proofs.service.recent.RecentReplies.find.Goals as goal

pub returns-in_err-row-clause-kept : goal.returns-in_err-row-clause-kept
returns-in_err-row-clause-kept c = λ history all.
    promoted_kept history (is_same (c.args.client, c.args.number)) c.args.self.now.rows c.promote.new.self c.promote.ensures.entries all

pub returns-clause-found : goal.returns-clause-found
returns-clause-found c = λ history all.
    let here = promoted_kept history (is_same (c.args.client, c.args.number)) c.args.self.now.rows c.promote.new.self c.promote.ensures.entries all in
    let found = sym c.peek.ensures ∙ ap option_copied c.in_ok-row.was in
    copied_kept history (c.args.client, c.args.number) c.in_ok-row.row.now c.copy_of.result c.copy_of.ensures
    (found_kept history c.promote.new.self.entries (c.args.client, c.args.number) c.in_ok-row.row.now here found)

pub returns-clause-kept : goal.returns-clause-kept
returns-clause-kept c = λ history all.
    promoted_kept history (is_same (c.args.client, c.args.number)) c.args.self.now.rows c.promote.new.self c.promote.ensures.entries all
