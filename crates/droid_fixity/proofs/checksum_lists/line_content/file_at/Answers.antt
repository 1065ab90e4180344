use Rattle.std.proofs.Common.{◌∙◌}
use Rattle.droid_fixity.specs.Spellings.{spelled}
use Rattle.droid_fixity.proofs.Meanings.{path_says}
use Rattle.droid_fixity.proofs.checksum_lists.line_content.file_at.Goals as goal

pub returns : goal.returns
returns c =
    let spells = rw (c.if-not-branch.false, c.in_ok-push.ensures.items, c.in_ok-path.ensures.items) at c.in_ok-add_spelled.ensures in
    c.meaning_of_path.ensures ∙ path_says c.args.hash (spelled c.args.escapes c.args.text.now) c.add_spelled.new.path.items spells
