use Rattle.droid_fixity.proofs.checksum_lists.path_text.add_spelled.Goals as goal

pub returns-in_ok-spells-in-Backslash : goal.returns-in_ok-spells-in-Backslash
returns-in_ok-spells-in-Backslash c = rw c.in-Backslash.is c.in_ok-spells-in-Backslash.ensures
